use Rattle.std.proofs.Common.{◌≡◌, ℕ, ◌<◌, ◌≤◌, ◌||◌, false, get_or}
use Rattle.bisync_glob.proofs.tables.unite.Given as goal

abbrev pub invariant-loop-k : goal.invariant-loop-k
invariant-loop-k l = record {
  done : (j : ℕ) → j < l.k → get_or l.union j false ≡ (get_or l.initial.union j false || get_or l.other j false);
  kept : (j : ℕ) → l.k ≤ j → get_or l.union j false ≡ get_or l.initial.union j false;
}
