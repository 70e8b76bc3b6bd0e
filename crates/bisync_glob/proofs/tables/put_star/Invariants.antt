use Rattle.std.proofs.Common.{◌≡◌, ℕ, ◌<◌, ◌≤◌, ◌==◌, not, Bool, List, false, get_or, length, drop}
use Rattle.bisync_glob.specs.Deciding.{IsTable, run_then}
use Rattle.bisync_glob.proofs.tables.put_star.Given as goal

abbrev pub invariant-loop-i : goal.invariant-loop-i
invariant-loop-i l = record {
  done : (q : List ℕ → Bool) → IsTable q l.text l.initial.table → (k : ℕ) → l.i ≤ k → k ≤ length l.text → get_or l.table k false ≡ run_then (λ c. not (c == 47)) q (drop k l.text);
  kept : (k : ℕ) → k < l.i → get_or l.table k false ≡ get_or l.initial.table k false;
}
