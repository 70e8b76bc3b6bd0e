use Rattle.std.proofs.Common.{◌≡◌, ℕ, ◌+◌, ◌<◌, ◌≤◌, ◌&&◌, false, get_or}
use Rattle.bisync_glob.specs.Matching.{class_takes}
use Rattle.bisync_glob.proofs.tables.put_class.Given as goal

abbrev pub invariant-loop-i : goal.invariant-loop-i
invariant-loop-i l = record {
  done : (k : ℕ) → l.from ≤ k → k < l.i → get_or l.table k false ≡ (get_or l.initial.table (k + 1) false && class_takes l.class (get_or l.text k 0));
  below : (k : ℕ) → k < l.from → get_or l.table k false ≡ get_or l.initial.table k false;
  kept : (k : ℕ) → l.i ≤ k → get_or l.table k false ≡ get_or l.initial.table k false;
  none : l.any ≡ false → (k : ℕ) → l.from ≤ k → k < l.i → get_or l.table k false ≡ false;
}
