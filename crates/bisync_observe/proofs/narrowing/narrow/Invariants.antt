use Rattle.std.proofs.Common.{◌≡◌, take}
use Rattle.bisync_filter.specs.Passing.{rules_pass}
use Rattle.bisync_tree.specs.Rows.{passing}
use Rattle.bisync_observe.proofs.narrowing.narrow.Given as goal

abbrev pub invariant-loop-i : goal.invariant-loop-i
invariant-loop-i l = (l.filter.rules.now ≡ l.rules) × (l.narrowed ≡ passing (rules_pass l.rules) (take l.i l.listing))
