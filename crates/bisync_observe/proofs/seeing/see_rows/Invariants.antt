use Rattle.std.proofs.Common.{◌≡◌}
use Rattle.std.specs.Vec.Iter.{into_iter_items}
use Rattle.bisync_filter.specs.Passing.{rules_pass}
use Rattle.bisync_observe.specs.Seeing.{IsRoom}
use Rattle.bisync_observe.proofs.SeenLemmas.{Seeing}
use Rattle.bisync_observe.proofs.seeing.see_rows.Given as goal

abbrev pub invariant-loop-path : goal.invariant-loop-path
invariant-loop-path g l =
    (goal.iterator-loop-path g).can_next l.path-iterator ×
    (goal.iterator-loop-path g).is_finite l.path-iterator ×
    (l.filter.rules.now ≡ l.rules) ×
    IsRoom l.compare.hash l.buffer ×
    Seeing g.R.Remote.tells l.compare.hash (rules_pass l.rules) l.fn.rows.items (into_iter_items l.path-iterator) (g.R.Remote.state l.initial.remote) (g.R.Remote.state l.remote) l.names l.listing
