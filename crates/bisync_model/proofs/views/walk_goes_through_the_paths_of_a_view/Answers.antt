use Rattle.std.proofs.Common.{refl}
use Rattle.bisync_tree.specs.Walk.{listings_of}
use Rattle.bisync_model.specs.Views.{known_of}
use Rattle.bisync_model.proofs.PathsOfWalk.{walk_paths}
use Rattle.bisync_model.proofs.views.walk_goes_through_the_paths_of_a_view.Goals as goal

pub returns : goal.returns
returns c = λ conflict compare passes window1 window2 view.
    walk_paths (known_of conflict compare passes window1 window2 view) (listings_of view) (λ p. refl) (λ p. refl)
