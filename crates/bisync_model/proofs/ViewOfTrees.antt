-- A view of two trees tells what these trees have, and so do their listings.
use Rattle.std.proofs.Common.{◌≡◌, Bool, true, cond, [], None, refl, ◌∙◌, ap}
use Rattle.std.specs.Prelude.{option_map, is_some}
use Rattle.bisync_tree.specs.Rows.{PathBytes, Rows, look, listing_of}
use Rattle.bisync_tree.specs.Tree.{Tree, file_at, entry}
use Rattle.bisync_tree.specs.Walk.{listings, paths_of}
use Rattle.bisync_tree.specs.declared.sides.Side.{Side}
use Rattle.bisync_tree.specs.declared.sides.Side.TheVariants.{One, Two}
use Rattle.bisync_tree.specs.declared.windows.Window.{Window}
use Rattle.bisync_tree.specs.declared.entries.Compare.{Compare}
use Rattle.bisync_tree.specs.declared.options.ConflictRule.{ConflictRule}
use Rattle.bisync_tree.specs.declared.options.Prefer.{Prefer}
use Rattle.bisync_tree.specs.declared.views.View.{View}
use Rattle.bisync_tree.proofs.ListingLemmas.{look-listing_of}
use Rattle.bisync_model.specs.Trees.{trees_of}
use Rattle.bisync_model.specs.Known.{Known, AreListed}
use Rattle.bisync_model.specs.Runs.{IsResync}
use Rattle.bisync_model.specs.Views.{known_of, resync_known_of, IsViewOf}
use Rattle.bisync_model.proofs.PathsOfWalk.{walk_paths}

look_passing : (c : Compare) (passes : PathBytes → Bool) (tree : Tree) (rows : Rows) → rows ≡ listing_of c passes tree → (p : PathBytes) → passes p ≡ true
    → look rows p ≡ option_map (entry c) (file_at tree p)
look_passing c passes tree rows is p e =
    ap (λ r. look r p) is ∙ look-listing_of c passes tree p ∙ ap (λ b. cond b (option_map (entry c) (file_at tree p)) None) e

pub view_listed : (conflict : ConflictRule) (compare : Compare) (passes : PathBytes → Bool) (window1 window2 : Window) (one two : Tree) (view : View)
    → IsViewOf compare passes one two view → AreListed (known_of conflict compare passes window1 window2 view) (trees_of one two)
view_listed conflict compare passes window1 window2 one two view is = record { now = now; is_there = is_there }
  where
    now : (side : Side) (p : PathBytes) → passes p ≡ true
        → (known_of conflict compare passes window1 window2 view).now side p ≡ option_map (entry compare) (trees_of one two side p)
    now One p e = look_passing compare passes one view.now1 is.now1 p e
    now Two p e = look_passing compare passes two view.now2 is.now2 p e

    is_there : (side : Side) (p : PathBytes) → (known_of conflict compare passes window1 window2 view).is_there side p ≡ is_some (trees_of one two side p)
    is_there One p = is.names1 p
    is_there Two p = is.names2 p

module _ (mode : Prefer) (compare : Compare) (passes : PathBytes → Bool) (window1 window2 : Window) (one two : Tree) where
  abbrev now1 : Rows
  now1 = listing_of compare passes one

  abbrev now2 : Rows
  now2 = listing_of compare passes two

  abbrev known : Known
  known = resync_known_of mode compare passes window1 window2 now1 now2

  listed : (side : Side) (p : PathBytes) → passes p ≡ true → known.now side p ≡ option_map (entry compare) (trees_of one two side p)
  listed One p e = look_passing compare passes one now1 refl p e
  listed Two p e = look_passing compare passes two now2 refl p e

  pub resync_listed : IsResync known (trees_of one two) (paths_of (listings [] [] now1 now2))
  resync_listed = record { listed = listed; through = walk_paths known (listings [] [] now1 now2) (λ p. refl) (λ p. refl) }
