-- The paths of a walk are those that a run goes through.
use Rattle.std.proofs.Common.{◌≡◌, Bool, true, false, ◌||◌, Some, refl, sym, ◌∙◌}
use Rattle.bisync_tree.specs.Rows.{PathBytes, keys, look, is_among}
use Rattle.bisync_tree.specs.Walk.{Listings, paths_of}
use Rattle.bisync_tree.specs.declared.sides.Side.{Side}
use Rattle.bisync_tree.specs.declared.sides.Side.TheVariants.{One, Two}
use Rattle.bisync_tree.specs.declared.entries.Entry.{Entry}
use Rattle.bisync_tree.proofs.LookLemmas.{look_among}
use Rattle.bisync_tree.proofs.WalkLemmas.{among_paths, rising_paths}
use Rattle.bisync_model.specs.Known.{Known}
use Rattle.bisync_model.specs.Runs.{ArePaths}

third : (a b c d : Bool) → c ≡ true → (a || (b || (c || d))) ≡ true
third true b c d e = refl
third false true c d e = refl
third false false true d e = refl
third false false false d e = cc

fourth : (a b c d : Bool) → d ≡ true → (a || (b || (c || d))) ≡ true
fourth true b c d e = refl
fourth false true c d e = refl
fourth false false true d e = refl
fourth false false false d e = e

pub walk_paths : (known : Known) (l : Listings) → ((p : PathBytes) → known.now One p ≡ look l.now1 p) → ((p : PathBytes) → known.now Two p ≡ look l.now2 p) → ArePaths known (paths_of l)
walk_paths known l one two = record { rising = rising_paths l; covering = covering }
  where
    covering : (side : Side) (p : PathBytes) (listed : Entry) → known.policy.passes p ≡ true → known.now side p ≡ Some listed → is_among p (paths_of l) ≡ true
    covering One p listed passes e = among_paths l p ∙ third (is_among p (keys l.base1)) (is_among p (keys l.base2)) (is_among p (keys l.now1)) (is_among p (keys l.now2)) (look_among l.now1 p listed (sym (one p) ∙ e))
    covering Two p listed passes e = among_paths l p ∙ fourth (is_among p (keys l.base1)) (is_among p (keys l.base2)) (is_among p (keys l.now1)) (is_among p (keys l.now2)) (look_among l.now2 p listed (sym (two p) ∙ e))
