-- The numbers of changes of a good end are those that the sides counted, each where it tells.
use Rattle.std.proofs.Common.{◌≡◌, ◌⊎◌, ◌+◌, ◌∙◌, ℕ, Bool, ap, subst, sym, inl, inr, true}
use Rattle.bisync_tree.specs.declared.sides.Side.{Side}
use Rattle.bisync_tree.specs.declared.sides.Side.TheVariants.{One, Two}
use Rattle.bisync_model.specs.Trees.{by_side}
use Rattle.bisync_device.specs.Remote.{RemoteState, KeepsTree}
use Rattle.bisync_report.specs.declared.ends.End.{End}
use Rattle.bisync_report.specs.declared.ends.End.TheVariants.{Done, Resynced}
use Rattle.bisync_run.specs.Closing.{EndsWith}
use Rattle.bisync_run.specs.CountedChanges.{HasCounted, CountsChanges}
use Rattle.bisync_run.specs.EndKinds.{is_good}
use Rattle.bisync_run.specs.Untouched.{Remotes}
use Rattle.bisync_run.proofs.ToldEnds.{good_told}

-- sides that were only looked at counted nothing
pub counted_since : (tells1 tells2 : Bool) (a b a2 b2 : RemoteState) → KeepsTree tells1 a a2 → KeepsTree tells2 b b2
    → (now : Remotes) (one two : ℕ) → HasCounted (by_side tells1 tells2) (by_side a2 b2) now one two → HasCounted (by_side tells1 tells2) (by_side a b) now one two
counted_since tells1 tells2 a b a2 b2 first second now one two x One t = x One t ∙ ap (λ n. n + one) (first t).changes
counted_since tells1 tells2 a b a2 b2 first second now one two x Two t = x Two t ∙ ap (λ n. n + two) (second t).changes

-- the last line leaves a good end
module _ (tells : Side → Bool) (start now : Remotes) (end last : End) (ends : EndsWith end last) (counts : is_good end ≡ true → CountsChanges tells start now end) where
  counted_last : is_good last ≡ true → CountsChanges tells start now last
  counted_last good =
      let told = good_told end last ends good in
      subst (CountsChanges tells start now) (sym told) (counts (ap is_good (sym told) ∙ good))

  pub counted_told : (one two : ℕ) → (last ≡ Done one two) ⊎ (last ≡ Resynced one two) → HasCounted tells start now one two
  counted_told one two (inl is) = subst (CountsChanges tells start now) is (counted_last (ap is_good is))
  counted_told one two (inr is) = subst (CountsChanges tells start now) is (counted_last (ap is_good is))
