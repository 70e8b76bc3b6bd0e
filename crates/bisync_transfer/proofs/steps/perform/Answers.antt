use Rattle.std.proofs.Common.{Bool, IsTrue, Result, Ok, Err, inl, inr, refl, sym, subst}
use Rattle.bisync_tree.specs.Rows.{PathBytes}
use Rattle.bisync_tree.specs.declared.sides.Side.{Side}
use Rattle.bisync_tree.specs.declared.sides.Side.TheVariants.{One, Two}
use Rattle.bisync_tree.specs.declared.entries.Entry.{Entry}
use Rattle.bisync_tree.specs.declared.steps.Step.TheVariants.{Copy}
use Rattle.bisync_device.specs.Remote.{RemoteState, KeepsTree}
use Rattle.bisync_model.specs.Trees.{by_side}
use Rattle.bisync_transfer.specs.FileCopy.{IsListed, HasListed, CopyEffect, Copies}
use Rattle.bisync_transfer.specs.StepEffect.{Performs, IsDone, IsUndone}
use Rattle.bisync_transfer.specs.StepAnswer.{copy_answer}
use Rattle.bisync_transfer.specs.declared.copies.CopyFault.{CopyFault}
use Rattle.bisync_transfer.specs.declared.copies.CopyFault.TheVariants.{Source, Destination, Moved}
use Rattle.bisync_transfer.proofs.steps.perform.Goals as goal

both : (tells : Side → Bool) (before after : Side → RemoteState) → KeepsTree (tells One) (before One) (after One) → KeepsTree (tells Two) (before Two) (after Two) → IsUndone tells before after
both tells before after one two One = one
both tells before after one two Two = two

module _ (path : PathBytes) (listed : Entry) (one two one' two' : RemoteState) (tells1 tells2 : Bool) where
  -- the source's file is there and is as listed
  copied_file : Copies tells2 tells1 path listed two one one' → IsTrue tells2 → HasListed two path listed
  copied_file c t = let h = c.source t in (h.0, h.1, subst (λ bytes. IsListed listed bytes) (sym h.2) c.listed_bytes)

  copied : KeepsTree tells2 two two' → Copies tells2 tells1 path listed two one one' → IsDone (by_side tells1 tells2) (Copy Two path listed) (by_side one two) (by_side one' two')
  copied kept c = record { source_unstopped = c.from_unstopped; changed_unstopped = c.to_unstopped; source = copied_file c; kept = kept; change = c }

  from_two : (answer : Result (Unit {0}) CopyFault) → KeepsTree tells2 two two' → CopyEffect tells2 tells1 path listed two one one' answer
      → Performs (by_side tells1 tells2) (Copy Two path listed) (by_side one two) (by_side one' two') (copy_answer Two listed answer)
  from_two (Ok ok) kept e = copied kept e
  from_two (Err Source) kept e = inl (both _ _ _ e kept)
  from_two (Err Destination) kept e = elim e [ inl k ↦ inl (both _ _ _ k kept) | inr c ↦ inr (refl, copied kept c) ]
  from_two (Err (Moved read)) kept e = both _ _ _ e.0 kept

pub returns-in-Two-clause-effect : goal.returns-in-Two-clause-effect
returns-in-Two-clause-effect g c = rw (c.answer_copy-in-Two.ensures, c.in-Copy.is, c.in-Two.is) (from_two _ _ _ _ _ _ _ _ _ c.copy_file-in-Two.ensures.kept c.copy_file-in-Two.ensures.effect)
