-- What is known of an ordinary run once its last line was told, and of each image of what it left.
use Rattle.std.proofs.Common.{◌≡◌, ◌∙◌, ◌++◌, [], ap, subst, sym, inl, inr, ⊎_elim, Bool, true, ℕ, ℤ, List, Some, None}
use Rattle.std.proofs.lemmas.List.{append-nil}
use Rattle.bisync_tree.specs.declared.entries.Compare.{Compare}
use Rattle.bisync_tree.specs.declared.options.Limits.{Limits}
use Rattle.bisync_device.specs.WorkFolder.{WorkFolder, IsSettled, IsImage}
use Rattle.bisync_opts.specs.declared.options.Opts.{Opts}
use Rattle.bisync_report.specs.declared.ends.End.{End}
use Rattle.bisync_run.specs.Closing.{EndsWith}
use Rattle.bisync_run.specs.EndKinds.{is_after_good}
use Rattle.bisync_run.specs.KeptNames.{IsSideEnd}
use Rattle.bisync_run.specs.LeftNames.{StaysOrStands}
use Rattle.bisync_run.specs.OrdinaryEnds.{IsOrdinaryEnd}
use Rattle.bisync_run.specs.OrdinaryRuns.{AnswersOrdinaryRun, IsMadeNextBy, IsUnrefused, KeepsOrdinaryBaseOf, LeavesOrdinaryBaseOf, TellsOrdinaryRun}
use Rattle.bisync_run.specs.ResyncRuns.{sides_in}
use Rattle.bisync_run.specs.Resyncs.{base_of_trees}
use Rattle.bisync_run.specs.Untouched.{Remotes}
use Rattle.bisync_work.specs.Moves.{KeepsBase}
use Rattle.bisync_run.proofs.EndCases.{good_is_after_good}
use Rattle.bisync_run.proofs.ToldEnds.{image_keeps}

-- # The end

pub ordinary_told : (opts : Opts) (compare : Compare) (end last : End) → EndsWith end last → IsOrdinaryEnd opts compare end → IsOrdinaryEnd opts compare last
ordinary_told opts compare end last (inl same) own = subst (IsOrdinaryEnd opts compare) (sym same) own
ordinary_told opts compare end last (inr lost) own = subst (IsOrdinaryEnd opts compare) (sym lost.1) tt

pub run_answers_told : (opts : Opts) (limits : Limits) (f : WorkFolder) (start : Remotes) (clock : Bool) (moment : ℤ) (end last : End)
    → AnswersOrdinaryRun opts limits f start clock moment end → (is_after_good end ≡ true → IsUnrefused opts limits f start clock moment) → EndsWith end last
    → AnswersOrdinaryRun opts limits f start clock moment last
run_answers_told opts limits f start clock moment end last answers unrefused (inl same) = subst (AnswersOrdinaryRun opts limits f start clock moment) (sym same) answers
run_answers_told opts limits f start clock moment end last answers unrefused (inr (good, failed)) =
    let none = unrefused (good_is_after_good end good) in
    subst (AnswersOrdinaryRun opts limits f start clock moment) (sym failed) (inr (none.0, none.1))

pub stands_told : {IsKept : Type 0} (opts : Opts) (limits : Limits) (end last : End) (f g : WorkFolder) → EndsWith end last → StaysOrStands opts limits end f g IsKept → StaysOrStands opts limits last f g IsKept
stands_told {IsKept = IsKept} opts limits end last f g (inl same) left = subst (λ (e : End). StaysOrStands opts limits e f g IsKept) (sym same) left
stands_told opts limits end last f g (inr lost) left = inr (λ side before is. absurd (subst IsSideEnd lost.1 side))

-- the last line stands behind what was told before it
pub run_tells_last : (opts : Opts) (limits : Limits) (f : WorkFolder) (start : Remotes) (g : WorkFolder) (now : Remotes) (before mid after last : List ℕ) (end : End)
    → TellsOrdinaryRun opts limits f start g now before [] mid end → after ≡ mid ++ last → TellsOrdinaryRun opts limits f start g now before last after end
run_tells_last opts limits f start g now before mid after last end (inl failed) added = inl failed
run_tells_last opts limits f start g now before mid after last end (inr (inl (only, quiet, untouched, kept))) added =
    inr (inl (only, added ∙ ap (λ (l : List ℕ). l ++ last) (quiet ∙ append-nil before), untouched, kept))
run_tells_last opts limits f start g now before mid after last end (inr (inr (may, changing, stands, (m, lines, are, told)))) added =
    inr (inr (may, changing, stands, (m, lines, are, added ∙ ap (λ (l : List ℕ). l ++ last) (told ∙ append-nil (before ++ lines)))))

-- # An image of the folder

module _ (opts : Opts) (limits : Limits) (f : WorkFolder) (start : Remotes) (g image : WorkFolder) (now : Remotes) where
  made_image : KeepsBase limits.listing g image → IsMadeNextBy opts limits f start g now → IsMadeNextBy opts limits f start image now
  made_image keeps made = (
    made.0,
    record {
      changing = made.1.changing;
      course = made.1.course;
      trees = made.1.trees;
      base = keeps.base (Some (base_of_trees made.1.course.stamp (sides_in made.0) _ _)) made.1.base;
    },
  )

  pub run_images : LeavesOrdinaryBaseOf opts limits f start g now → IsSettled g → IsImage g image → LeavesOrdinaryBaseOf opts limits f start image now
  run_images leaves settled is base was =
      let keeps = image_keeps limits.listing g image settled is in
      ⊎_elim
      (λ kept. inl (keeps.base base kept))
      (λ other. inr (⊎_elim (λ none. inl (keeps.base None none)) (λ made. inr (made_image keeps made)) other))
      (leaves base was)

  pub resilient_images : KeepsOrdinaryBaseOf opts limits f start g now → IsSettled g → IsImage g image → KeepsOrdinaryBaseOf opts limits f start image now
  resilient_images leaves settled is base was =
      let keeps = image_keeps limits.listing g image settled is in
      ⊎_elim (λ kept. inl (keeps.base base kept)) (λ made. inr (made_image keeps made)) (leaves base was)
