-- What is known of the end of a run once the last line was told.
use Rattle.std.proofs.Common.{◌≡◌, ◌⊎◌, ◌∙◌, ◌++◌, [], refl, take, IsTrue, List, Result, Ok, Err, ap, subst, sym, inl, inr, ⊎_elim, Bool, true, ℕ, ℤ, Option, Some, None}
use Rattle.std.specs.Option.{unwrap_or}
use Rattle.std.specs.Prelude.{is_err}
use Rattle.std.proofs.lemmas.List.{append-nil}
use Rattle.bisync_tree.specs.declared.options.Limits.{Limits}
use Rattle.bisync_tree.specs.declared.options.Prefer.{Prefer}
use Rattle.bisync_device.specs.Faults.{HasCause, Rose}
use Rattle.bisync_device.specs.Sink.{Adds, SinkState}
use Rattle.bisync_device.specs.declared.faults.Failed.{Failed}
use Rattle.bisync_device.specs.WorkFolder.{WorkFolder, IsSettled, IsImage}
use Rattle.bisync_device.proofs.WorkFolderLaws.{image-settled}
use Rattle.bisync_opts.specs.declared.options.Opts.{Opts}
use Rattle.bisync_report.specs.declared.ends.End.{End}
use Rattle.bisync_work.specs.Moves.{KeepsBase}
use Rattle.bisync_work.proofs.BaseLaws.{same_keeps}
use Rattle.bisync_run.specs.Closing.{AddsLast, EndsWith}
use Rattle.bisync_run.specs.EndKinds.{is_good, is_after_good}
use Rattle.bisync_run.specs.ResyncRuns.{AnswersRun, HasNoRefusal, LeavesBaseOf, sides_in}
use Rattle.bisync_run.specs.Resyncs.{base_of_trees}
use Rattle.bisync_run.specs.Untouched.{Remotes}
use Rattle.bisync_run.proofs.EndCases.{good_is_after_good, false_true}

pub some_same : (a b : Prefer) → Some a ≡ Some b → a ≡ b
some_same a b e = ap (λ (o : Option Prefer). unwrap_or o a) e

pub after_good_told : (end last : End) → EndsWith end last → is_after_good last ≡ true → is_after_good end ≡ true
after_good_told end last (inl same) good = ap is_after_good (sym same) ∙ good
after_good_told end last (inr (was_good, failed)) good = good_is_after_good end was_good

pub good_told : (end last : End) → EndsWith end last → is_good last ≡ true → last ≡ end
good_told end last (inl same) good = same
good_told end last (inr (was_good, failed)) good = false_true (sym (ap is_good failed) ∙ good)

pub told_same : (end last : End) (before after : ℕ) → EndsWith end last → (is_good end ≡ true → (last ≡ end) ⊎ Rose before after) → (Rose before after → ⊥) → last ≡ end
told_same end last before after (inl same) failed never = same
told_same end last before after (inr (was_good, is)) failed never = ⊎_elim (λ same. same) (λ rose. absurd (never rose)) (failed was_good)

-- # The bytes

pub adds_last : (tells : Bool) (text : List ℕ) (before after : SinkState) (result : Result (Unit {0}) Failed) → Adds tells text before after result → HasCause (is_err result) before.faults after.faults
    → IsTrue tells → AddsLast text before after
adds_last tells text before after (Ok done) adds cause t = ((text, adds t), λ never. ([], adds t ∙ ap (λ (l : List ℕ). l ++ text) (sym (append-nil before.bytes))))
adds_last tells text before after (Err failed) adds cause t = let some = adds t in ((take some.0 text, some.1), λ never. absurd (never (cause.rose refl)))

-- # The answer

pub answers_told : (mode : Prefer) (opts : Opts) (limits : Limits) (f : WorkFolder) (start : Remotes) (clock : Bool) (moment : ℤ) (end last : End)
    → AnswersRun mode opts limits f start clock moment end → (is_after_good end ≡ true → HasNoRefusal mode opts limits f start clock moment) → EndsWith end last
    → AnswersRun mode opts limits f start clock moment last
answers_told mode opts limits f start clock moment end last answers accepted (inl same) = subst (AnswersRun mode opts limits f start clock moment) (sym same) answers
answers_told mode opts limits f start clock moment end last answers accepted (inr (good, failed)) =
    let none = accepted (good_is_after_good end good) in
    subst (AnswersRun mode opts limits f start clock moment) (sym failed) (inr (none.0, none.1))

-- an image of a settled folder has its base
pub image_keeps : (limit : ℕ) (f image : WorkFolder) → IsSettled f → IsImage f image → KeepsBase limit f image
image_keeps limit f image settled is =
    let r = image-settled f image settled is in
    same_keeps limit f image (record { one = r.one; two = r.two; one_old = r.one_old; two_old = r.two_old })

pub images : (mode : Prefer) (opts : Opts) (limits : Limits) (f : WorkFolder) (start : Remotes) (g image : WorkFolder) (now : Remotes)
    → LeavesBaseOf mode opts limits f start g now → IsSettled g → IsImage g image → LeavesBaseOf mode opts limits f start image now
images mode opts limits f start g image now leaves settled is base was =
    let keeps = image_keeps limits.listing g image settled is in
    ⊎_elim
    (λ kept. inl (keeps.base base kept.0, kept.1))
    (λ other. inr (⊎_elim
    (λ none. inl (keeps.base None none))
    (λ made. inr (
      made.0,
      record {
        accepted = made.1.accepted;
        trees = made.1.trees;
        stamp = made.1.stamp;
        new = made.1.new;
        base = keeps.base (Some (base_of_trees made.1.stamp (sides_in made.0) _ _)) made.1.base;
      },
    ))
    other))
    (leaves base was)
