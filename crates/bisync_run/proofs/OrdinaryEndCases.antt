-- What is known of the ends that the parts of an ordinary run have.
use Rattle.std.proofs.Common.{◌≡◌, ◌≢◌, ◌∙◌, refl, subst, sym, inl, inr, true, false, ℕ, List, Option, Result, Ok, Err}
use Rattle.bisync_tree.specs.Rows.{Rows}
use Rattle.bisync_tree.specs.declared.entries.Compare.{Compare}
use Rattle.bisync_tree.specs.declared.sides.Side.TheVariants.{One, Two}
use Rattle.bisync_tree.specs.declared.options.Limits.{Limits}
use Rattle.bisync_device.specs.WorkFolder.{WorkFolder}
use Rattle.bisync_opts.specs.declared.options.CheckSync.{CheckSync}
use Rattle.bisync_opts.specs.declared.options.CheckSync.TheVariants.{Always, Never, Only}
use Rattle.bisync_opts.specs.declared.options.Opts.{Opts}
use Rattle.bisync_report.specs.declared.ends.End.{End}
use Rattle.bisync_report.specs.declared.ends.End.TheVariants.{InSync, WorkFault, FiltersChanged, BadListing, NeedResync, ListingsDiffer, RemoteFault, Moved, OutOfMemory}
use Rattle.bisync_run.specs.Counts.{Counts, HasCauses}
use Rattle.bisync_run.specs.Courses.{is_only}
use Rattle.bisync_run.specs.Ordinary.{TellsCourse}
use Rattle.bisync_run.specs.OrdinaryEnds.{IsOrdinaryEnd}
use Rattle.bisync_run.specs.OrdinaryRefusals.{AnswersOrdinary}
use Rattle.bisync_run.specs.Sides.{Sides, IsListable}
use Rattle.bisync_run.specs.Starting.{ComparesBase, IsStartAnswer}
use Rattle.bisync_run.specs.Stepping.{IsDeviceFault, IsStepEnd}
use Rattle.bisync_run.specs.Untouched.{Remotes}
use Rattle.bisync_run.proofs.CauseLaws.{nothing_failed, same_later}
use Rattle.bisync_run.proofs.DoneSteps.{untouched_same}
use Rattle.bisync_run.proofs.EndCases.{false_true}

-- # Whether a run only compares its base

pub only_is : (check : CheckSync) → is_only check ≡ true → check ≡ Only
only_is Always e = false_true e
only_is Never e = false_true e
only_is Only e = refl

pub not_only : (check : CheckSync) → is_only check ≡ false → check ≢ Only
not_only check e is = false_true (sym e ∙ subst (λ (c : CheckSync). is_only c ≡ true) (sym is) refl)

-- # What they answer

module _ (opts : Opts) (limits : Limits) (f : WorkFolder) (s : Sides) (digest : Option (List ℕ)) where
  pub device_answers : IsListable limits s.one → (end : End) → IsDeviceFault end → AnswersOrdinary opts limits f s digest end
  device_answers one WorkFault x = tt
  device_answers one (RemoteFault One) x = tt
  device_answers one (RemoteFault Two) x = one
  device_answers one end x = absurd x

  pub start_answers : (end : End) → IsStartAnswer opts limits f digest end → AnswersOrdinary opts limits f s digest end
  start_answers WorkFault x = tt
  start_answers OutOfMemory x = tt
  start_answers (FiltersChanged now stored) x = inl x
  start_answers (BadListing name line) x = inl x
  start_answers (NeedResync need) x = inl x
  start_answers end x = absurd x

-- that of a step is an end of a run that does more than compare its base
pub step_kind : (opts : Opts) (compare : Compare) → opts.check_sync ≢ Only → (end : End) → IsStepEnd end → IsOrdinaryEnd opts compare end
step_kind opts compare more WorkFault x = tt
step_kind opts compare more (RemoteFault side) x = more
step_kind opts compare more (Moved side path listed read) x = more
step_kind opts compare more end x = absurd x

-- # A run that only compares its base

module _ (compare : Compare) (one two : Rows) where
  pub compared_causes : (old : Counts) (result : Result End End) → ComparesBase compare one two result → HasCauses old old result
  compared_causes old (Ok InSync) x = nothing_failed old InSync
  compared_causes old (Err (ListingsDiffer p first second)) x = record { later = same_later old; good = λ (ok : false ≡ true). cc; fault = tt; remotes = (refl, refl) }
  compared_causes old (Err OutOfMemory) x = record { later = same_later old; good = λ (ok : false ≡ true). cc; fault = tt; remotes = (refl, refl) }
  compared_causes old result x = absurd x

  pub compared_tells : (opts : Opts) (limits : Limits) (f : WorkFolder) (s : Sides) (digest : Option (List ℕ)) (start : Remotes) (before : List ℕ)
      → opts.check_sync ≡ Only → (g : WorkFolder) → g ≡ f → (result : Result End End) → ComparesBase compare one two result → TellsCourse opts limits f s digest start g start before before result
  compared_tells opts limits f s digest start before only g same (Ok InSync) x = inl (only, refl, untouched_same start, same)
  compared_tells opts limits f s digest start before only g same (Err (ListingsDiffer p first second)) x = inr (inl (refl, untouched_same start, same))
  compared_tells opts limits f s digest start before only g same (Err OutOfMemory) x = inr (inl (refl, untouched_same start, same))
  compared_tells opts limits f s digest start before only g same result x = absurd x
