-- What a look alone tells of the beginning of the run, once the lock is freed.
use Rattle.std.proofs.Common.{◌≢◌, subst, sym, inl, inr, Bool, ℕ, ℤ, List, Option, Result, Ok, Err}
use Rattle.std.specs.Prelude.{IfErr, OnOk}
use Rattle.bisync_tree.specs.declared.entries.Compare.{Compare}
use Rattle.bisync_tree.specs.declared.options.Limits.{Limits}
use Rattle.bisync_device.specs.WorkFolder.{WorkFolder}
use Rattle.bisync_opts.specs.declared.options.CheckSync.TheVariants.{Only}
use Rattle.bisync_opts.specs.declared.options.Opts.{Opts}
use Rattle.bisync_report.specs.declared.ends.End.{End}
use Rattle.bisync_work.specs.Locks.{ChangesLock, IsFree}
use Rattle.bisync_run.specs.Beginnings.{AnswersBeginning, AnswersBeginningOf, IsBegun, IsWellBegunOf}
use Rattle.bisync_run.specs.Entering.{AtMoment}
use Rattle.bisync_run.specs.LookRuns.{FreesWith}
use Rattle.bisync_run.specs.OrdinaryEnds.{IsUnplannedOrdinaryEnd}
use Rattle.bisync_run.specs.OrdinaryLooks.{HasPrior, IsApartAnswer, IsPriorAnswer}
use Rattle.bisync_run.specs.ResyncRuns.{Matter, sides_in}
use Rattle.bisync_run.specs.Sides.{Sides}
use Rattle.bisync_run.specs.Starts.{IsStartOf}
use Rattle.bisync_run.specs.Untouched.{Remotes}
use Rattle.bisync_run.specs.declared.looks.Look.{Look}
use Rattle.bisync_run.specs.declared.starting.Started.{Started}
use Rattle.bisync_run.proofs.BeginningLaws.{begins_before, begun_before, begun_by, look_begins}
use Rattle.bisync_run.proofs.LooksBefore.{freed_end}

-- # With the lock

module _ (opts : Opts) (limits : Limits) (f : WorkFolder) (s : Sides) (digest : Option (List ℕ)) (started : Started) (start : IsStartOf opts limits f digest started) (more : opts.check_sync ≢ Only) where
  pub looks_begin : (compare : Compare) (result : Result Look End) → IfErr result (IsUnplannedOrdinaryEnd opts compare) → IfErr result (IsPriorAnswer s.passes started.one started.two)
      → IfErr result (IsApartAnswer s.compare s.passes started.one started.two) → IfErr result (AnswersBeginning opts limits f s digest)
  looks_begin compare (Ok made) kind x apart = x
  looks_begin compare (Err end) kind x apart = look_begins opts limits f s digest started start more compare end kind x apart

  pub looks_begun : (result : Result Look End) → OnOk result (HasPrior s.passes started.one started.two) → OnOk result (IsBegun opts limits f s digest)
  looks_begun (Ok made) x = begun_by opts limits f s digest started start more x
  looks_begun (Err end) x = x

-- # The lock is freed

freed_ok : (P : Type 0) (looked result : Result Look End) → FreesWith looked result → OnOk looked P → OnOk result P
freed_ok P (Ok made) result (inl same) x = subst (λ (r : Result Look End). OnOk r P) (sym same) x
freed_ok P (Ok made) result (inr left) x = subst (λ (r : Result Look End). OnOk r P) (sym left) tt
freed_ok P (Err end) result same x = subst (λ (r : Result Look End). OnOk r P) (sym same) tt

-- # Said of the folder at entry

module _ (opts : Opts) (limits : Limits) (f f2 : WorkFolder) (changes : ChangesLock f f2) (start : Remotes) (told : Bool) (moment : ℤ) (free : AtMoment told moment (λ now. IsFree now f.lock)) (m : Matter opts f start) where
  begins_at_entry : (looked : Result Look End) → IfErr looked (AnswersBeginning opts limits f2 (sides_in m) m.digest) → IfErr looked (AnswersBeginningOf opts limits f start told moment)
  begins_at_entry (Ok made) x = x
  begins_at_entry (Err end) x = inr (free, (m, begins_before opts limits f f2 changes (sides_in m) m.digest end x))

  begun_at_entry : (looked : Result Look End) → OnOk looked (IsBegun opts limits f2 (sides_in m) m.digest) → OnOk looked (IsWellBegunOf opts limits f start told moment)
  begun_at_entry (Ok made) x = (free, (m, inl (begun_before opts limits f f2 changes (sides_in m) m.digest x)))
  begun_at_entry (Err end) x = x

  pub begins_freed : (looked result : Result Look End) → FreesWith looked result → IfErr looked (AnswersBeginning opts limits f2 (sides_in m) m.digest) → IfErr result (AnswersBeginningOf opts limits f start told moment)
  begins_freed looked result is x = freed_end (AnswersBeginningOf opts limits f start told moment) looked result (inl tt) is (begins_at_entry looked x)

  pub begun_freed : (looked result : Result Look End) → FreesWith looked result → OnOk looked (IsBegun opts limits f2 (sides_in m) m.digest) → OnOk result (IsWellBegunOf opts limits f start told moment)
  begun_freed looked result is x = freed_ok (IsWellBegunOf opts limits f start told moment) looked result is (begun_at_entry looked x)
