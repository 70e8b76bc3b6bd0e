-- What looking at the sides of a run that holds the lock came to, said of the folder without it, once the lock is freed.
use Rattle.std.proofs.Common.{◌≡◌, ◌≤◌, ap, refl, subst, sym, inl, inr, ⊎_elim, true, false, arith, Bool, ℕ, ℤ, List, Option, Result, Ok, Err}
use Rattle.std.specs.Prelude.{IfOk, IfErr}
use Rattle.bisync_tree.specs.declared.sides.Side.TheVariants.{One, Two}
use Rattle.bisync_tree.specs.declared.options.Limits.{Limits}
use Rattle.bisync_device.specs.WorkFolder.{WorkFolder}
use Rattle.bisync_opts.specs.declared.options.Opts.{Opts}
use Rattle.bisync_report.specs.declared.ends.End.{End}
use Rattle.bisync_report.specs.declared.ends.End.TheVariants.{Done, DryRun, InSync, WorkFault, RemoteFault, SinkFault, LockLeft, OutOfMemory}
use Rattle.bisync_work.specs.declared.bases.Pair.{Pair}
use Rattle.bisync_work.specs.Locks.{ChangesLock, IsFree}
use Rattle.bisync_run.specs.Counts.{Counts, counts, HasCauses}
use Rattle.bisync_run.specs.Courses.{IsLook}
use Rattle.bisync_run.specs.Entering.{AtMoment}
use Rattle.bisync_run.specs.LookRuns.{CountsFree, FreesWith, IsLookFrom, IsLookOf}
use Rattle.bisync_run.specs.OrdinaryLooks.{AnswersLook}
use Rattle.bisync_run.specs.OrdinaryRefusals.{AnswersOrdinary}
use Rattle.bisync_run.specs.OrdinaryRuns.{AnswersOrdinaryRun}
use Rattle.bisync_run.specs.ResyncRuns.{Matter, sides_in}
use Rattle.bisync_run.specs.Sides.{Sides}
use Rattle.bisync_run.specs.Untouched.{Remotes}
use Rattle.bisync_run.specs.declared.looks.Look.{Look}
use Rattle.bisync_run.specs.declared.starting.Started.{Started}
use Rattle.bisync_run.proofs.CauseLaws.{stand_past}
use Rattle.bisync_run.proofs.CoursesBefore.{course_before, run_answers_before}
use Rattle.bisync_run.proofs.EndLaws.{le_same, rose_within, stops_later}

-- # With the lock

module _ (opts : Opts) (limits : Limits) (f : WorkFolder) (s : Sides) (digest : Option (List ℕ)) where
  pub look_from : (started : Started) (result : Result Look End) → IfOk result (IsLook opts limits f s digest started.stamp started.pair) → IfOk result (IsLookFrom opts limits f s digest)
  look_from started (Ok made) x = (started.stamp, started.pair, x)
  look_from started (Err end) x = x

  -- the end of a run that has no plan is no good end
  look_answers : (end : End) → AnswersLook opts limits f s digest end → AnswersOrdinary opts limits f s digest end
  look_answers OutOfMemory x = tt
  look_answers (RemoteFault One) x = tt
  look_answers (RemoteFault Two) x = x
  look_answers WorkFault x = tt
  look_answers (SinkFault false) x = ⊎_elim absurd (λ later. absurd later.3) x
  look_answers (SinkFault true) x = ⊎_elim absurd (λ later. absurd later.3) x
  look_answers LockLeft x = ⊎_elim absurd (λ later. absurd later.3) x
  look_answers (Done one two) x = ⊎_elim absurd (λ later. absurd later.3) x
  look_answers DryRun x = ⊎_elim absurd (λ later. absurd later.3) x
  look_answers InSync x = ⊎_elim absurd (λ later. absurd later.3) x
  look_answers end x = x

  pub looks_answer : (result : Result Look End) → IfErr result (AnswersLook opts limits f s digest) → IfErr result (AnswersOrdinary opts limits f s digest)
  looks_answer (Ok made) x = x
  looks_answer (Err end) x = look_answers end x

-- # The lock is freed

freed_look : (P : Look → Type 0) (looked result : Result Look End) → FreesWith looked result → IfOk looked P → IfOk result P
freed_look P (Ok made) result (inl same) x = subst (λ (r : Result Look End). IfOk r P) (sym same) x
freed_look P (Ok made) result (inr left) x = subst (λ (r : Result Look End). IfOk r P) (sym left) tt
freed_look P (Err end) result same x = subst (λ (r : Result Look End). IfOk r P) (sym same) tt

pub freed_end : (P : End → Type 0) (looked result : Result Look End) → P WorkFault → FreesWith looked result → IfErr looked P → IfErr result P
freed_end P (Ok made) result fault (inl same) x = subst (λ (r : Result Look End). IfErr r P) (sym same) tt
freed_end P (Ok made) result fault (inr left) x = subst (λ (r : Result Look End). IfErr r P) (sym left) fault
freed_end P (Err end) result fault same x = subst (λ (r : Result Look End). IfErr r P) (sym same) x

later_still : (a b c : ℕ) → a ≤ b → b ≤ c → a ≤ c
later_still a b c ab bc = omega arith

pub freed_causes : (a b w a2 b2 w2 w3 : ℕ) (looked result : Result Look End) → HasCauses (counts a b w 0) (counts a2 b2 w2 0) looked → w2 ≤ w3 → FreesWith looked result → CountsFree looked result w2 w3
    → HasCauses (counts a b w 0) (counts a2 b2 w3 0) result
freed_causes a b w a2 b2 w2 w3 (Ok made) result causes more is (inl stays) =
    subst (λ (r : Result Look End). HasCauses (counts a b w 0) (counts a2 b2 w3 0) r) (sym stays.0)
    (subst (λ (n : ℕ). HasCauses (counts a b w 0) (counts a2 b2 n 0) (Ok made)) (sym stays.1) causes)
freed_causes a b w a2 b2 w2 w3 (Ok made) result causes more is (inr left) =
    let was = causes.later in
    subst (λ (r : Result Look End). HasCauses (counts a b w 0) (counts a2 b2 w3 0) r) (sym left.0)
    (record {
      later = record { one = was.one; two = was.two; work = later_still w w2 w3 was.work more; sink = was.sink };
      good = λ (ok : false ≡ true). cc;
      fault = rose_within w w2 w3 w3 was.work (le_same w3) left.1;
      remotes = (ap Counts.one (causes.good refl), ap Counts.two (causes.good refl));
    })
freed_causes a b w a2 b2 w2 w3 (Err end) result causes more is counted =
    let was = causes.later in
    subst (λ (r : Result Look End). HasCauses (counts a b w 0) (counts a2 b2 w3 0) r) (sym is)
    (record {
      later = record { one = was.one; two = was.two; work = later_still w w2 w3 was.work more; sink = was.sink };
      good = λ (ok : false ≡ true). cc;
      fault = stops_later (counts a b w 0) (counts a2 b2 w2 0) (counts a2 b2 w3 0) end causes.fault (record { one = le_same a2; two = le_same b2; work = more; sink = le_same 0 });
      remotes = stand_past a b w 0 a2 b2 w2 0 w 0 w3 0 end causes.remotes;
    })

-- # Said of the folder at entry

module _ (opts : Opts) (limits : Limits) (f f2 : WorkFolder) (changes : ChangesLock f f2) (start : Remotes) (told : Bool) (moment : ℤ) (free : AtMoment told moment (λ now. IsFree now f.lock)) (m : Matter opts f start) where
  look_before : (stamp : ℕ) (pair : Pair) (made : Look) → IsLook opts limits f2 (sides_in m) m.digest stamp pair made → IsLook opts limits f (sides_in m) m.digest stamp pair made
  look_before stamp pair made x = record {
    course = course_before opts limits f f2 changes (sides_in m) m.digest x.course;
    pair_is = x.pair_is;
    stamp_is = x.stamp_is;
    view = x.view;
    compare = x.compare;
    steps = x.steps;
    finals = x.finals;
  }

  looks_before : (looked : Result Look End) → IfOk looked (IsLookFrom opts limits f2 (sides_in m) m.digest) → IfOk looked (IsLookOf opts limits f start told moment)
  looks_before (Ok made) x = (free, (m, (x.0, x.1, look_before x.0 x.1 made x.2)))
  looks_before (Err end) x = x

  ends_before : (looked : Result Look End) → IfErr looked (AnswersOrdinary opts limits f2 (sides_in m) m.digest) → IfErr looked (AnswersOrdinaryRun opts limits f start told moment)
  ends_before (Ok made) x = x
  ends_before (Err end) x = inr (free, (m, run_answers_before opts limits f f2 changes (sides_in m) m.digest end x))

  pub look_closed : (looked result : Result Look End) → FreesWith looked result → IfOk looked (IsLookFrom opts limits f2 (sides_in m) m.digest) → IfOk result (IsLookOf opts limits f start told moment)
  look_closed looked result is x = freed_look (IsLookOf opts limits f start told moment) looked result is (looks_before looked x)

  pub end_closed : (looked result : Result Look End) → FreesWith looked result → IfErr looked (AnswersOrdinary opts limits f2 (sides_in m) m.digest) → IfErr result (AnswersOrdinaryRun opts limits f start told moment)
  end_closed looked result is x = freed_end (AnswersOrdinaryRun opts limits f start told moment) looked result (inl tt) is (ends_before looked x)
