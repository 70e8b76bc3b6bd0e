-- What holds between two steps of a plan, and what a step adds to it.
use Rattle.std.proofs.Common.{◌≡◌, ◌+◌, ◌++◌, [], ◌∷◌, ℕ, Bool, true, false, IsTrue, List, length, take, None, Result, Ok, Err, refl, sym, ◌∙◌, ap, subst, inl, inr, arith, append_assoc, length-append, add-zero, sum_by}
use Rattle.std.proofs.Math.Seq.{take-append_seam}
use Rattle.std.specs.Option.{option_map}
use Rattle.bisync_tree.specs.Tree.{entry}
use Rattle.bisync_tree.specs.declared.sides.Side.{Side}
use Rattle.bisync_tree.specs.declared.sides.Side.TheVariants.{One, Two}
use Rattle.bisync_tree.specs.declared.steps.Step.{Step}
use Rattle.bisync_device.specs.Faults.{HasCause}
use Rattle.bisync_device.specs.Remote.{RemoteState}
use Rattle.bisync_device.specs.Work.{WorkState}
use Rattle.bisync_device.specs.WorkFolder.{WorkFolder}
use Rattle.bisync_model.specs.Trees.{Trees, by_side}
use Rattle.bisync_model.specs.Changes.{changes_of}
use Rattle.bisync_model.specs.Effects.{after as after_steps}
use Rattle.bisync_model.proofs.StepEffects.{after-append}
use Rattle.bisync_transfer.specs.CallsMade.{MadeCalls}
use Rattle.bisync_transfer.specs.StepEffect.{IsDone, Performs, is_fault_of}
use Rattle.bisync_transfer.specs.StepTrees.{AreDone, KeepsWindows, GoesOn, windows_in}
use Rattle.bisync_transfer.specs.declared.steps.StepFault.{StepFault}
use Rattle.bisync_transfer.specs.declared.steps.StepFault.TheVariants as fault
use Rattle.bisync_transfer.proofs.StepTreesLemmas.{none_done, leaves, goes_on}
use Rattle.bisync_work.specs.Locks.{ChangesLock}
use Rattle.bisync_report.specs.declared.ends.End.{End}
use Rattle.bisync_report.specs.declared.ends.End.TheVariants.{WorkFault}
use Rattle.bisync_run.specs.CountedChanges.{HasCounted}
use Rattle.bisync_run.specs.Counts.{counts, Stops, HasCauses, RemotesStand}
use Rattle.bisync_run.specs.LockNew.{KeepsLockNew}
use Rattle.bisync_run.specs.Stepping.{IsPartDone, FindsAll, end_of_step}
use Rattle.bisync_run.proofs.AsPlanned.{AreAsPlanned, goes_planned}
use Rattle.bisync_run.proofs.CountedSteps.{counts_more}
use Rattle.bisync_run.proofs.LockNewLaws.{lock_new_twice}

-- the first of the steps are done, the others are left, and no call of a remote failed
pub record Going (one two : Bool) (steps left : List Step) (start now : Side → RemoteState) : Type 0 where
  pub finished : List Step
  pub split : steps ≡ finished ++ left
  pub are : IsTrue one → IsTrue two → AreDone finished start now
  pub windows : KeepsWindows start now
  pub unstopped : (side : Side) → (start side).left ≡ None → (now side).left ≡ None
  pub faults : (side : Side) → (now side).faults ≡ (start side).faults
  -- a side that tells counted the changes of these steps
  pub counted : (side : Side) → IsTrue (by_side one two side) → (now side).changes ≡ (start side).changes + sum_by (changes_of side) finished
  -- the tree of a side that tells is as the plan's
  pub planned : (x : FindsAll (by_side one two) steps start) → (side : Side) → IsTrue (by_side one two side)
      → AreAsPlanned x.policy.compare (now side).tree (after_steps x.policy.window finished x.trees side)

-- only the lock changed in the work folder, and no call of it failed
pub record Keeping (tells : Bool) (start now : WorkState) : Type 0 where
  pub lock : IsTrue tells → ChangesLock start.folder now.folder
  pub lock_new : IsTrue tells → KeepsLockNew start.folder now.folder
  pub unstopped : start.left ≡ None → now.left ≡ None
  pub faults : now.faults ≡ start.faults

-- the calls of both sides
abbrev pub Calls : Result (Unit {0}) StepFault → (Side → RemoteState) → (Side → RemoteState) → Type 0
Calls answer before after = (side : Side) → MadeCalls (is_fault_of side answer) (before side) (after side)

pub both : (answer : Result (Unit {0}) StepFault) (before after : Side → RemoteState)
    → MadeCalls (is_fault_of One answer) (before One) (after One) → MadeCalls (is_fault_of Two answer) (before Two) (after Two) → Calls answer before after
both answer before after one two One = one
both answer before after one two Two = two

-- # The lock

pub lock_twice : {f g h : WorkFolder} → ChangesLock f g → ChangesLock g h → ChangesLock f h
lock_twice a b = record { rest = b.rest ∙ a.rest }

pub keeping_first : (tells : Bool) (start : WorkState) → Keeping tells start start
keeping_first tells start = record { lock = λ t. record { rest = refl }; lock_new = λ t. record { kept = inl refl }; unstopped = λ n. n; faults = refl }

pub keeping_next : (tells : Bool) (start before after : WorkState) → Keeping tells start before
    → (IsTrue tells → ChangesLock before.folder after.folder) → (IsTrue tells → KeepsLockNew before.folder after.folder) → (before.left ≡ None → after.left ≡ None) → HasCause false before.faults after.faults → Keeping tells start after
keeping_next tells start before after k lock lock_new left cause = record {
  lock = λ t. lock_twice (k.lock t) (lock t);
  lock_new = λ t. lock_new_twice (k.lock_new t) (lock_new t);
  unstopped = λ n. left (k.unstopped n);
  faults = cause.kept refl ∙ k.faults;
}

-- # The steps

part_done : (steps finished left : List Step) (start now : Side → RemoteState) → steps ≡ finished ++ left → AreDone finished start now → IsPartDone steps start now
part_done steps finished left start now split are = record {
  count = length finished;
  within = omega (arith, ap length split, length-append finished left);
  done = subst (λ l. AreDone l start now) (sym (ap (take (length finished)) split ∙ take-append_seam finished left)) are;
}

one_more : (steps finished next : List Step) (step : Step) → steps ≡ finished ++ step ∷ next → steps ≡ (finished ++ step ∷ []) ++ next
one_more steps finished next step split = split ∙ sym (append_assoc finished (step ∷ []) next)

pub going_first : (one two : Bool) (steps left : List Step) (start : Side → RemoteState) → steps ≡ left → Going one two steps left start start
going_first one two steps left start is = record {
  finished = [];
  split = is;
  are = λ a b. none_done start;
  windows = λ side. refl;
  unstopped = λ side n. n;
  faults = λ side. refl;
  counted = λ side t. sym (add-zero (start side).changes);
  planned = λ x side t p. ap (option_map (entry x.policy.compare)) (sym (x.own side t p));
}

pub part_now : (one two : Bool) (steps left : List Step) (start now : Side → RemoteState) → Going one two steps left start now → IsTrue one → IsTrue two → IsPartDone steps start now
part_now one two steps left start now g a b = part_done steps g.finished left start now g.split (g.are a b)

all_done : (steps finished : List Step) (start now : Side → RemoteState) → steps ≡ finished ++ [] → AreDone finished start now → AreDone steps start now
all_done steps finished start now split are = subst (λ l. AreDone l start now) (sym (split ∙ append_none finished)) are
  where
    append_none : (l : List Step) → l ++ [] ≡ l
    append_none [] = refl
    append_none (x ∷ xs) = ap (λ l. x ∷ l) (append_none xs)

pub done_now : (one two : Bool) (steps left : List Step) (start now : Side → RemoteState) → Going one two steps left start now → left ≡ [] → IsTrue one → IsTrue two → AreDone steps start now
done_now one two steps left start now g none a b = all_done steps g.finished start now (g.split ∙ ap (λ l. g.finished ++ l) none) (g.are a b)

all_finished : (steps finished : List Step) → steps ≡ finished ++ [] → steps ≡ finished
all_finished steps finished split = split ∙ append_none finished
  where
    append_none : (l : List Step) → l ++ [] ≡ l
    append_none [] = refl
    append_none (x ∷ xs) = ap (λ l. x ∷ l) (append_none xs)

pub counted_now : (one two : Bool) (steps left : List Step) (start now : Side → RemoteState) → Going one two steps left start now → left ≡ []
    → (first second : ℕ) → first ≡ sum_by (changes_of One) steps → second ≡ sum_by (changes_of Two) steps → HasCounted (by_side one two) start now first second
counted_now one two steps left start now g none first second one_is two_is = λ side t. g.counted side t ∙ ap (λ n. (start side).changes + n) (number side)
  where
    all : steps ≡ g.finished
    all = all_finished steps g.finished (g.split ∙ ap (λ l. g.finished ++ l) none)

    number : (side : Side) → sum_by (changes_of side) g.finished ≡ by_side first second side
    number One = ap (sum_by (changes_of One)) (sym all) ∙ sym one_is
    number Two = ap (sum_by (changes_of Two)) (sym all) ∙ sym two_is

-- the number of the steps that are left
pub fewer_left : (left next : List Step) (step : Step) (number fewer : ℕ) → length left ≡ number → left ≡ step ∷ next → fewer + 1 ≡ number → length next ≡ fewer
fewer_left left next step number fewer count turn less = omega (arith, ap length turn)

pub none_left : (left : List Step) (number : ℕ) → length left ≡ number → number ≡ 0 → left ≡ []
none_left [] number count none = refl
none_left (step ∷ next) number count none = absurd (omega arith)

pub split_here : (one two : Bool) (steps left next : List Step) (step : Step) (start now : Side → RemoteState) (going : Going one two steps left start now) → left ≡ step ∷ next → steps ≡ going.finished ++ step ∷ next
split_here one two steps left next step start now going turn = going.split ∙ ap (λ l. going.finished ++ l) turn

window_of : (start : Side → RemoteState) (side : Side) → windows_in start side ≡ (start side).window
window_of start One = refl
window_of start Two = refl

module _ (one two : Bool) (steps left next : List Step) (step : Step) (start before after : Side → RemoteState) (going : Going one two steps left start before) (turn : left ≡ step ∷ next) where
  here : steps ≡ going.finished ++ step ∷ next
  here = split_here one two steps left next step start before going turn

  went_on : (answer : Result (Unit {0}) StepFault) → Calls answer before after → Performs (by_side one two) step before after answer
      → IsTrue one → IsTrue two → GoesOn going.finished step start after answer
  went_on answer calls performs a b =
      goes_on going.finished step start before after (going.are a b) (λ side. (calls side).window) answer (leaves (by_side one two) before after a b step answer performs)

  planned_next : IsDone (by_side one two) step before after → (x : FindsAll (by_side one two) steps start) → (side : Side) → IsTrue (by_side one two side)
      → AreAsPlanned x.policy.compare (after side).tree (after_steps x.policy.window (going.finished ++ step ∷ []) x.trees side)
  planned_next is x side t =
      subst (λ (T : Trees). AreAsPlanned x.policy.compare (after side).tree (T side)) (sym (after-append x.policy.window going.finished (step ∷ []) x.trees))
      (goes_planned (by_side one two) x.policy.compare x.policy.window before after (after_steps x.policy.window going.finished x.trees)
      (λ of. x.windows of ∙ window_of start of ∙ sym (going.windows of)) step is (x.finds going.finished step next here) side t (going.planned x side t))

  pub going_next : (u : Unit {0}) → Calls (Ok u) before after → Performs (by_side one two) step before after (Ok u) → Going one two steps next start after
  going_next u calls performs = record {
    finished = going.finished ++ step ∷ [];
    split = one_more steps going.finished next step here;
    are = λ a b. went_on (Ok u) calls performs a b;
    windows = λ side. (calls side).window ∙ going.windows side;
    unstopped = λ side n. (calls side).unstopped (going.unstopped side n);
    faults = λ side. (calls side).cause.kept refl ∙ going.faults side;
    counted = λ side t. counts_more (by_side one two) before after start going.finished step side t performs (going.counted side t);
    planned = λ x side t. planned_next performs x side t;
  }

  part_after : (answer : StepFault) → GoesOn going.finished step start after (Err answer) → IsPartDone steps start after
  part_after (fault.RemoteFault side) on = elim on [
    | inl same ↦ part_done steps going.finished (step ∷ next) start after here same
    | inr more ↦ part_done steps (going.finished ++ step ∷ []) next start after (one_more steps going.finished next step here) more
  ]
  part_after (fault.Moved side listed read) same = part_done steps going.finished (step ∷ next) start after here same

  pub part_end : (answer : StepFault) → Calls (Err answer) before after → Performs (by_side one two) step before after (Err answer) → IsTrue one → IsTrue two → IsPartDone steps start after
  part_end answer calls performs a b = part_after answer (went_on (Err answer) calls performs a b)

-- # The causes

fault_stops : (one two one' two' work work' : ℕ) (step : Step) (answer : StepFault)
    → HasCause (is_fault_of One (Err answer)) one one' → HasCause (is_fault_of Two (Err answer)) two two' → Stops (counts one two work 0) (counts one' two' work' 0) (end_of_step step answer)
fault_stops one two one' two' work work' step (fault.RemoteFault One) a b = a.rose refl
fault_stops one two one' two' work work' step (fault.RemoteFault Two) a b = b.rose refl
fault_stops one two one' two' work work' step (fault.Moved side listed read) a b = tt

fault_stands : (one two one' two' work work' : ℕ) (step : Step) (answer : StepFault)
    → HasCause (is_fault_of One (Err answer)) one one' → HasCause (is_fault_of Two (Err answer)) two two' → RemotesStand (counts one two work 0) (counts one' two' work' 0) (end_of_step step answer)
fault_stands one two one' two' work work' step (fault.RemoteFault One) a b = b.kept refl
fault_stands one two one' two' work work' step (fault.RemoteFault Two) a b = a.kept refl
fault_stands one two one' two' work work' step (fault.Moved side listed read) a b = (a.kept refl, b.kept refl)

not_ok : false ≡ true → ⊥
not_ok e = cc

pub causes_end : {T : Type 0} (one two before1 before2 one' two' work work' : ℕ) (step : Step) (answer : StepFault) (end : End)
    → end ≡ end_of_step step answer → before1 ≡ one → before2 ≡ two
    → HasCause (is_fault_of One (Err answer)) before1 one' → HasCause (is_fault_of Two (Err answer)) before2 two' → work' ≡ work
    → HasCauses {T = T} (counts one two work 0) (counts one' two' work' 0) (Err end)
causes_end one two before1 before2 one' two' work work' step answer end is first second a b same =
    let c = subst (λ (n : ℕ). HasCause (is_fault_of One (Err answer)) n one') first a in
    let d = subst (λ (n : ℕ). HasCause (is_fault_of Two (Err answer)) n two') second b in
    record {
      later = record { one = c.later; two = d.later; work = omega (arith, same); sink = omega arith };
      good = λ ok. absurd (not_ok ok);
      fault = subst (Stops (counts one two work 0) (counts one' two' work' 0)) (sym is) (fault_stops one two one' two' work work' step answer c d);
      remotes = subst (RemotesStand (counts one two work 0) (counts one' two' work' 0)) (sym is) (fault_stands one two one' two' work work' step answer c d);
    }

pub causes_lock : {T : Type 0} (one two one' two' work before work' : ℕ) → one' ≡ one → two' ≡ two → before ≡ work → HasCause true before work'
    → HasCauses {T = T} (counts one two work 0) (counts one' two' work' 0) (Err WorkFault)
causes_lock one two one' two' work before work' a b is cause =
    let c = subst (λ (n : ℕ). HasCause true n work') is cause in
    record {
      later = record { one = omega (arith, a); two = omega (arith, b); work = c.later; sink = omega arith };
      good = λ ok. absurd (not_ok ok);
      fault = c.rose refl;
      remotes = (a, b);
    }

pub causes_none : {T : Type 0} (one two one' two' work work' : ℕ) (x : T) → one' ≡ one → two' ≡ two → work' ≡ work → HasCauses (counts one two work 0) (counts one' two' work' 0) (Ok x)
causes_none one two one' two' work work' x a b c = record {
  later = record { one = omega (arith, a); two = omega (arith, b); work = omega (arith, c); sink = omega arith };
  good = λ ok i. counts (a i) (b i) (c i) 0;
  fault = tt;
  remotes = tt;
}
