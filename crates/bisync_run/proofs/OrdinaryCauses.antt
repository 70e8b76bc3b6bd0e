-- The counts of faults of an ordinary run, from one of its parts to the next.
use Rattle.std.proofs.Common.{◌≡◌, ◌∙◌, ℕ, true, false, ap, refl, sym, subst, Result, Ok, Err}
use Rattle.bisync_tree.specs.declared.sides.Side.TheVariants.{One, Two}
use Rattle.bisync_device.specs.Faults.{HasCause, Rose}
use Rattle.bisync_device.specs.WorkFolder.{WorkFolder}
use Rattle.bisync_report.specs.declared.ends.End.{End}
use Rattle.bisync_report.specs.declared.ends.End.TheVariants.{WorkFault, RemoteFault, Moved, SinkFault}
use Rattle.bisync_run.specs.Counts.{Counts, counts, HasCauses, Stops}
use Rattle.bisync_run.specs.LockNew.{KeepsLockNew}
use Rattle.bisync_run.specs.Stepping.{IsStepEnd}
use Rattle.bisync_run.proofs.CauseLaws.{nothing_failed, same_later, stand_past, stand_still}

-- a part that went well left the counts as they were
pub since : {T : Type 0} (old mid new : Counts) (r : Result T End) → mid ≡ old → HasCauses mid new r → HasCauses old new r
since old mid new r same h = subst (λ (k : Counts). HasCauses k new r) same h

pub well : {T : Type 0} (old new : Counts) (x : T) → new ≡ old → HasCauses old new (Ok x)
well old new x same = subst (λ (k : Counts). HasCauses old k (Ok x)) (sym same) (nothing_failed old x)

pub stopped : {T : Type 0} (old : Counts) (end : End) → Stops old old end → HasCauses {T = T} old old (Err end)
stopped old end why = record { later = same_later old; good = λ (ok : false ≡ true). cc; fault = why; remotes = stand_still old end }

pub sunk : {T : Type 0} (one two work before now : ℕ) → HasCause true before now → HasCauses {T = T} (counts one two work before) (counts one two work now) (Err (SinkFault false))
sunk one two work before now h =
    let same = same_later (counts one two work before) in
    record { later = record { one = same.one; two = same.two; work = same.work; sink = h.later }; good = λ (ok : false ≡ true). cc; fault = h.rose refl; remotes = (refl, refl) }

pub told_same : (a b w s a2 b2 w2 s2 : ℕ) → counts a b w2 s ≡ counts a b w s → counts a2 b2 w2 s ≡ counts a b w2 s → s2 ≡ s → counts a2 b2 w2 s2 ≡ counts a b w s
told_same a b w s a2 b2 w2 s2 started looked told = ap (λ (n : ℕ). counts a2 b2 w2 n) told ∙ looked ∙ started

pub work_same : {T : Type 0} (w w2 : ℕ) (x : T) → ((one two sink : ℕ) → HasCauses (counts one two w sink) (counts one two w2 sink) (Ok x)) → w2 ≡ w
work_same w w2 x causes = ap (λ (k : Counts). k.work) ((causes 0 0 0).good refl)

-- # The steps make no call of the sink

step_stops : (a b w a2 b2 w2 s : ℕ) (end : End) → IsStepEnd end → Stops (counts a b w 0) (counts a2 b2 w2 0) end → Stops (counts a b w s) (counts a2 b2 w2 s) end
step_stops a b w a2 b2 w2 s WorkFault is why = why
step_stops a b w a2 b2 w2 s (RemoteFault One) is why = why
step_stops a b w a2 b2 w2 s (RemoteFault Two) is why = why
step_stops a b w a2 b2 w2 s (Moved side path listed read) is why = tt
step_stops a b w a2 b2 w2 s end is why = absurd is

pub unsunk : {T U : Type 0} (a b w a2 b2 w2 s : ℕ) (end : End) → IsStepEnd end → HasCauses {T = T} (counts a b w 0) (counts a2 b2 w2 0) (Err end)
    → HasCauses {T = U} (counts a b w s) (counts a2 b2 w2 s) (Err end)
unsunk a b w a2 b2 w2 s end is h =
    let later = h.later in
    let same = same_later (counts a b w s) in
    record { later = record { one = later.one; two = later.two; work = later.work; sink = same.sink }; good = λ (ok : false ≡ true). cc; fault = step_stops a b w a2 b2 w2 s end is h.fault; remotes = stand_past a b w 0 a2 b2 w2 0 w s w2 s end h.remotes }

pub done_same : {T : Type 0} (a b w a2 b2 w2 s : ℕ) (x : T) → HasCauses (counts a b w 0) (counts a2 b2 w2 0) (Ok x) → counts a2 b2 w2 s ≡ counts a b w s
done_same a b w a2 b2 w2 s x h = ap (λ (k : Counts). counts k.one k.two k.work s) (h.good refl)

-- # The lock

pub lock_new_held : (f f2 g : WorkFolder) (w w2 w3 : ℕ) → f2 ≡ f → w2 ≡ w → ((Rose w2 w3 → ⊥) → KeepsLockNew f2 g) → (Rose w w3 → ⊥) → KeepsLockNew f g
lock_new_held f f2 g w w2 w3 same steady kept never =
    subst (λ (h : WorkFolder). KeepsLockNew h g) same (kept (λ rose. never (subst (λ (n : ℕ). Rose n w3) steady rose)))
