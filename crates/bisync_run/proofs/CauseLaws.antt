-- The counts of faults of one part of a run after another.
use Rattle.std.proofs.Common.{◌≡◌, ◌≤◌, ℕ, Bool, true, false, refl, sym, subst, arith, Result, Ok, Err}
use Rattle.bisync_device.specs.Faults.{HasCause}
use Rattle.bisync_tree.specs.declared.sides.Side.TheVariants.{One, Two}
use Rattle.bisync_report.specs.declared.ends.End.{End}
use Rattle.bisync_report.specs.declared.ends.End.TheVariants.{RemoteFault, WorkFault}
use Rattle.bisync_plan.specs.declared.faults.PlanFault.{PlanFault}
use Rattle.bisync_plan.specs.declared.faults.PlanFault.TheVariants as unplanned
use Rattle.bisync_run.specs.Counts.{Counts, counts, Later, Stops, HasCauses, RemotesStand}
use Rattle.bisync_run.specs.Looking.{unplanned_end}

le_refl : (n : ℕ) → n ≤ n
le_refl n = omega arith

pub same_later : (a : Counts) → Later a a
same_later a = record { one = le_refl a.one; two = le_refl a.two; work = le_refl a.work; sink = le_refl a.sink }

-- # The counts of the remotes

-- where neither rose
pub stand_of : (old new : Counts) (end : End) → new.one ≡ old.one → new.two ≡ old.two → RemotesStand old new end
stand_of old new (RemoteFault One) one two = two
stand_of old new (RemoteFault Two) one two = one
stand_of old new end one two = (one, two)

pub stand_still : (a : Counts) (end : End) → RemotesStand a a end
stand_still a end = stand_of a a end refl refl

-- the other counts say nothing of them
pub stand_past : (a b w s a2 b2 w2 s2 v t v2 t2 : ℕ) (end : End) → RemotesStand (counts a b w s) (counts a2 b2 w2 s2) end → RemotesStand (counts a b v t) (counts a2 b2 v2 t2) end
stand_past a b w s a2 b2 w2 s2 v t v2 t2 (RemoteFault One) x = x
stand_past a b w s a2 b2 w2 s2 v t v2 t2 (RemoteFault Two) x = x
stand_past a b w s a2 b2 w2 s2 v t v2 t2 end x = x

-- # The parts

-- one part after another
pub follows : {T U : Type 0} (a b c : Counts) (x : T) (r : Result U End) → HasCauses a b (Ok x) → HasCauses b c r → HasCauses a c r
follows a b c x r first rest = subst (λ (k : Counts). HasCauses k c r) (first.good refl) rest

-- what stops a part stops the whole
pub fails : {T U : Type 0} (a b : Counts) (e : End) → HasCauses {T = T} a b (Err e) → HasCauses {T = U} a b (Err e)
fails a b e h = record { later = h.later; good = λ (ok : false ≡ true). cc; fault = h.fault; remotes = h.remotes }

pub nothing_failed : {T : Type 0} (a : Counts) (x : T) → HasCauses a a (Ok x)
nothing_failed a x = record { later = same_later a; good = λ ok. refl; fault = tt; remotes = tt }

pub stopped : {T : Type 0} (a : Counts) (e : End) → Stops a a e → HasCauses {T = T} a a (Err e)
stopped a e stops = record { later = same_later a; good = λ (ok : false ≡ true). cc; fault = stops; remotes = stand_still a e }

-- a call of the work folder failed
pub work_failed : {T : Type 0} (one two sink a b : ℕ) (failed : Bool) → failed ≡ true → HasCause failed a b → HasCauses {T = T} (counts one two a sink) (counts one two b sink) (Err WorkFault)
work_failed one two sink a b failed is h = record {
  later = record { one = le_refl one; two = le_refl two; work = h.later; sink = le_refl sink };
  good = λ (ok : false ≡ true). cc;
  fault = h.rose is;
  remotes = (refl, refl);
}

-- its calls didn't fail
pub work_stays : {T : Type 0} (one two sink a b : ℕ) (r : Result T End) (failed : Bool) → failed ≡ false → HasCause failed a b → HasCauses (counts one two a sink) (counts one two a sink) r → HasCauses (counts one two a sink) (counts one two b sink) r
work_stays one two sink a b r failed is h rest = subst (λ (n : ℕ). HasCauses (counts one two a sink) (counts one two n sink) r) (sym (h.kept is)) rest

-- that there is no plan is no fault of a device
unplanned_stops : (a b : Counts) (fault : PlanFault) → Stops a b (unplanned_end fault)
unplanned_stops a b (unplanned.TooLong side path) = tt
unplanned_stops a b (unplanned.ListingTooLong side bytes) = tt
unplanned_stops a b (unplanned.OutOfSync path one two) = tt
unplanned_stops a b unplanned.OutOfMemory = tt

pub not_planned : {T : Type 0} (a : Counts) (fault : PlanFault) (end : End) → end ≡ unplanned_end fault → HasCauses {T = T} a a (Err end)
not_planned a fault end is = record {
  later = same_later a;
  good = λ (ok : false ≡ true). cc;
  fault = subst (λ (e : End). Stops a a e) (sym is) (unplanned_stops a a fault);
  remotes = stand_still a end;
}
