use Rattle.std.proofs.Common.{inl, inr}
use Rattle.bisync_work.proofs.FallLaws.{fallen_none}
use Rattle.bisync_run.proofs.OwnNames.{rewritten_own, stored_own, written_own}
use Rattle.bisync_run.proofs.ResyncWrites.{new_loses, fall_loses, loses_twice, none_past_digest, new_keeps_digest, fall_keeps_digest}
use Rattle.bisync_run.proofs.resync_writes.write_resync.Goals as goal

pub returns-in_err-write_new-clause-loses : goal.returns-in_err-write_new-clause-loses
returns-in_err-write_new-clause-loses g c = λ t. new_loses _ _ (c.write_new.ensures.rest t)

pub returns-in_err-fall-clause-loses : goal.returns-in_err-fall-clause-loses
returns-in_err-fall-clause-loses g c = λ t. loses_twice (new_loses _ _ (c.write_new.ensures.rest t)) (fall_loses _ _ (c.fall.ensures.falls t))

pub returns-in_err-write_new-clause-digest_late : goal.returns-in_err-write_new-clause-digest_late
returns-in_err-write_new-clause-digest_late g c = λ t limit base is. inl (new_keeps_digest (g.W.Work.state c.args.work.now).folder (g.W.Work.state c.write_new.new.work).folder (c.write_new.ensures.rest t) limit base is)

pub returns-in_err-fall-clause-digest_late : goal.returns-in_err-fall-clause-digest_late
returns-in_err-fall-clause-digest_late g c = λ t. fall_keeps_digest (g.W.Work.state c.args.work.now).folder (g.W.Work.state c.write_new.new.work).folder (g.W.Work.state c.fall.new.work).folder (c.write_new.ensures.rest t) (c.fall.ensures.falls t)

pub returns-in_default-clause-digest_late : goal.returns-in_default-clause-digest_late
returns-in_default-clause-digest_late g c = λ t. fall_keeps_digest (g.W.Work.state c.args.work.now).folder (g.W.Work.state c.write_new.new.work).folder (g.W.Work.state c.fall.new.work).folder (c.write_new.ensures.rest t) (c.fall.ensures.falls t)

pub returns-in_err-store_digest-clause-digest_late : goal.returns-in_err-store_digest-clause-digest_late
returns-in_err-store_digest-clause-digest_late g c = λ t limit base is.
    inr (none_past_digest (g.W.Work.state c.fall.new.work).folder (g.W.Work.state c.store_digest.new.work).folder limit
    (fallen_none limit (g.W.Work.state c.write_new.new.work).folder (g.W.Work.state c.fall.new.work).folder (c.in_ok-fall.ensures.fallen t)) (c.store_digest.ensures.others t))

pub returns-clause-digest_late : goal.returns-clause-digest_late
returns-clause-digest_late g c = λ t limit base is.
    inr (none_past_digest (g.W.Work.state c.fall.new.work).folder (g.W.Work.state c.store_digest.new.work).folder limit
    (fallen_none limit (g.W.Work.state c.write_new.new.work).folder (g.W.Work.state c.fall.new.work).folder (c.in_ok-fall.ensures.fallen t)) (c.store_digest.ensures.others t))

-- # The names of the base

pub returns-in_err-write_new-clause-names : goal.returns-in_err-write_new-clause-names
returns-in_err-write_new-clause-names g c = λ t limit compare k. written_own limit compare k (g.W.Work.state c.args.work.now).folder (g.W.Work.state c.write_new.new.work).folder (c.write_new.ensures.rest t)

pub returns-in_err-fall-clause-names : goal.returns-in_err-fall-clause-names
returns-in_err-fall-clause-names g c = λ t limit compare k. rewritten_own limit compare k (g.W.Work.state c.args.work.now).folder (g.W.Work.state c.write_new.new.work).folder (g.W.Work.state c.fall.new.work).folder (c.write_new.ensures.rest t) (c.fall.ensures.begun t)

pub returns-in_default-clause-names : goal.returns-in_default-clause-names
returns-in_default-clause-names g c = λ t limit compare k. rewritten_own limit compare k (g.W.Work.state c.args.work.now).folder (g.W.Work.state c.write_new.new.work).folder (g.W.Work.state c.fall.new.work).folder (c.write_new.ensures.rest t) (c.fall.ensures.begun t)

pub returns-in_err-store_digest-clause-names : goal.returns-in_err-store_digest-clause-names
returns-in_err-store_digest-clause-names g c = λ t limit compare k own.
    stored_own limit compare k (g.W.Work.state c.fall.new.work).folder (g.W.Work.state c.store_digest.new.work).folder (c.store_digest.ensures.others t)
    (rewritten_own limit compare k (g.W.Work.state c.args.work.now).folder (g.W.Work.state c.write_new.new.work).folder (g.W.Work.state c.fall.new.work).folder (c.write_new.ensures.rest t) (c.fall.ensures.begun t) own)

pub returns-clause-names : goal.returns-clause-names
returns-clause-names g c = λ t limit compare k own.
    stored_own limit compare k (g.W.Work.state c.fall.new.work).folder (g.W.Work.state c.store_digest.new.work).folder (c.store_digest.ensures.others t)
    (rewritten_own limit compare k (g.W.Work.state c.args.work.now).folder (g.W.Work.state c.write_new.new.work).folder (g.W.Work.state c.fall.new.work).folder (c.write_new.ensures.rest t) (c.fall.ensures.begun t) own)
