use Rattle.bisync_run.proofs.CloseLaws.{closes, fell_unlocked, unlocks}
use Rattle.bisync_run.proofs.ClosedKinds.{no_rise_first}
use Rattle.bisync_run.proofs.OwnNames.{unlocked_own}
use Rattle.bisync_run.proofs.closing.close.Goals as goal

pub returns-in-Err-clause-closes : goal.returns-in-Err-clause-closes
returns-in-Err-clause-closes g c t = closes _ _ _ (c.fall_where.ensures.falls t) (c.free_lock-freed.ensures.others t)

pub returns-in-Ok-freed-clause-closes : goal.returns-in-Ok-freed-clause-closes
returns-in-Ok-freed-clause-closes g c t = closes _ _ _ (c.fall_where.ensures.falls t) (c.free_lock-freed.ensures.others t)

pub returns-in-Err-freed-clause-closes : goal.returns-in-Err-freed-clause-closes
returns-in-Err-freed-clause-closes g c t = closes _ _ _ (c.fall_where.ensures.falls t) (c.free_lock-freed.ensures.others t)

pub returns-in-Err-clause-fell : goal.returns-in-Err-clause-fell
returns-in-Err-clause-fell g c t falls never =
    fell_unlocked _ _ _ (c.fall_where.ensures.fell t falls (no_rise_first _ _ _ never c.free_lock-freed.ensures.cause.later)) (c.free_lock-freed.ensures.others t)

pub returns-in-Err-clause-names : goal.returns-in-Err-clause-names
returns-in-Err-clause-names g c t limit compare k own = unlocked_own limit compare k _ _ (c.free_lock-freed.ensures.others t) (c.fall_where.ensures.names t limit compare k own)

pub returns-in-Ok-freed-clause-names : goal.returns-in-Ok-freed-clause-names
returns-in-Ok-freed-clause-names g c t limit compare k own = unlocked_own limit compare k _ _ (c.free_lock-freed.ensures.others t) (c.fall_where.ensures.names t limit compare k own)

pub returns-in-Err-freed-clause-names : goal.returns-in-Err-freed-clause-names
returns-in-Err-freed-clause-names g c t limit compare k own = unlocked_own limit compare k _ _ (c.free_lock-freed.ensures.others t) (c.fall_where.ensures.names t limit compare k own)

pub returns-in-Err-clause-stays_fallen : goal.returns-in-Err-clause-stays_fallen
returns-in-Err-clause-stays_fallen g c t f is = fell_unlocked _ _ _ (c.fall_where.ensures.stays_fallen t f is) (c.free_lock-freed.ensures.others t)

pub returns-in-Ok-freed-clause-stays_fallen : goal.returns-in-Ok-freed-clause-stays_fallen
returns-in-Ok-freed-clause-stays_fallen g c t f is = fell_unlocked _ _ _ (c.fall_where.ensures.stays_fallen t f is) (c.free_lock-freed.ensures.others t)

pub returns-in-Err-freed-clause-stays_fallen : goal.returns-in-Err-freed-clause-stays_fallen
returns-in-Err-freed-clause-stays_fallen g c t f is = fell_unlocked _ _ _ (c.fall_where.ensures.stays_fallen t f is) (c.free_lock-freed.ensures.others t)

pub returns-in-Err-clause-fall : goal.returns-in-Err-clause-fall
returns-in-Err-clause-fall g c t = record {
  fallen = (g.W.Work.state c.fall_where.new.work).folder;
  begun = c.fall_where.ensures.begun t;
  unlocks = unlocks _ _ (c.free_lock-freed.ensures.others t);
}

pub returns-in-Ok-freed-clause-fall : goal.returns-in-Ok-freed-clause-fall
returns-in-Ok-freed-clause-fall g c t = record {
  fallen = (g.W.Work.state c.fall_where.new.work).folder;
  begun = c.fall_where.ensures.begun t;
  unlocks = unlocks _ _ (c.free_lock-freed.ensures.others t);
}

pub returns-in-Err-freed-clause-fall : goal.returns-in-Err-freed-clause-fall
returns-in-Err-freed-clause-fall g c t = record {
  fallen = (g.W.Work.state c.fall_where.new.work).folder;
  begun = c.fall_where.ensures.begun t;
  unlocks = unlocks _ _ (c.free_lock-freed.ensures.others t);
}
