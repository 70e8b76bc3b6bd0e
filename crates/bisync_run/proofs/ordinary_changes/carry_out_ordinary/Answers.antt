use Rattle.std.proofs.Common.{inl, inr, ap, refl, ⊎_elim}
use Rattle.bisync_device.specs.WorkFolder.{WorkFolder}
use Rattle.bisync_run.proofs.BasesSetBack.{old_past, old_or_next}
use Rattle.bisync_run.proofs.EndLaws.{rose_since}
use Rattle.bisync_run.proofs.FallsAsLaws.{falls_as_twice, keeps_tree_same, lock_falls_as, never_rose}
use Rattle.bisync_run.proofs.OwnNames.{locked_own, switched_own}
use Rattle.bisync_run.proofs.LockedFolders.{base_past}
use Rattle.bisync_run.proofs.OwnLocks.{own_around}
use Rattle.bisync_run.proofs.NextSet.{keeps_or_next, settled_after}
use Rattle.bisync_run.proofs.ordinary_changes.carry_out_ordinary.Goals as goal

pub returns-in-Err-do_steps-clause-base : goal.returns-in-Err-do_steps-clause-base
returns-in-Err-do_steps-clause-base g c one two work limit before is base has =
    inl (base_past (g.W.Work.state c.write_ordinary.new.work).folder (g.W.Work.state c.do_steps.new.work).folder (c.do_steps.ensures.lock work) limit base
    ((c.write_ordinary.ensures.keeps work limit before is.is).base base has))

pub returns-in-Ok-switch-clause-base : goal.returns-in-Ok-switch-clause-base
returns-in-Ok-switch-clause-base g c one two work limit before is base has =
    let done = c.in-Ok-do_steps.ensures.done one two in
    ⊎_elim inl (λ next. inr (next, done))
    (keeps_or_next limit (g.W.Work.state c.args.work.now).folder (g.W.Work.state c.write_ordinary.new.work).folder (g.W.Work.state c.do_steps.new.work).folder
    (g.W.Work.state c.switch.new.work).folder c.args.pair before c.args.prepared is (c.write_ordinary.ensures.keeps work limit before is.is)
    (c.in-Ok.ensures.set_back work limit before is) (c.do_steps.ensures.lock work) (c.switch.ensures.switches work) base has)

pub returns-in-Ok-switch-clause-settled : goal.returns-in-Ok-switch-clause-settled
returns-in-Ok-switch-clause-settled g c work settled =
    settled_after (g.W.Work.state c.write_ordinary.new.work).folder (g.W.Work.state c.do_steps.new.work).folder (g.W.Work.state c.switch.new.work).folder
    (c.in-Ok.ensures.synced1 work) (c.in-Ok.ensures.synced2 work) (c.write_ordinary.ensures.settled work settled) (c.do_steps.ensures.lock work) (c.switch.ensures.switches work)

pub returns-clause-base : goal.returns-clause-base
returns-clause-base g c one two work limit before is base has =
    let done = c.in-Ok-do_steps.ensures.done one two in
    ⊎_elim inl (λ next. inr (next, done))
    (keeps_or_next limit (g.W.Work.state c.args.work.now).folder (g.W.Work.state c.write_ordinary.new.work).folder (g.W.Work.state c.do_steps.new.work).folder
    (g.W.Work.state c.switch.new.work).folder c.args.pair before c.args.prepared is (c.write_ordinary.ensures.keeps work limit before is.is)
    (c.in-Ok.ensures.set_back work limit before is) (c.do_steps.ensures.lock work) (c.switch.ensures.switches work) base has)

pub returns-clause-settled : goal.returns-clause-settled
returns-clause-settled g c work settled =
    settled_after (g.W.Work.state c.write_ordinary.new.work).folder (g.W.Work.state c.do_steps.new.work).folder (g.W.Work.state c.switch.new.work).folder
    (c.in-Ok.ensures.synced1 work) (c.in-Ok.ensures.synced2 work) (c.write_ordinary.ensures.settled work settled) (c.do_steps.ensures.lock work) (c.switch.ensures.switches work)

-- # What the work folder alone tells

pub returns-in-Err-do_steps-clause-folder_base : goal.returns-in-Err-do_steps-clause-folder_base
returns-in-Err-do_steps-clause-folder_base g c work limit before is base has =
    inl (base_past (g.W.Work.state c.write_ordinary.new.work).folder (g.W.Work.state c.do_steps.new.work).folder (c.do_steps.ensures.lock work) limit base
    ((c.write_ordinary.ensures.keeps work limit before is.is).base base has))

pub returns-in-Ok-switch-clause-folder_base : goal.returns-in-Ok-switch-clause-folder_base
returns-in-Ok-switch-clause-folder_base g c work limit before is base has =
    ⊎_elim inl (λ next. inr (refl, next))
    (keeps_or_next limit (g.W.Work.state c.args.work.now).folder (g.W.Work.state c.write_ordinary.new.work).folder (g.W.Work.state c.do_steps.new.work).folder
    (g.W.Work.state c.switch.new.work).folder c.args.pair before c.args.prepared is (c.write_ordinary.ensures.keeps work limit before is.is)
    (c.in-Ok.ensures.set_back work limit before is) (c.do_steps.ensures.lock work) (c.switch.ensures.switches work) base has)

pub returns-clause-folder_base : goal.returns-clause-folder_base
returns-clause-folder_base g c work limit before is base has =
    ⊎_elim inl (λ next. inr (refl, next))
    (keeps_or_next limit (g.W.Work.state c.args.work.now).folder (g.W.Work.state c.write_ordinary.new.work).folder (g.W.Work.state c.do_steps.new.work).folder
    (g.W.Work.state c.switch.new.work).folder c.args.pair before c.args.prepared is (c.write_ordinary.ensures.keeps work limit before is.is)
    (c.in-Ok.ensures.set_back work limit before is) (c.do_steps.ensures.lock work) (c.switch.ensures.switches work) base has)

-- # The names of the base

pub returns-in-Err-clause-set_back : goal.returns-in-Err-clause-set_back
returns-in-Err-clause-set_back g c work limit before is = inl (keeps_tree_same g.A.Remote.tells (g.A.Remote.state c.args.one.now), keeps_tree_same g.B.Remote.tells (g.B.Remote.state c.args.two.now))

pub returns-in-Err-do_steps-clause-set_back : goal.returns-in-Err-do_steps-clause-set_back
returns-in-Err-do_steps-clause-set_back g c work limit before is =
    inr (inl (old_past limit (g.W.Work.state c.write_ordinary.new.work).folder (g.W.Work.state c.do_steps.new.work).folder before c.args.prepared (c.in-Ok.ensures.set_back work limit before is) (c.do_steps.ensures.lock work)))

pub returns-in-Ok-switch-clause-set_back : goal.returns-in-Ok-switch-clause-set_back
returns-in-Ok-switch-clause-set_back g c work limit before is =
    inr (old_or_next limit (g.W.Work.state c.write_ordinary.new.work).folder (g.W.Work.state c.do_steps.new.work).folder (g.W.Work.state c.switch.new.work).folder before c.args.prepared is.small
    (c.in-Ok.ensures.set_back work limit before is) (c.do_steps.ensures.lock work) (c.switch.ensures.switches work))

pub returns-clause-set_back : goal.returns-clause-set_back
returns-clause-set_back g c work limit before is =
    inr (old_or_next limit (g.W.Work.state c.write_ordinary.new.work).folder (g.W.Work.state c.do_steps.new.work).folder (g.W.Work.state c.switch.new.work).folder before c.args.prepared is.small
    (c.in-Ok.ensures.set_back work limit before is) (c.do_steps.ensures.lock work) (c.switch.ensures.switches work))

pub returns-in-Err-clause-stands : goal.returns-in-Err-clause-stands
returns-in-Err-clause-stands g c work limit before is side = absurd side

pub returns-in-Err-do_steps-clause-stands : goal.returns-in-Err-do_steps-clause-stands
returns-in-Err-do_steps-clause-stands g c work limit before is side =
    old_past limit (g.W.Work.state c.write_ordinary.new.work).folder (g.W.Work.state c.do_steps.new.work).folder before c.args.prepared (c.in-Ok.ensures.set_back work limit before is) (c.do_steps.ensures.lock work)

pub returns-clause-stands : goal.returns-clause-stands
returns-clause-stands g c work limit before is side = absurd side

pub returns-in-Err-clause-names : goal.returns-in-Err-clause-names
returns-in-Err-clause-names g c work limit before k is new = c.write_ordinary.ensures.names work limit c.args.prepared.compare k

pub returns-in-Err-do_steps-clause-names : goal.returns-in-Err-do_steps-clause-names
returns-in-Err-do_steps-clause-names g c work limit before k is new own =
    locked_own limit c.args.prepared.compare k (g.W.Work.state c.write_ordinary.new.work).folder (g.W.Work.state c.do_steps.new.work).folder (c.do_steps.ensures.lock work) (c.write_ordinary.ensures.names work limit c.args.prepared.compare k own)

pub returns-in-Ok-switch-clause-names : goal.returns-in-Ok-switch-clause-names
returns-in-Ok-switch-clause-names g c work limit before k is new own =
    switched_own limit c.args.prepared k (g.W.Work.state c.write_ordinary.new.work).folder (g.W.Work.state c.do_steps.new.work).folder (g.W.Work.state c.switch.new.work).folder new
    (c.in-Ok.ensures.set_back work limit before is).ready (c.do_steps.ensures.lock work) (c.switch.ensures.begun work) (c.write_ordinary.ensures.names work limit c.args.prepared.compare k own)

pub returns-clause-names : goal.returns-clause-names
returns-clause-names g c work limit before k is new own =
    switched_own limit c.args.prepared k (g.W.Work.state c.write_ordinary.new.work).folder (g.W.Work.state c.do_steps.new.work).folder (g.W.Work.state c.switch.new.work).folder new
    (c.in-Ok.ensures.set_back work limit before is).ready (c.do_steps.ensures.lock work) (c.switch.ensures.begun work) (c.write_ordinary.ensures.names work limit c.args.prepared.compare k own)

pub returns-in-Err-clause-falls_as : goal.returns-in-Err-clause-falls_as
returns-in-Err-clause-falls_as g c work never = absurd (never (c.in-Err.ensures.calls.cause.rose refl))

pub returns-in-Err-do_steps-clause-falls_as : goal.returns-in-Err-do_steps-clause-falls_as
returns-in-Err-do_steps-clause-falls_as g c work never =
    falls_as_twice (c.in-Ok.ensures.falls_as work) (lock_falls_as (g.W.Work.state c.write_ordinary.new.work).folder (g.W.Work.state c.do_steps.new.work).folder (c.do_steps.ensures.lock work))

pub returns-clause-falls_as : goal.returns-clause-falls_as
returns-clause-falls_as g c work never =
    never_rose _ (g.W.Work.state c.write_ordinary.new.work).faults _ c.write_ordinary.ensures.calls.cause.later
    (rose_since _ (g.W.Work.state c.do_steps.new.work).faults _ (c.in-Err-switch.ensures.calls.cause.rose refl) c.do_steps.ensures.causes.later.work) never

-- # The lock

pub returns-in-Err-do_steps-clause-own_lock : goal.returns-in-Err-do_steps-clause-own_lock
returns-in-Err-do_steps-clause-own_lock g c work =
    own_around _ _ _ _ _ _ _ (ap (λ (w : WorkFolder). w.lock) (c.write_ordinary.ensures.rest work)) (c.do_steps.ensures.own_lock work) refl

pub returns-in-Ok-switch-clause-own_lock : goal.returns-in-Ok-switch-clause-own_lock
returns-in-Ok-switch-clause-own_lock g c work =
    own_around _ _ _ _ _ _ _ (ap (λ (w : WorkFolder). w.lock) (c.write_ordinary.ensures.rest work)) (c.in-Ok-do_steps.ensures.own_lock work)
    (ap (λ (w : WorkFolder). w.lock) (c.switch.ensures.switches work).rest)

pub returns-clause-own_lock : goal.returns-clause-own_lock
returns-clause-own_lock g c work =
    own_around _ _ _ _ _ _ _ (ap (λ (w : WorkFolder). w.lock) (c.write_ordinary.ensures.rest work)) (c.in-Ok-do_steps.ensures.own_lock work)
    (ap (λ (w : WorkFolder). w.lock) (c.switch.ensures.switches work).rest)
