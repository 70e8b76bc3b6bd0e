use Rattle.std.proofs.Common.{◌∙◌, inl, inr, ap, refl, ⊎_elim}
use Rattle.bisync_device.specs.WorkFolder.{WorkFolder}
use Rattle.bisync_run.specs.ResyncWriting.{next_base}
use Rattle.bisync_run.proofs.CarriedOut.{none_or_next, carried_out}
use Rattle.bisync_run.proofs.EndLaws.{rose_since}
use Rattle.bisync_run.proofs.FallsAsLaws.{falls_as_twice, keeps_tree_same, lock_falls_as, never_rose, rewritten_falls_as, rewritten_fell}
use Rattle.bisync_run.proofs.OwnNames.{locked_own, switched_own}
use Rattle.bisync_run.proofs.LockedFolders.{no_base_past, ready_past}
use Rattle.bisync_run.proofs.OwnLocks.{own_around}
use Rattle.bisync_run.proofs.resync_changes.carry_out.Goals as goal

pub returns-in-Ok-switch-clause-base : goal.returns-in-Ok-switch-clause-base
returns-in-Ok-switch-clause-base g c one two work limit small fits base is =
    let done = c.in-Ok-do_steps.ensures.done one two in
    inr (⊎_elim inl (λ next. inr (next, done))
    (none_or_next limit (g.W.Work.state c.write_resync.new.work).folder (g.W.Work.state c.do_steps.new.work).folder (g.W.Work.state c.switch.new.work).folder
    (next_base c.args.prepared) small (c.in-Ok.ensures.no_base work limit) (c.in-Ok.ensures.ready work limit fits.one fits.two) (c.in-Ok-do_steps.ensures.lock work) (c.switch.ensures.switches work)))

pub returns-in-Ok-switch-clause-carried_out : goal.returns-in-Ok-switch-clause-carried_out
returns-in-Ok-switch-clause-carried_out g c work limit small fits =
    let f = (g.W.Work.state c.write_resync.new.work).folder in
    let h = (g.W.Work.state c.do_steps.new.work).folder in
    let lock = c.in-Ok-do_steps.ensures.lock work in
    carried_out limit c.args.prepared c.args.digest.now (g.W.Work.state c.args.work.now).folder f h (g.W.Work.state c.switch.new.work).folder
    (c.in-Ok.ensures.rewritten work) lock (c.switch.ensures.switches work)
    (c.in-Ok-switch.ensures.switched work limit (next_base c.args.prepared) small (ready_past f h lock limit (next_base c.args.prepared) (c.in-Ok.ensures.ready work limit fits.one fits.two)))

pub returns-clause-base : goal.returns-clause-base
returns-clause-base g c one two work limit small fits base is =
    let done = c.in-Ok-do_steps.ensures.done one two in
    inr (⊎_elim inl (λ next. inr (next, done))
    (none_or_next limit (g.W.Work.state c.write_resync.new.work).folder (g.W.Work.state c.do_steps.new.work).folder (g.W.Work.state c.switch.new.work).folder
    (next_base c.args.prepared) small (c.in-Ok.ensures.no_base work limit) (c.in-Ok.ensures.ready work limit fits.one fits.two) (c.in-Ok-do_steps.ensures.lock work) (c.switch.ensures.switches work)))

-- # What the work folder alone tells

pub returns-in-Ok-switch-clause-folder_base : goal.returns-in-Ok-switch-clause-folder_base
returns-in-Ok-switch-clause-folder_base g c work limit small fits base is =
    inr (⊎_elim inl (λ next. inr (refl, next))
    (none_or_next limit (g.W.Work.state c.write_resync.new.work).folder (g.W.Work.state c.do_steps.new.work).folder (g.W.Work.state c.switch.new.work).folder
    (next_base c.args.prepared) small (c.in-Ok.ensures.no_base work limit) (c.in-Ok.ensures.ready work limit fits.one fits.two) (c.in-Ok-do_steps.ensures.lock work) (c.switch.ensures.switches work)))

pub returns-clause-folder_base : goal.returns-clause-folder_base
returns-clause-folder_base g c work limit small fits base is =
    inr (⊎_elim inl (λ next. inr (refl, next))
    (none_or_next limit (g.W.Work.state c.write_resync.new.work).folder (g.W.Work.state c.do_steps.new.work).folder (g.W.Work.state c.switch.new.work).folder
    (next_base c.args.prepared) small (c.in-Ok.ensures.no_base work limit) (c.in-Ok.ensures.ready work limit fits.one fits.two) (c.in-Ok-do_steps.ensures.lock work) (c.switch.ensures.switches work)))

-- # The digest

-- # A fall to come

pub returns-in-Err-clause-falls_as : goal.returns-in-Err-clause-falls_as
returns-in-Err-clause-falls_as g c work never = absurd (never (c.in-Err.ensures.calls.cause.rose refl))

pub returns-in-Err-do_steps-clause-falls_as : goal.returns-in-Err-do_steps-clause-falls_as
returns-in-Err-do_steps-clause-falls_as g c work never =
    falls_as_twice (rewritten_falls_as _ _ (c.in-Ok.ensures.rewritten work)) (lock_falls_as (g.W.Work.state c.write_resync.new.work).folder (g.W.Work.state c.do_steps.new.work).folder (c.do_steps.ensures.lock work))

pub returns-clause-falls_as : goal.returns-clause-falls_as
returns-clause-falls_as g c work never =
    never_rose _ (g.W.Work.state c.write_resync.new.work).faults _ c.write_resync.ensures.calls.cause.later
    (rose_since _ (g.W.Work.state c.do_steps.new.work).faults _ (c.in-Err-switch.ensures.calls.cause.rose refl) c.do_steps.ensures.causes.later.work) never

-- # The lock

pub returns-in-Err-do_steps-clause-own_lock : goal.returns-in-Err-do_steps-clause-own_lock
returns-in-Err-do_steps-clause-own_lock g c work =
    own_around _ _ _ _ _ _ _ (ap (λ (w : WorkFolder). w.lock) (c.write_resync.ensures.rest work)) (c.do_steps.ensures.own_lock work) refl

pub returns-in-Ok-switch-clause-own_lock : goal.returns-in-Ok-switch-clause-own_lock
returns-in-Ok-switch-clause-own_lock g c work =
    own_around _ _ _ _ _ _ _ (ap (λ (w : WorkFolder). w.lock) (c.write_resync.ensures.rest work)) (c.in-Ok-do_steps.ensures.own_lock work)
    (ap (λ (w : WorkFolder). w.lock) (c.switch.ensures.switches work).rest)

pub returns-clause-own_lock : goal.returns-clause-own_lock
returns-clause-own_lock g c work =
    own_around _ _ _ _ _ _ _ (ap (λ (w : WorkFolder). w.lock) (c.write_resync.ensures.rest work)) (c.in-Ok-do_steps.ensures.own_lock work)
    (ap (λ (w : WorkFolder). w.lock) (c.switch.ensures.switches work).rest)

pub returns-in-Err-clause-fell : goal.returns-in-Err-clause-fell
returns-in-Err-clause-fell g c work never = absurd (never (c.in-Err.ensures.calls.cause.rose refl))

pub returns-in-Err-do_steps-clause-fell : goal.returns-in-Err-do_steps-clause-fell
returns-in-Err-do_steps-clause-fell g c work never = rewritten_fell _ _ (g.W.Work.state c.do_steps.new.work).folder (c.in-Ok.ensures.rewritten work) (c.do_steps.ensures.lock work)

pub returns-clause-fell : goal.returns-clause-fell
returns-clause-fell g c work never =
    never_rose _ (g.W.Work.state c.write_resync.new.work).faults _ c.write_resync.ensures.calls.cause.later
    (rose_since _ (g.W.Work.state c.do_steps.new.work).faults _ (c.in-Err-switch.ensures.calls.cause.rose refl) c.do_steps.ensures.causes.later.work) never

-- # The digest beside the base

pub returns-in-Err-clause-digest_late : goal.returns-in-Err-clause-digest_late
returns-in-Err-clause-digest_late g c work limit small fits base is =
    ⊎_elim (λ same. inl (same.0, (keeps_tree_same g.A.Remote.tells (g.A.Remote.state c.args.one.now), keeps_tree_same g.B.Remote.tells (g.B.Remote.state c.args.two.now)), same.1)) (λ none. inr (inl none)) (c.write_resync.ensures.digest_late work limit base is)

pub returns-in-Err-do_steps-clause-digest_late : goal.returns-in-Err-do_steps-clause-digest_late
returns-in-Err-do_steps-clause-digest_late g c work limit small fits base is =
    inr (inl (no_base_past (g.W.Work.state c.write_resync.new.work).folder (g.W.Work.state c.do_steps.new.work).folder (c.do_steps.ensures.lock work) limit (c.in-Ok.ensures.no_base work limit)))

pub returns-in-Ok-switch-clause-digest_late : goal.returns-in-Ok-switch-clause-digest_late
returns-in-Ok-switch-clause-digest_late g c work limit small fits base is =
    let md5 = λ (w : WorkFolder). w.filters_md5 in
    inr (⊎_elim inl (λ next. inr (next, ap md5 (c.switch.ensures.switches work).rest ∙ ap md5 (c.in-Ok-do_steps.ensures.lock work).rest ∙ (c.in-Ok.ensures.rewritten work).stored))
    (none_or_next limit (g.W.Work.state c.write_resync.new.work).folder (g.W.Work.state c.do_steps.new.work).folder (g.W.Work.state c.switch.new.work).folder
    (next_base c.args.prepared) small (c.in-Ok.ensures.no_base work limit) (c.in-Ok.ensures.ready work limit fits.one fits.two) (c.in-Ok-do_steps.ensures.lock work) (c.switch.ensures.switches work)))

pub returns-clause-digest_late : goal.returns-clause-digest_late
returns-clause-digest_late g c work limit small fits base is =
    let md5 = λ (w : WorkFolder). w.filters_md5 in
    inr (⊎_elim inl (λ next. inr (next, ap md5 (c.switch.ensures.switches work).rest ∙ ap md5 (c.in-Ok-do_steps.ensures.lock work).rest ∙ (c.in-Ok.ensures.rewritten work).stored))
    (none_or_next limit (g.W.Work.state c.write_resync.new.work).folder (g.W.Work.state c.do_steps.new.work).folder (g.W.Work.state c.switch.new.work).folder
    (next_base c.args.prepared) small (c.in-Ok.ensures.no_base work limit) (c.in-Ok.ensures.ready work limit fits.one fits.two) (c.in-Ok-do_steps.ensures.lock work) (c.switch.ensures.switches work)))

-- # The names of the base

pub returns-in-Err-clause-names : goal.returns-in-Err-clause-names
returns-in-Err-clause-names g c work limit k fits new = c.write_resync.ensures.names work limit c.args.prepared.compare k

pub returns-in-Err-do_steps-clause-names : goal.returns-in-Err-do_steps-clause-names
returns-in-Err-do_steps-clause-names g c work limit k fits new own =
    locked_own limit c.args.prepared.compare k (g.W.Work.state c.write_resync.new.work).folder (g.W.Work.state c.do_steps.new.work).folder (c.do_steps.ensures.lock work) (c.write_resync.ensures.names work limit c.args.prepared.compare k own)

pub returns-in-Ok-switch-clause-names : goal.returns-in-Ok-switch-clause-names
returns-in-Ok-switch-clause-names g c work limit k fits new own =
    switched_own limit c.args.prepared k (g.W.Work.state c.write_resync.new.work).folder (g.W.Work.state c.do_steps.new.work).folder (g.W.Work.state c.switch.new.work).folder new
    (c.in-Ok.ensures.ready work limit fits.one fits.two) (c.do_steps.ensures.lock work) (c.switch.ensures.begun work) (c.write_resync.ensures.names work limit c.args.prepared.compare k own)

pub returns-clause-names : goal.returns-clause-names
returns-clause-names g c work limit k fits new own =
    switched_own limit c.args.prepared k (g.W.Work.state c.write_resync.new.work).folder (g.W.Work.state c.do_steps.new.work).folder (g.W.Work.state c.switch.new.work).folder new
    (c.in-Ok.ensures.ready work limit fits.one fits.two) (c.do_steps.ensures.lock work) (c.switch.ensures.begun work) (c.write_resync.ensures.names work limit c.args.prepared.compare k own)

-- # A fall before the steps

pub returns-in-Err-clause-fell_before : goal.returns-in-Err-clause-fell_before
returns-in-Err-clause-fell_before g c work side = absurd side

pub returns-in-Err-do_steps-clause-fell_before : goal.returns-in-Err-do_steps-clause-fell_before
returns-in-Err-do_steps-clause-fell_before g c work side = rewritten_fell _ _ (g.W.Work.state c.do_steps.new.work).folder (c.in-Ok.ensures.rewritten work) (c.do_steps.ensures.lock work)

pub returns-clause-fell_before : goal.returns-clause-fell_before
returns-clause-fell_before g c work side = absurd side
