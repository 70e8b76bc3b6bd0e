use Rattle.std.proofs.Common.{rules, FitsSigned, ◌∙◌, refl, inl, inr}
use Rattle.std.proofs.lemmas.Int.{to_z-of_z}
use Rattle.std.specs.Int.{w64}
use Rattle.bisync_run.proofs.OwnLocks.{made_since, some_rules}
use Rattle.bisync_run.proofs.BlockedFolders.{blocked_same, blocked_since}
use Rattle.bisync_run.proofs.entering.enter.Goals as goal

pub returns-then-is_err-clause-blocked : goal.returns-then-is_err-clause-blocked
returns-then-is_err-clause-blocked g c work = blocked_same (g.W.Work.state c.args.work.now).folder _ _ _ (c.attach.ensures.folder work)

pub returns-in-Err-clause-blocked : goal.returns-in-Err-clause-blocked
returns-in-Err-clause-blocked g c work = blocked_same (g.W.Work.state c.args.work.now).folder _ _ _ (c.in-Err.ensures.folder work ∙ c.attach.ensures.folder work)

pub returns-in-Ok-Got-clause-blocked : goal.returns-in-Ok-Got-clause-blocked
returns-in-Ok-Got-clause-blocked g c work =
    let now : FitsSigned w64 c.now-now.result = search rules in
    blocked_since (g.W.Work.state c.args.work.now).folder _ _ _ _ _ (c.in-Ok.ensures.folder work ∙ c.attach.ensures.folder work) (λ clock. to_z-of_z w64 _ now ∙ c.now-now.ensures.told clock)
    (c.take_lock.ensures.blocking work)

pub returns-in-Err-take_lock-clause-blocked : goal.returns-in-Err-take_lock-clause-blocked
returns-in-Err-take_lock-clause-blocked g c work =
    let now : FitsSigned w64 c.now-now.result = search rules in
    blocked_since (g.W.Work.state c.args.work.now).folder _ _ _ _ _ (c.in-Ok.ensures.folder work ∙ c.attach.ensures.folder work) (λ clock. to_z-of_z w64 _ now ∙ c.now-now.ensures.told clock)
    (c.take_lock.ensures.blocking work)

-- # The lock

pub returns-then-is_err-clause-makes_lock : goal.returns-then-is_err-clause-makes_lock
returns-then-is_err-clause-makes_lock g c work = inl (c.attach.ensures.folder work)

pub returns-in-Err-clause-makes_lock : goal.returns-in-Err-clause-makes_lock
returns-in-Err-clause-makes_lock g c work = inl (c.in-Err.ensures.folder work ∙ c.attach.ensures.folder work)

pub returns-in-Err-take_lock-clause-makes_lock : goal.returns-in-Err-take_lock-clause-makes_lock
returns-in-Err-take_lock-clause-makes_lock g c work =
    let now : FitsSigned w64 c.now-now.result = search rules in
    inr (
      refl,
      some_rules _ (g.W.Work.state c.args.work.now).folder (g.W.Work.state c.attach.new.self).folder (c.attach.ensures.folder work) _ _ (c.in-Ok.ensures.rules (inl work)),
      made_since _ _ _ _ (g.W.Work.state c.args.work.now).folder _ (g.W.Work.state c.take_lock.new.work).folder (c.in-Ok.ensures.folder work ∙ c.attach.ensures.folder work)
          (λ clock. to_z-of_z w64 _ now ∙ c.now-now.ensures.told clock) (c.take_lock.ensures.lock work),
    )
