use Rattle.std.proofs.Common.{option_copied, List, subst}
use Rattle.bisync_tree.specs.declared.steps.Step.{Step}
use Rattle.bisync_report.specs.Waiting.{Puts}
use Rattle.bisync_report.specs.Lines.{changes_text, steps_text}
use Rattle.bisync_report.proofs.WaitingLaws.{puts_then, puts_stop}
use Rattle.bisync_report.proofs.plan_texts.put_plan.Goals as goal

pub returns-in_err-put_changes : goal.returns-in_err-put_changes
returns-in_err-put_changes g c =
    puts_stop _ g.S.Sink.tells (changes_text c.args.compare.now (option_copied c.args.view)) (steps_text c.args.plan.now.steps.items) c.args.waiting.now c.put_changes.new.waiting
    (g.S.Sink.state c.args.sink.now) (g.S.Sink.state c.put_changes.new.sink) _ c.from_residual.result c.from_residual.ensures.1 c.in_err-put_changes.ensures

pub returns : goal.returns
returns g c =
    let before = g.S.Sink.state c.args.sink.now in
    let between = g.S.Sink.state c.put_changes.new.sink in
    let after = g.S.Sink.state c.put_steps.new.sink in
    puts_then g.S.Sink.tells (changes_text c.args.compare.now (option_copied c.args.view)) (steps_text c.args.plan.now.steps.items) c.args.waiting.now c.put_changes.new.waiting c.put_steps.new.waiting
    before between after c.put_steps.result c.in_ok-put_changes.ensures
    (subst (λ (steps : List Step). Puts g.S.Sink.tells (steps_text steps) c.put_changes.new.waiting between c.put_steps.new.waiting after c.put_steps.result) c.deref.ensures.value c.put_steps.ensures)
