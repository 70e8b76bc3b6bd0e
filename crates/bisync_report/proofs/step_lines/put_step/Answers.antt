use Rattle.std.proofs.Common.{ℕ, List, ◌∙◌, ap, subst, sym}
use Rattle.bisync_report.specs.Lines.{step_line}
use Rattle.bisync_report.specs.Waiting.{Puts}
use Rattle.bisync_report.proofs.LineLaws.{rename_line}
use Rattle.bisync_report.proofs.step_lines.put_step.Goals as goal

pub returns-in-Rename : goal.returns-in-Rename
returns-in-Rename g c =
    let text = rename_line c.in-Rename.side c.in-Rename.from c.in-Rename.to c.as_bytes-in-Rename.result.now c.as_bytes-in-Rename-2.result.now c.in-Rename.entry c.as_bytes-in-Rename.ensures.bytes c.as_bytes-in-Rename-2.ensures.bytes in
    subst (λ (v : List ℕ). Puts g.S.Sink.tells v c.args.waiting.now (g.S.Sink.state c.args.sink.now) c.put_parts-in-Rename.new.self (g.S.Sink.state c.put_parts-in-Rename.new.sink) c.put_parts-in-Rename.result)
    (text ∙ ap step_line (sym c.in-Rename.is)) c.put_parts-in-Rename.ensures
