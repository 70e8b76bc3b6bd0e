use Rattle.std.proofs.Common.{ℕ, List, ◌∙◌, ap, subst, sym}
use Rattle.bisync_device.specs.Sink.{Adds}
use Rattle.bisync_report.specs.Parts.{parts_text}
use Rattle.bisync_report.specs.LastLine.{named_line}
use Rattle.bisync_report.proofs.WaitingLaws.{flushed, unflushed}
use Rattle.bisync_report.proofs.LineLaws.{last_text-named}
use Rattle.bisync_report.proofs.last_lines.last_line.Goals as goal

pub returns-in_err-put_named : goal.returns-in_err-put_named
returns-in_err-put_named g c =
    let before = g.S.Sink.state c.args.sink.now in
    let after = g.S.Sink.state c.put_named.new.sink in
    let text = last_text-named c.args.end.now c.in_default.not-Demo ∙ ap named_line (sym c.parts_of.ensures) in
    let u = unflushed _ g.S.Sink.tells (named_line (parts_text c.parts_of.result)) c.new-waiting.result c.put_named.new.waiting before after _ c.from_residual.result
    c.from_residual.ensures.1 c.new-waiting.ensures c.in_err-put_named.ensures in
    record {
      cause = u.0;
      bytes = subst (λ (v : List ℕ). Adds g.S.Sink.tells v before after c.from_residual.result) (sym text) u.1;
      demo = λ e. absurd (c.in_default.not-Demo e);
      silent = λ e. absurd (c.in_default.not-Demo e);
    }

pub returns : goal.returns
returns g c =
    let before = g.S.Sink.state c.args.sink.now in
    let between = g.S.Sink.state c.put_named.new.sink in
    let after = g.S.Sink.state c.flush.new.sink in
    let text = last_text-named c.args.end.now c.in_default.not-Demo ∙ ap named_line (sym c.parts_of.ensures) in
    let f = flushed g.S.Sink.tells (named_line (parts_text c.parts_of.result)) c.new-waiting.result c.put_named.new.waiting c.flush.new.self before between after c.flush.result
    c.new-waiting.ensures c.in_ok-put_named.ensures c.flush.ensures.puts c.flush.ensures.empty in
    record {
      cause = f.0;
      bytes = subst (λ (v : List ℕ). Adds g.S.Sink.tells v before after c.flush.result) (sym text) f.1;
      demo = λ e. absurd (c.in_default.not-Demo e);
      silent = λ e. absurd (c.in_default.not-Demo e);
    }
