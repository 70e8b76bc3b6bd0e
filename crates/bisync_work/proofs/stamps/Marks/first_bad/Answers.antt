use Rattle.std.proofs.Common.{◌∙◌, sym}
use Rattle.bisync_work.proofs.BadNameLaws.{two_bad, one_old_bad, two_old_bad, none_bad}
use Rattle.bisync_work.proofs.stamps.Marks.first_bad.Goals as goal

pub returns-in-Some-bad_line : goal.returns-in-Some-bad_line
returns-in-Some-bad_line c = λ limit f are.
    two_bad limit f c.args.self.now are c.in-Some-bad_line.line (sym c.bad_line.ensures ∙ c.in_default.is) (sym c.bad_line-2.ensures ∙ c.in-Some-bad_line.is)

pub returns-in-Some-bad_line-2 : goal.returns-in-Some-bad_line-2
returns-in-Some-bad_line-2 c = λ limit f are.
    one_old_bad limit f c.args.self.now are c.in-Some-bad_line-2.line (sym c.bad_line.ensures ∙ c.in_default.is) (sym c.bad_line-2.ensures ∙ c.in_default-bad_line.is) (sym c.bad_line-3.ensures ∙ c.in-Some-bad_line-2.is)

pub returns-in-Some-bad_line-3 : goal.returns-in-Some-bad_line-3
returns-in-Some-bad_line-3 c = λ limit f are.
    two_old_bad limit f c.args.self.now are c.in-Some-bad_line-3.line (sym c.bad_line.ensures ∙ c.in_default.is) (sym c.bad_line-2.ensures ∙ c.in_default-bad_line.is) (sym c.bad_line-3.ensures ∙ c.in_default-bad_line-2.is) (sym c.bad_line-4.ensures ∙ c.in-Some-bad_line-3.is)

pub returns : goal.returns
returns c = λ limit f are.
    none_bad limit f c.args.self.now are (sym c.bad_line.ensures ∙ c.in_default.is) (sym c.bad_line-2.ensures ∙ c.in_default-bad_line.is) (sym c.bad_line-3.ensures ∙ c.in_default-bad_line-2.is) (sym c.bad_line-4.ensures ∙ c.in_default-bad_line-3.is)
