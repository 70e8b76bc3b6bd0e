use Rattle.std.proofs.Common.{◌≡◌, ◌+◌, ◌-◌, length, take, drop, arith, sym, ◌∙◌, refl}
use Rattle.std.proofs.lemmas.Grind.{common_steps}
use Rattle.bisync_filter.specs.Trimming.{lines}
use Rattle.bisync_filter.specs.Spelling.{size_of}
use Rattle.bisync_filter.proofs.ReadingLaws.{lines_cut, lines_whole, size_of-lines}
use Rattle.bisync_filter.proofs.cuts.cut_line.Goals as goal

pub returns-then-end-text-clause-cut : goal.returns-then-end-text-clause-cut
returns-then-end-text-clause-cut c = lines_cut c.args.text.now c.newline_in-end.result c.newline_in-end.ensures (omega (arith, c.if-end-text.true))

pub returns-then-end-text-clause-size : goal.returns-then-end-text-clause-size
returns-then-end-text-clause-size c =
    let front = take c.newline_in-end.result c.args.text.now in
    let rest = take (length c.args.text.now - (c.newline_in-end.result + 1)) (drop (c.newline_in-end.result + 1) c.args.text.now) in
    let size : size_of front (lines rest) ≡ length front + 1 = size_of-lines front rest in
    let len : length front ≡ c.newline_in-end.result = grind (arith, common_steps, c.if-end-text.true) in
    sym (size ∙ rw len refl)

pub returns-else-end-text-clause-cut : goal.returns-else-end-text-clause-cut
returns-else-end-text-clause-cut c = lines_whole c.args.text.now c.newline_in-end.result c.newline_in-end.ensures (omega (arith, c.if-end-text.false))
