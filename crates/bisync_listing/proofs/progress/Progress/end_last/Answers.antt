use Rattle.std.proofs.Common.{◌≡◌, sym, ◌∙◌, true, length, not, is_some, ap}
use Rattle.bisync_listing.specs.Spelling.{end_line}
use Rattle.bisync_listing.proofs.ProgressLaws.{Steps, step_last, sound_on, takes_failed, bad_wrong}
use Rattle.bisync_listing.proofs.RefusalLaws.{refused_last, no_end, yes_end}
use Rattle.bisync_listing.proofs.SpellingLaws.{some-end_line}
use Rattle.bisync_listing.proofs.progress.Progress.end_last.Goals as goal

pub returns-then-is_none-clause-takes : goal.returns-then-is_none-clause-takes
returns-then-is_none-clause-takes c = takes_failed c.args.self.now c.bad.new.self _ _ c.bad.result c.bad.ensures.kept c.bad.ensures.err
    (bad_wrong c.args.self.now c.requires.sound (refused_last c.args.self.now.place _ _ c.args.self.now.line c.requires.place c.requires.line (λ some e. let none = c.if-is_none.ensures in cc)))

pub returns-then-ne-clause-takes : goal.returns-then-ne-clause-takes
returns-then-ne-clause-takes c =
    takes_failed c.args.self.now c.bad-then-ne.new.self _ _ c.bad-then-ne.result c.bad-then-ne.ensures.kept c.bad-then-ne.ensures.err
    (bad_wrong c.args.self.now c.requires.sound (refused_last c.args.self.now.place _ _ c.args.self.now.line c.requires.place c.requires.line
    (λ some e. no_end c.read_end.result c.as_bytes.result.now c.args.self.now.line c.len.result (length c.args.self.now.rows) c.len.type_inv c.len.ensures.count (sym c.if-ne.true ∙ c.ne.ensures) c.read_end.ensures.found c.read_end.ensures.none c.as_bytes.ensures e)))

pub returns-clause-sound : goal.returns-clause-sound
returns-clause-sound c =
    let some : is_some c.args.self.now.header.fields ≡ true = c.is_none.ensures ∙ ap not c.if-is_none.false in
    let line : c.args.self.now.line ≡ end_line (length c.args.self.now.rows) = yes_end c.read_end.result c.as_bytes.result.now c.args.self.now.line c.len.result (length c.args.self.now.rows) c.len.ensures.count (sym c.if-ne.false ∙ c.ne.ensures) c.read_end.ensures.found c.as_bytes.ensures in
    let s : Steps c.args.self.now c.next_line.new.self = step_last c.args.self.now c.next_line.new.self c.requires.sound c.requires.clear c.requires.room c.requires.place some line (some-end_line (length c.args.self.now.rows)) c.next_line.ensures in
    sound_on c.next_line.new.self s.clear s.reading

pub returns-clause-takes : goal.returns-clause-takes
returns-clause-takes c =
    let some : is_some c.args.self.now.header.fields ≡ true = c.is_none.ensures ∙ ap not c.if-is_none.false in
    let line : c.args.self.now.line ≡ end_line (length c.args.self.now.rows) = yes_end c.read_end.result c.as_bytes.result.now c.args.self.now.line c.len.result (length c.args.self.now.rows) c.len.ensures.count (sym c.if-ne.false ∙ c.ne.ensures) c.read_end.ensures.found c.as_bytes.ensures in
    let s : Steps c.args.self.now c.next_line.new.self = step_last c.args.self.now c.next_line.new.self c.requires.sound c.requires.clear c.requires.room c.requires.place some line (some-end_line (length c.args.self.now.rows)) c.next_line.ensures in
    (s.clear, s.text)
