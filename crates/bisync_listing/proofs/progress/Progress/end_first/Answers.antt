use Rattle.std.proofs.Common.{sym, ◌∙◌}
use Rattle.bisync_listing.proofs.ProgressLaws.{Steps, step_first, sound_on, takes_failed, bad_wrong}
use Rattle.bisync_listing.proofs.RefusalLaws.{refused_first}
use Rattle.bisync_listing.proofs.SpellingLaws.{some-header_line}
use Rattle.bisync_listing.proofs.progress.Progress.end_first.Goals as goal

pub returns-in_default-clause-takes : goal.returns-in_default-clause-takes
returns-in_default-clause-takes c = takes_failed c.args.self.now c.bad.new.self _ _ c.bad.result c.bad.ensures.kept c.bad.ensures.err
    (bad_wrong c.args.self.now c.requires.sound (refused_first c.args.self.now.place _ _ c.args.self.now.line c.as_bytes.result.now c.requires.place c.as_bytes.ensures c.in_default.ensures.none))

pub returns-clause-sound : goal.returns-clause-sound
returns-clause-sound c =
    let f = c.in-Some.ensures.found in
    let s : Steps c.args.self.now c.next_line.new.self = step_first c.args.self.now c.next_line.new.self c.in-Some.header c.requires.sound c.requires.clear c.requires.room c.requires.place f.0 (sym c.as_bytes.ensures ∙ f.1) (some-header_line c.in-Some.header) c.next_line.ensures in
    sound_on c.next_line.new.self s.clear s.reading

pub returns-clause-takes : goal.returns-clause-takes
returns-clause-takes c =
    let f = c.in-Some.ensures.found in
    let s : Steps c.args.self.now c.next_line.new.self = step_first c.args.self.now c.next_line.new.self c.in-Some.header c.requires.sound c.requires.clear c.requires.room c.requires.place f.0 (sym c.as_bytes.ensures ∙ f.1) (some-header_line c.in-Some.header) c.next_line.ensures in
    (s.clear, s.text)
