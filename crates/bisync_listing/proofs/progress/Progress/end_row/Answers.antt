use Rattle.std.proofs.Common.{◌≡◌, ◌+◌, ◌++◌, ◌∷◌, [], ◌∙◌, ap, IsTrue}
use Rattle.bisync_listing.specs.Progress.{MayFollow}
use Rattle.bisync_listing.proofs.ProgressLaws.{Steps, step_row, sound_on, takes_failed, bad_wrong}
use Rattle.bisync_listing.proofs.RefusalLaws.{refused_row}
use Rattle.bisync_tree.specs.Rows.{Rows}
use Rattle.bisync_listing.proofs.PartLaws.{on_ok}
use Rattle.bisync_listing.proofs.SpellingLaws.{some-file_line}
use Rattle.bisync_listing.proofs.progress.Progress.end_row.Goals as goal

pub returns-then-not-may_follow-clause-takes : goal.returns-then-not-may_follow-clause-takes
returns-then-not-may_follow-clause-takes c = takes_failed c.args.self.now c.bad.new.self _ _ c.bad.result c.bad.ensures.kept c.bad.ensures.err
    (bad_wrong c.args.self.now c.requires.sound (refused_row c.args.self.now.place c.args.self.now.header c.args.self.now.rows c.args.self.now.line (c.args.path, c.args.entry) c.requires.place c.requires.row c.requires.line
    (λ m. let t : IsTrue c.may_follow.result = c.may_follow.ensures.1 (m.digest, m.above) in let f = c.if-not-may_follow.true in cc)))

pub returns-clause-sound : goal.returns-clause-sound
returns-clause-sound c =
    let may = c.may_follow.ensures.0 c.if-not-may_follow.false in
    let p = c.args.self.now in
    let rows : c.push.new.self ≡ p.rows ++ (c.args.path, c.args.entry) ∷ [] = on_ok c.push.result _ c.if-is_err.ensures.negation c.push.ensures.ok in
    let follows : MayFollow p.header p.rows (c.args.path, c.args.entry) = record { listed = c.requires.row; digest = may.0; above = may.1 } in
    let s : Steps p c.next_line.new.self = step_row p c.next_line.new.self (c.args.path, c.args.entry) c.requires.sound c.requires.clear c.requires.room c.requires.place follows c.requires.line (some-file_line (c.args.path, c.args.entry))
    (c.next_line.ensures ∙ ap (λ (rs : Rows). record p { rows = rs; line = []; lines = p.lines + 1; used = p.used + 1 }) rows) in
    sound_on c.next_line.new.self s.clear s.reading

pub returns-clause-takes : goal.returns-clause-takes
returns-clause-takes c =
    let may = c.may_follow.ensures.0 c.if-not-may_follow.false in
    let p = c.args.self.now in
    let rows : c.push.new.self ≡ p.rows ++ (c.args.path, c.args.entry) ∷ [] = on_ok c.push.result _ c.if-is_err.ensures.negation c.push.ensures.ok in
    let follows : MayFollow p.header p.rows (c.args.path, c.args.entry) = record { listed = c.requires.row; digest = may.0; above = may.1 } in
    let s : Steps p c.next_line.new.self = step_row p c.next_line.new.self (c.args.path, c.args.entry) c.requires.sound c.requires.clear c.requires.room c.requires.place follows c.requires.line (some-file_line (c.args.path, c.args.entry))
    (c.next_line.ensures ∙ ap (λ (rs : Rows). record p { rows = rs; line = []; lines = p.lines + 1; used = p.used + 1 }) rows) in
    (s.clear, s.text)
