use Rattle.std.proofs.Common.{◌≡◌, ◌+◌, ◌++◌, ◌∷◌, [], ℕ, Bool, false, sym, ap, subst, ◌∙◌, drop, length, arith, length-append}
use Rattle.bisync_listing.specs.Words.{text_of_lines}
use Rattle.bisync_listing.specs.Spelling.{file_line, end_line}
use Rattle.bisync_listing.specs.Writing.{lines_from}
use Rattle.bisync_listing.proofs.PendingLaws.{row_lines, last_lines, next_same}
use Rattle.bisync_listing.proofs.pending.Pending.next_line.Goals as goal

pub returns-then-next-len-clause-same : goal.returns-then-next-len-clause-same
returns-then-next-len-clause-same c =
    let p = c.args.self.now in
    let begun : p.ended ≡ false = c.if-self.false in
    let made = next_same p.line c.put_file.new.line p.given (lines_from false p.listing.now p.next) (lines_from false p.listing.now (p.next + 1)) (file_line (c.path_at.result.now, c.entry_at.result.now))
    (omega (arith, c.if-self-len.false, c.len.ensures)) c.put_file.ensures (row_lines p.listing.now p.next c.path_at.result.now c.entry_at.result.now c.path_at.ensures c.entry_at.ensures) in
    subst (λ (b : Bool). drop 0 c.put_file.new.line ++ text_of_lines (lines_from b p.listing.now (p.next + 1)) ≡ drop p.given p.line ++ text_of_lines (lines_from b p.listing.now p.next)) (sym begun) made

pub returns-else-next-len-clause-same : goal.returns-else-next-len-clause-same
returns-else-next-len-clause-same c =
    let p = c.args.self.now in
    let begun : p.ended ≡ false = c.if-self.false in
    let made = next_same p.line c.put_end.new.line p.given (lines_from false p.listing.now p.next) [] (end_line c.len-else-next-len.result)
    (omega (arith, c.if-self-len.false, c.len.ensures)) c.put_end.ensures (last_lines p.listing.now p.next (omega (arith, c.if-next-len.false, c.len-2.ensures.count)) ∙ ap (λ (n : ℕ). end_line n ∷ []) (sym c.len-else-next-len.ensures.count)) in
    subst (λ (b : Bool). drop 0 c.put_end.new.line ++ [] ≡ drop p.given p.line ++ text_of_lines (lines_from b p.listing.now p.next)) (sym begun) made

pub returns-then-next-len-clause-more : goal.returns-then-next-len-clause-more
returns-then-next-len-clause-more c = λ none. absurd (omega (arith, ap length c.put_file.ensures, length-append (file_line (c.path_at.result.now, c.entry_at.result.now)) (10 ∷ [])))

pub returns-else-next-len-clause-more : goal.returns-else-next-len-clause-more
returns-else-next-len-clause-more c = λ none. absurd (omega (arith, ap length c.put_end.ensures, length-append (end_line c.len-else-next-len.result) (10 ∷ [])))
