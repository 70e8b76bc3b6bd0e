use Rattle.std.proofs.Common.{ℕ, ◌≤◌, List, drop, take, length, sym, ap, ◌∙◌, arith}
use Rattle.std.proofs.lemmas.List.{length-take-le}
use Rattle.bisync_listing.specs.Words.{text_of_lines}
use Rattle.bisync_listing.specs.Writing.{lines_from}
use Rattle.bisync_listing.proofs.PendingLaws.{given_front, left_of}
use Rattle.bisync_listing.proofs.pending.Pending.give.Goals as goal

pub returns-clause-given : goal.returns-clause-given
returns-clause-given c =
    let p = c.next_line.new.self in
    let left = left_of c.as_bytes.result.now p.given ∙ ap (λ (x : List ℕ). drop p.given x) c.as_bytes.ensures.value in
    let copied = c.copy_from_slice.ensures.after ∙ ap (λ (x : List ℕ). take c.min-count.result x) left in
    let w = c.next_line.ensures.writing in
    let few : c.min-count.result ≤ length (drop p.given p.line) = omega (arith, c.min-count.ensures, ap length left) in
    given_front _ p.line (text_of_lines (lines_from p.ended p.listing.now p.next)) c.copy_from_slice.new.self _ p.given c.min-count.result (sym c.next_line.ensures.same) copied (ap length copied ∙ length-take-le c.min-count.result (drop p.given p.line) few)
