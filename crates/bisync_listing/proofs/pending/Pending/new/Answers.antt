use Rattle.std.proofs.Common.{◌≡◌, ◌++◌, Option, false, sym, ap, ◌∙◌, drop, arith}
use Rattle.bisync_tree.specs.declared.entries.Compare.{Compare}
use Rattle.bisync_listing.specs.Words.{ended, text_of_lines}
use Rattle.bisync_listing.specs.Spelling.{header_line, listing_text}
use Rattle.bisync_listing.specs.Writing.{lines_from}
use Rattle.bisync_listing.proofs.PendingLaws.{whole_text, no_fields}
use Rattle.bisync_listing.proofs.pending.Pending.new.Goals as goal
use Rattle.bisync_listing.proofs.pending.Pending.new.Goals.{in-Some, in_default}

pub returns : goal.returns
returns c =
    let h = c.args.header.now in
    let text : drop 0 c.match-header.line ++ text_of_lines (lines_from false c.args.listing.now 0) ≡ listing_text h c.args.listing.now = elim c.match-header.branch [
      | in-Some w ↦ (
          let line = w.line-is ∙ w.put_header.ensures ∙ ap (λ (f : Option Compare). ended (header_line (record { stamp = h.stamp; fields = f }))) (sym w.in-Some.is) in
          whole_text h c.args.listing.now w.in-Some.fields c.match-header.line w.in-Some.is line)
      | in_default w ↦ absurd (no_fields c.args.header.now.fields c.requires.has_fields w.in_default.is)
    ] in
    (record { in_range = omega arith; in_line = omega arith }, text)
