use Rattle.std.proofs.Common.{rules, FitsSigned, w64, List, ℕ, ◌++◌, ap, ◌∙◌}
use Rattle.std.proofs.lemmas.Int.{to_z-of_z}
use Rattle.bisync_text.specs.Time.{time_spelling}
use Rattle.bisync_text.specs.Quote.{quoted}
use Rattle.bisync_listing.proofs.WritingLaws.{file_written}
use Rattle.bisync_listing.proofs.written_lines.put_file.Goals as goal

pub returns : goal.returns
returns c = let fits : FitsSigned w64 c.args.entry.now.time = search rules in
    let shown = c.time_text.ensures ∙ ap time_spelling (to_z-of_z w64 c.args.entry.now.time fits) in
    file_written (c.args.path.now, c.args.entry.now) c.args.line.now c.push_all.new.self c.push_decimal.new.self c.push.new.self c.put_digest.new.line c.push_all-2.new.self c.push_all-3.new.self c.push-2.new.self c.put_quoted.new.line c.push-3.new.self
    c.requires c.push_all.ensures.bytes c.push_decimal.ensures.bytes c.push.ensures.bytes c.put_digest.ensures.bytes c.push_all-2.ensures.bytes (c.push_all-3.ensures.bytes ∙ ap (λ (x : List ℕ). c.push_all-2.new.self ++ x) shown) c.push-2.ensures.bytes
    (c.put_quoted.ensures.bytes ∙ ap (λ (x : List ℕ). c.push-2.new.self ++ quoted x) c.as_bytes.ensures.bytes) c.push-3.ensures.bytes
