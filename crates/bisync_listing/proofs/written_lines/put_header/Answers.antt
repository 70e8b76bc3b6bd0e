use Rattle.std.proofs.Common.{List, ℕ, ◌++◌, ap, ◌∙◌}
use Rattle.bisync_listing.proofs.WritingLaws.{header_written}
use Rattle.bisync_listing.proofs.written_lines.put_header.Goals as goal

pub returns : goal.returns
returns c = header_written c.args.stamp c.args.fields.now c.args.line.now c.push_all.new.self c.push_decimal.new.self c.push_all-2.new.self c.push_all-3.new.self c.push.new.self c.requires c.push_all.ensures.bytes c.push_decimal.ensures.bytes c.push_all-2.ensures.bytes
    (c.push_all-3.ensures.bytes ∙ ap (λ (x : List ℕ). c.push_all-2.new.self ++ x) c.field_names.ensures) c.push.ensures.bytes
