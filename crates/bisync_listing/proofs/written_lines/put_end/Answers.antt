use Rattle.bisync_listing.proofs.WritingLaws.{end_written}
use Rattle.bisync_listing.proofs.written_lines.put_end.Goals as goal

pub returns : goal.returns
returns c = end_written c.args.count c.args.line.now c.push_all.new.self c.push_decimal.new.self c.push_all-2.new.self c.requires c.push_all.ensures.bytes c.push_decimal.ensures.bytes c.push_all-2.ensures.bytes
