-- The parts of a line.
use Rattle.std.specs.Prelude.{ℕ, List}
use Rattle.std.specs.List.{flat_map}
use Rattle.std.specs.Fmt.{decimal}
use Rattle.hex.specs.Hex.{encode_lower}
use Rattle.bisync_text.specs.Quote.{quoted}
use Rattle.bisync_text.specs.Time.{time_spelling}
use Rattle.bisync_listing.specs.Spelling.{fields_text}
use Rattle.bisync_report.specs.Names.{side_text, delta_text, option_text, work_text}
use Rattle.bisync_report.specs.declared.parts.Part.{Part}
use Rattle.bisync_report.specs.declared.parts.Part.TheVariants.{Words, Quoted, Number, Time, Digest, Of, Change, Named, Work, Fields}

abbrev pub part_text : Part → List ℕ
part_text (Words bytes) = bytes.now
part_text (Quoted bytes) = quoted bytes.now
part_text (Number n) = decimal n
part_text (Time moment) = time_spelling moment
part_text (Digest digest) = encode_lower digest.now
part_text (Of side) = side_text side
part_text (Change delta) = delta_text delta
part_text (Named option) = option_text option
part_text (Work name) = work_text name
part_text (Fields fields) = fields_text fields.now

-- the parts one after the other
abbrev pub parts_text : List Part → List ℕ
parts_text parts = flat_map part_text parts
