use Rattle.std.proofs.Common.{FitsSigned, w64}
use Rattle.std.proofs.lemmas.Int.{to_z-of_z}
use Rattle.bisync_text.specs.Quote.{quoted}
use Rattle.bisync_listing.specs.Spelling.{file_line}
use Rattle.bisync_listing.proofs.SpellingLaws.{path_of_line, line_of_parts}
use Rattle.bisync_listing.proofs.file_lines.read_row.Goals as goal

pub returns-in_default : goal.returns-in_default
unfolding file_line
returns-in_default c = λ row is e. c.in_default.ensures.none row.1.size row.1.hash row.1.time (quoted row.0) is.size is.hash is.time e

pub returns-in_default-2 : goal.returns-in_default-2
returns-in_default-2 c = λ row is e.
    let found = c.in-Some.ensures.found in
    let x = c.in-Some.field-0 in
    let none = rw c.in_default-2.is at c.in_ok-path.ensures in
    none row.0 is.path (path_of_line c.args.line.now x.size x.hash x.time x.quoted.now row found.0 found.1 found.2 found.3 is e)

pub returns : goal.returns
returns c =
    let found = c.in-Some.ensures.found in
    let x = c.in-Some.field-0 in
    let path = rw c.in-Some-2.is at c.in_ok-path.ensures in
    let fits : FitsSigned w64 x.time = found.2 in
    let made = line_of_parts c.args.line.now x.size x.hash x.time x.quoted.now c.in-Some-2.path found.0 found.1 found.2 found.3 path.0 path.1 in
    rw (to_z-of_z w64 x.time fits) made
