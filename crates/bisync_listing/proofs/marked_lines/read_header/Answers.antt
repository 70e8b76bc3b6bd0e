use Rattle.std.proofs.Common.{◌++◌, sym, ◌∙◌, codes}
use Rattle.std.specs.Fmt.{decimal}
use Rattle.bisync_listing.specs.Spelling.{fields_text}
use Rattle.bisync_listing.proofs.LineLaws.{append_cancel}
use Rattle.bisync_listing.proofs.HeaderLaws.{header_v1, header_v2, first_line, second_line}
use Rattle.bisync_listing.proofs.marked_lines.read_header.Goals as goal

pub returns-in_err-read_stamp-clause-none : goal.returns-in_err-read_stamp-clause-none
returns-in_err-read_stamp-clause-none c = rw c.from_residual.ensures (λ h is e.
    c.in_err-read_stamp.ensures.none h.stamp is.low is.high (header_v1 c.args.line.now c.in-Some.stamp.now h c.in-Some.ensures.found e))

pub returns-in-Some-clause-found : goal.returns-in-Some-clause-found
returns-in-Some-clause-found c =
    let found = c.in_ok-read_stamp.ensures.found in
    first_line c.in_ok-read_stamp.field-0 c.args.line.now c.in-Some.stamp.now found.0 found.1 c.in-Some.ensures.found found.2

pub returns-in_err-text-clause-none : goal.returns-in_err-text-clause-none
returns-in_err-text-clause-none c = rw c.from_residual-in_err-text.ensures (λ h is e.
    let x = header_v2 c.args.line.now h is c.in_default.ensures.none e in
    c.in_err-text.ensures.none (decimal h.stamp ++ (codes " fields " ++ fields_text x.0)) x.2)

pub returns-in_err-stamp-clause-none : goal.returns-in_err-stamp-clause-none
returns-in_err-stamp-clause-none c = rw c.from_residual-in_err-stamp.ensures (λ h is e.
    let x = header_v2 c.args.line.now h is c.in_default.ensures.none e in
    let text = append_cancel (codes "# bisync listing v2 stamp ") c.in_ok-text.text.now (decimal h.stamp ++ (codes " fields " ++ fields_text x.0)) (sym c.in_ok-text.ensures.found ∙ x.2) in
    c.in_err-stamp.ensures.none h.stamp x.0 is.low is.high x.1 text)

pub returns-clause-found : goal.returns-clause-found
returns-clause-found c =
    let found = c.in_ok-stamp.ensures.found in
    second_line c.in_ok-stamp.stamp c.in_ok-stamp.fields c.args.line.now c.in_ok-text.text.now found.0 found.1 found.2 c.in_ok-text.ensures.found found.3
