use Rattle.std.proofs.Common.{[], ◌++◌, refl, sym, ◌∙◌, codes, arith}
use Rattle.std.specs.Fmt.{decimal}
use Rattle.bisync_listing.specs.Spelling.{fields_text}
use Rattle.bisync_listing.proofs.LineLaws.{append_cancel}
use Rattle.bisync_listing.proofs.FieldLaws.{Lacks-decimal}
use Rattle.bisync_listing.proofs.PartLaws.{no_word, same_word}
use Rattle.bisync_listing.proofs.marked_lines.read_second.Goals as goal

pub returns-in_err-digits-clause-none : goal.returns-in_err-digits-clause-none
returns-in_err-digits-clause-none c = rw c.from_residual.ensures (λ stamp fields low high are e.
    no_word [] c.args.text.now c.args.text.now (decimal stamp) (codes "fields " ++ fields_text fields) refl c.in_err-digits.ensures.none e)

pub returns-in_err-names-clause-none : goal.returns-in_err-names-clause-none
returns-in_err-names-clause-none c = rw c.from_residual-in_err-names.ensures (λ stamp fields low high are e.
    let w = c.in_ok-digits.ensures.found in
    let same = same_word [] c.args.text.now c.in_ok-digits.digits.now c.in_ok-digits.rest.now (decimal stamp) (codes "fields " ++ fields_text fields) w.0 w.1 (Lacks-decimal 32 stamp (omega arith) (omega arith)) e in
    c.in_err-names.ensures.none (fields_text fields) same.1)

pub returns-in_err-read_stamp-clause-none : goal.returns-in_err-read_stamp-clause-none
returns-in_err-read_stamp-clause-none c = rw c.from_residual-in_err-read_stamp.ensures (λ stamp fields low high are e.
    let w = c.in_ok-digits.ensures.found in
    let same = same_word [] c.args.text.now c.in_ok-digits.digits.now c.in_ok-digits.rest.now (decimal stamp) (codes "fields " ++ fields_text fields) w.0 w.1 (Lacks-decimal 32 stamp (omega arith) (omega arith)) e in
    c.in_err-read_stamp.ensures.none stamp low high same.0)

pub returns-in_err-read_fields-clause-none : goal.returns-in_err-read_fields-clause-none
returns-in_err-read_fields-clause-none c = rw c.from_residual-in_err-read_fields.ensures (λ stamp fields low high are e.
    let w = c.in_ok-digits.ensures.found in
    let same = same_word [] c.args.text.now c.in_ok-digits.digits.now c.in_ok-digits.rest.now (decimal stamp) (codes "fields " ++ fields_text fields) w.0 w.1 (Lacks-decimal 32 stamp (omega arith) (omega arith)) e in
    c.in_err-read_fields.ensures.none fields are (append_cancel (codes "fields ") c.in_ok-names.names.now (fields_text fields) (sym c.in_ok-names.ensures.found ∙ same.1)))
