use Rattle.std.proofs.Common.{codes, sym, ◌∙◌, []}
use Rattle.bisync_listing.proofs.LineLaws.{append_cancel}
use Rattle.std.specs.Fmt.{decimal}
use Rattle.bisync_listing.proofs.FieldLaws.{Lacks-decimal}
use Rattle.bisync_listing.proofs.PartLaws.{no_word, same_word, some_none}
use Rattle.std.proofs.Common.{arith}
use Rattle.bisync_listing.proofs.file_words.size_of.Goals as goal

pub returns-in_err-digits-clause-none : goal.returns-in_err-digits-clause-none
returns-in_err-digits-clause-none c = rw c.from_residual-in_err-digits.ensures (λ size rest lt e.
    no_word (codes "- ") c.args.line.now c.in_ok-text.text.now (decimal size) rest c.in_ok-text.ensures.found c.in_err-digits.ensures.none e)

pub returns-in_err-read_decimal-clause-none : goal.returns-in_err-read_decimal-clause-none
returns-in_err-read_decimal-clause-none c = rw c.from_residual-in_err-read_decimal.ensures (λ size rest lt e.
    let w = c.in_ok-digits.ensures.found in
    let same = same_word [] c.in_ok-text.text.now c.in_ok-digits.digits.now c.in_ok-digits.rest.now (decimal size) rest w.0 w.1 (Lacks-decimal 32 size (omega arith) lt)
    (append_cancel (codes "- ") _ _ (sym c.in_ok-text.ensures.found ∙ e)) in
    some_none c.read_decimal.result size c.in_err-read_decimal.was (c.read_decimal.ensures.exact size lt same.0))
