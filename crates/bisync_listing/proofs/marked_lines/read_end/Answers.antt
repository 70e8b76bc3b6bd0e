use Rattle.std.proofs.Common.{ℕ, List, [], ◌∷◌, ◌++◌, rules, ap, sym, ◌∙◌, codes, arith}
use Rattle.std.specs.Fmt.{decimal}
use Rattle.bisync_listing.specs.Spelling.{end_line}
use Rattle.bisync_listing.proofs.LineLaws.{append_cancel}
use Rattle.bisync_listing.proofs.FieldLaws.{Lacks-decimal}
use Rattle.bisync_listing.proofs.PartLaws.{no_word, same_word, some_none, differs, agrees}
use Rattle.bisync_listing.proofs.marked_lines.read_end.Goals as goal

pub returns-in_err-text-clause-none : goal.returns-in_err-text-clause-none
unfolding end_line
returns-in_err-text-clause-none c = rw c.from_residual.ensures (λ count lt e. c.in_err-text.ensures.none (decimal count ++ codes " files") e)

pub returns-in_err-digits-clause-none : goal.returns-in_err-digits-clause-none
unfolding end_line
returns-in_err-digits-clause-none c = rw c.from_residual-in_err-digits.ensures (λ count lt e.
    no_word (codes "# end ") c.args.line.now c.in_ok-text.text.now (decimal count) (codes "files") c.in_ok-text.ensures.found c.in_err-digits.ensures.none e)

pub returns-then-ne-clause-none : goal.returns-then-ne-clause-none
unfolding end_line
returns-then-ne-clause-none c = λ count lt e.
    let w = c.in_ok-digits.ensures.found in
    let same = same_word [] c.in_ok-text.text.now c.in_ok-digits.digits.now c.in_ok-digits.rest.now (decimal count) (codes "files") w.0 w.1 (Lacks-decimal 32 count (omega arith) lt)
    (append_cancel (codes "# end ") c.in_ok-text.text.now (decimal count ++ codes " files") (sym c.in_ok-text.ensures.found ∙ e)) in
    differs c.in_ok-digits.rest.now c.as_slice.result.now c.ne.result c.if-ne.true c.ne.ensures (same.1 ∙ sym c.as_slice.ensures)

pub returns-in_err-read_decimal-clause-none : goal.returns-in_err-read_decimal-clause-none
unfolding end_line
returns-in_err-read_decimal-clause-none c = rw c.from_residual-in_err-read_decimal.ensures (λ count lt e.
    let w = c.in_ok-digits.ensures.found in
    let same = same_word [] c.in_ok-text.text.now c.in_ok-digits.digits.now c.in_ok-digits.rest.now (decimal count) (codes "files") w.0 w.1 (Lacks-decimal 32 count (omega arith) lt)
    (append_cancel (codes "# end ") c.in_ok-text.text.now (decimal count ++ codes " files") (sym c.in_ok-text.ensures.found ∙ e)) in
    some_none c.read_decimal.result count c.in_err-read_decimal.was (c.read_decimal.ensures.exact count lt same.0))

pub returns-clause-found : goal.returns-clause-found
unfolding end_line
returns-clause-found c =
    let w = c.in_ok-digits.ensures.found in
    let rest = agrees c.in_ok-digits.rest.now c.as_slice.result.now c.ne.result c.if-ne.false c.ne.ensures ∙ c.as_slice.ensures in
    let digits = c.in_ok-read_decimal.ensures.found in
    (search rules, c.in_ok-text.ensures.found ∙ ap (λ (x : List ℕ). codes "# end " ++ x) (w.0 ∙ ap (λ (x : List ℕ). c.in_ok-digits.digits.now ++ 32 ∷ x) rest ∙ ap (λ (x : List ℕ). x ++ codes " files") digits))
