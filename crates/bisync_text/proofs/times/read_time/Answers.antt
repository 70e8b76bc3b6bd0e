use Rattle.std.proofs.Common.{ℕ, eqb, false, ◌<◌, ◌≡◌, refl, sym, ◌∙◌, length, arith, None}
use Rattle.std.proofs.lemmas.Bool.{eqb-true}
use Rattle.std.proofs.lemmas.Bool.Decides.{nat_tests}
use Rattle.bisync_text.proofs.FieldLaws.{fields_take}
use Rattle.bisync_text.proofs.TimeLaws.{no_fields, more_text, text_found, text_exact}
use Rattle.bisync_text.proofs.times.read_time.Goals as goal

some_left : (n : ℕ) → eqb n 0 ≡ false → 0 < n
some_left n e = grind (arith, nat_tests)

pub returns-in_err-civil-clause-exact : goal.returns-in_err-civil-clause-exact
returns-in_err-civil-clause-exact c t fits e = no_fields c.args.text.now t _ (let was : c.fields.result ≡ None = c.in_err-civil.was in sym c.fields.ensures ∙ rw was refl) fits e

pub returns-then-not-is_empty-clause-exact : goal.returns-then-not-is_empty-clause-exact
returns-then-not-is_empty-clause-exact c t fits e = more_text c.args.text.now c.in_ok-civil.rest.now c.in_ok-civil.civil t _ (sym c.in_ok-civil.ensures) (some_left (length c.in_ok-civil.rest.now) (sym c.is_empty.ensures ∙ c.if-not-is_empty.true)) fits e

pub moment-requires : goal.moment-requires
moment-requires c = (fields_take c.args.text.now (c.in_ok-civil.civil, c.in_ok-civil.rest.now) (sym c.in_ok-civil.ensures)).1

pub returns-clause-found : goal.returns-clause-found
returns-clause-found c = text_found c.args.text.now c.in_ok-civil.rest.now c.in_ok-civil.civil c.moment.result (sym c.in_ok-civil.ensures) (eqb-true _ 0 (sym c.is_empty.ensures ∙ c.if-not-is_empty.false)) c.moment.ensures.found

pub returns-clause-exact : goal.returns-clause-exact
returns-clause-exact c = text_exact c.args.text.now c.in_ok-civil.rest.now c.in_ok-civil.civil c.moment.result (sym c.in_ok-civil.ensures) c.moment.ensures.found c.moment.ensures.none
