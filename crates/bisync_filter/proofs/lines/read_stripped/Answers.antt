use Rattle.std.proofs.Common.{◌≡◌, true, false, sym, ◌∙◌, refl, subst, ◌∷◌, []}
use Rattle.bisync_filter.specs.Spelling.{IsReadRule}
use Rattle.bisync_filter.proofs.ReadingLaws.{no_rule}
use Rattle.bisync_filter.proofs.lines.read_stripped.Goals as goal

pub returns-in-None-2 : goal.returns-in-None-2
returns-in-None-2 c =
    let equal : c.args.line.now ≡ 33 ∷ [] → c.eq.result ≡ true = λ h. c.eq.ensures ∙ rw (h, c.as_slice.ensures) refl in
    no_rule c.args.line.now c.in-Some.includes c.in-Some.text.now (sym c.is_skipped.ensures ∙ c.if-is_skipped.false)
    (λ h. let f : true ≡ false = sym (equal h) ∙ c.if-eq.false in cc) c.in-Some.ensures
    (subst (λ o. IsReadRule c.in-Some.includes c.in-Some.text.now o) c.in-None-2.is c.in_ok-rule-in-Some.ensures)
