use Rattle.std.proofs.Common.{ap, sym, ◌∙◌, ◌≤ℤ◌, pos, subst, w64}
use Rattle.std.proofs.lemmas.Int.{to_z-of_z}
use Rattle.jiff_core.specs.declared.civil.date.Date.{Date}
use Rattle.bisync_text.proofs.CivilLaws.{at_year_low, moment_back, civil_back}
use Rattle.bisync_text.proofs.civil_times.civil_of.Goals as goal

pub civil_from-requires : goal.civil_from-requires
civil_from-requires c = let P : Date → Type 0 = λ d. pos 0 ≤ℤ d.year in subst P (sym c.date.ensures) (at_year_low c.datetime_of-at.result c.args.ns c.ranges.ns (c.datetime_of-at.ensures ∙ to_z-of_z w64 c.args.ns c.ranges.ns))

pub returns-clause-civil : goal.returns-clause-civil
returns-clause-civil c = let e = c.civil_from.ensures in civil_back c.civil_from.result c.date.result c.time.result e.year e.month e.day e.hour e.minute e.second e.nanosecond

pub returns-clause-moment : goal.returns-clause-moment
returns-clause-moment c =
    let e = c.civil_from.ensures in let d = c.date.ensures in let t = c.time.ensures in
    moment_back c.civil_from.result c.datetime_of-at.result c.args.ns
    (e.year ∙ ap (λ x. x.year) d) (e.month ∙ ap (λ x. x.month) d) (e.day ∙ ap (λ x. x.day) d) (e.hour ∙ ap (λ x. x.hour) t) (e.minute ∙ ap (λ x. x.minute) t) (e.second ∙ ap (λ x. x.second) t) (e.nanosecond ∙ ap (λ x. x.subsec_nanosecond) t)
    (c.datetime_of-at.ensures ∙ to_z-of_z w64 c.args.ns c.ranges.ns)
