use Rattle.std.proofs.Common.{◌≡◌, ◌≢◌, ℕ, length, List, [], ◌∷◌, eqb, true, false, pos, sym, ◌∙◌, ap, subst, w64}
use Rattle.std.specs.Str.{bytes_eq}
use Rattle.std.proofs.lemmas.Bool.{eqb-true, eqb-false}
use Rattle.std.proofs.lemmas.Bool.Decides.{not_from_Decides}
use Rattle.std.proofs.lemmas.Int.{to_z_pos}
use Rattle.std.proofs.lemmas.List.{nil_from_length}
use Rattle.std.proofs.lemmas.Slice.Eq.{bytes_eq-Decides}
use Rattle.bisync_text.specs.Duration.{IsDuration}
use Rattle.bisync_text.proofs.DurationLaws.{zero_exact, nothing_exact, more_exact, sum_found, sum_exact}
use Rattle.bisync_text.proofs.durations.read_duration.Goals as goal

is_zero : (text : List ℕ) → bytes_eq text (48 ∷ []) ≡ true → text ≡ 48 ∷ []
is_zero text e = (bytes_eq-Decides text (48 ∷ [])).0 e

not_zero : (text : List ℕ) → bytes_eq text (48 ∷ []) ≡ false → text ≢ 48 ∷ []
not_zero text e = not_from_Decides (bytes_eq text (48 ∷ [])) (bytes_eq-Decides text (48 ∷ [])) e

is_nil : (text : List ℕ) → eqb (length text) 0 ≡ true → text ≡ []
is_nil text e = nil_from_length text (eqb-true (length text) 0 e)

not_nil : (text : List ℕ) → eqb (length text) 0 ≡ false → text ≢ []
not_nil text e nil = eqb-false (length text) 0 e (ap length nil)

pub returns-then-eq-clause-exact : goal.returns-then-eq-clause-exact
returns-then-eq-clause-exact c t is =
    let P : List ℕ → Type 0 = λ bytes. IsDuration bytes t in
    zero_exact t (subst P (is_zero c.args.text.now (sym c.eq.ensures ∙ c.if-eq.true)) is)

pub returns-then-is_empty-clause-exact : goal.returns-then-is_empty-clause-exact
returns-then-is_empty-clause-exact c t is =
    let P : List ℕ → Type 0 = λ bytes. IsDuration bytes t in
    nothing_exact t _ (subst P (is_nil c.args.text.now (sym c.is_empty.ensures ∙ c.if-is_empty.true)) is)

pub returns-then-not-is_empty-clause-exact : goal.returns-then-not-is_empty-clause-exact
returns-then-not-is_empty-clause-exact c t is =
    more_exact c.args.text.now c.part-hours.result.0 c.part-minutes.result.0 c.part-seconds.result.0 c.part-hours.result.1.now c.part-minutes.result.1.now c.part-seconds.result.1.now t _
    (record { hour = c.part-hours.ensures.part; minute = c.part-minutes.ensures.part; second = c.part-seconds.ensures.part })
    (not_zero c.args.text.now (sym c.eq.ensures ∙ c.if-eq.false))
    (not_nil c.part-seconds.result.1.now (sym c.is_empty-2.ensures ∙ c.if-not-is_empty.true))
    is

pub returns-clause-found : goal.returns-clause-found
returns-clause-found c =
    sum_found c.args.text.now c.part-hours.result.0 c.part-minutes.result.0 c.part-seconds.result.0 c.part-hours.result.1.now c.part-minutes.result.1.now c.part-seconds.result.1.now _
    (record { hour = c.part-hours.ensures.part; minute = c.part-minutes.ensures.part; second = c.part-seconds.ensures.part })
    (is_nil c.part-seconds.result.1.now (sym c.is_empty-2.ensures ∙ c.if-not-is_empty.false))
    (not_nil c.args.text.now (sym c.is_empty.ensures ∙ c.if-is_empty.false))
    (to_z_pos w64 c.nanoseconds.result c.nanoseconds.ensures.bound ∙ ap pos c.nanoseconds.ensures.value)

pub returns-clause-exact : goal.returns-clause-exact
returns-clause-exact c t is =
    sum_exact c.args.text.now c.part-hours.result.0 c.part-minutes.result.0 c.part-seconds.result.0 c.part-hours.result.1.now c.part-minutes.result.1.now c.part-seconds.result.1.now t _
    (record { hour = c.part-hours.ensures.part; minute = c.part-minutes.ensures.part; second = c.part-seconds.ensures.part })
    (not_zero c.args.text.now (sym c.eq.ensures ∙ c.if-eq.false))
    (to_z_pos w64 c.nanoseconds.result c.nanoseconds.ensures.bound ∙ ap pos c.nanoseconds.ensures.value)
    is
