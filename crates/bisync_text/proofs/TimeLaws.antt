-- Each moment has one time text, and what a caller may know of it.
use Rattle.std.proofs.Common.{◌≡◌, ℕ, ◌<◌, List, [], ◌∷◌, ◌++◌, length, Option, Some, None, refl, sym, ap, subst, ◌∙◌, arith, codes}
use Rattle.bisync_text.specs.declared.civil_times.CivilTime.{CivilTime}
use Rattle.bisync_text.specs.Digits.{padded}
use Rattle.bisync_text.specs.Time.{IsCivil, IsTimeText, IsPlainTime, HasOneTimeText, HasItsOwnTimeText, civil_text, civil_at, time_spelling, moment_of}
use Rattle.bisync_text.proofs.CalendarLaws.{civil_at_is, moment_one}
use Rattle.bisync_text.specs.TimeFields.{fields_at}
use Rattle.std.proofs.Common.{ℤ, FitsSigned, w64, IfSome, IfNone}
use Rattle.std.proofs.lemmas.List.{nil_from_length}
use Rattle.std.proofs.lemmas.List.{append-nil}
use Rattle.std.specs.List.{All}
use Rattle.std.proofs.lemmas.List.{length-append}
use Rattle.std.proofs.lemmas.List.Elements.{All-weaker, All-append, All-cons, All-from_recursion}
use Rattle.bisync_text.specs.Digits.{IsDigit}
use Rattle.bisync_text.proofs.DigitLaws.{length-padded, digits_padded}
use Rattle.bisync_text.proofs.FieldLaws.{fields_take, fields_again, civil_fits, no_text, fields_of_text}

-- ---- the one text of a moment

pub text_of_moment : (t : ℤ) → FitsSigned w64 t → IsTimeText t (time_spelling t)
unfolding time_spelling
text_of_moment t fits = let is = civil_at_is t fits in record { civil = civil_at t; is_civil = is.0; moment = is.1; spelled = refl }

pub text_is_spelling : (t : ℤ) (text : List ℕ) → FitsSigned w64 t → IsTimeText t text → text ≡ time_spelling t
unfolding time_spelling
text_is_spelling t text fits h =
    let is = civil_at_is t fits in
    h.spelled ∙ ap civil_text (moment_one h.civil (civil_at t) h.is_civil is.0 (h.moment ∙ sym is.1))

pub one_time_text : (t : ℤ) → FitsSigned w64 t → HasOneTimeText t
one_time_text t fits text = (text_is_spelling t text fits, λ e. let P : List ℕ → Type 0 = λ bytes. IsTimeText t bytes in subst P (sym e) (text_of_moment t fits))

pub time_text_is : (t : ℤ) (text : List ℕ) → FitsSigned w64 t → text ≡ time_spelling t → IsTimeText t text
time_text_is t text fits e = (one_time_text t fits text).1 e

-- ---- the clauses of read_time, from the fields and those of moment

pub text_found : (text rest : List ℕ) (c : CivilTime) (r : Option ℤ) → fields_at text ≡ Some (c, rest) → length rest ≡ 0 → IfSome r (λ t. FitsSigned w64 t × IsCivil c × (moment_of c ≡ t)) → IfSome r (λ t. text ≡ time_spelling t)
text_found text rest c None e nil h = tt
text_found text rest c (Some t) e nil h =
    let spelled : text ≡ civil_text c = (fields_take text (c, rest) e).0 ∙ rw (nil_from_length rest nil) (append-nil (civil_text c)) in
    text_is_spelling t text h.0 (record { civil = c; is_civil = h.1; moment = h.2; spelled = spelled })

pub no_fields : (text : List ℕ) (t : ℤ) (r : Option ℤ) → fields_at text ≡ None → FitsSigned w64 t → text ≡ time_spelling t → r ≡ Some t
no_fields text t r none fits e = absurd (no_text text t none (time_text_is t text fits e))

pub more_text : (text rest : List ℕ) (c : CivilTime) (t : ℤ) (r : Option ℤ) → fields_at text ≡ Some (c, rest) → 0 < length rest → FitsSigned w64 t → text ≡ time_spelling t → r ≡ Some t
more_text text rest c t r read some fits e =
    let nil : length rest ≡ 0 = ap length (fields_of_text text rest c t read (time_text_is t text fits e)).2 in
    absurd (omega arith)

pub text_exact : (text rest : List ℕ) (c : CivilTime) (r : Option ℤ) → fields_at text ≡ Some (c, rest) → IfSome r (λ t. FitsSigned w64 t × IsCivil c × (moment_of c ≡ t)) → IfNone r (IsCivil c → FitsSigned w64 (moment_of c) → ⊥) → (t : ℤ) → FitsSigned w64 t → text ≡ time_spelling t → r ≡ Some t
text_exact text rest c None read found none t fits e =
    let p = fields_of_text text rest c t read (time_text_is t text fits e) in
    absurd (none p.0 (let P : ℤ → Type 0 = λ z. FitsSigned w64 z in subst P (sym p.1) fits))
text_exact text rest c (Some v) read found none t fits e =
    let p = fields_of_text text rest c t read (time_text_is t text fits e) in
    ap Some (sym found.2 ∙ p.1)

-- ---- what a caller may know of each text

-- a text has one moment
pub moment_of_text : (s t : ℤ) (text : List ℕ) → IsTimeText s text → IsTimeText t text → s ≡ t
moment_of_text s t text h k =
    let read : fields_at text ≡ Some (h.civil, []) = ap fields_at (h.spelled ∙ sym (append-nil (civil_text h.civil))) ∙ fields_again h.civil [] (civil_fits h.civil h.is_civil) in
    sym h.moment ∙ (fields_of_text text [] h.civil t read k).1

pub own_time_text : (t : ℤ) → FitsSigned w64 t → HasItsOwnTimeText t
own_time_text t fits other fits₂ e =
    let P : List ℕ → Type 0 = λ bytes. IsTimeText other bytes in
    moment_of_text other t (time_spelling t) (subst P e (text_of_moment other fits₂)) (text_of_moment t fits)

pub length-spelling : (t : ℤ) → length (time_spelling t) ≡ 34
unfolding time_spelling civil_text
length-spelling t = let c = civil_at t in simp (length-append, length-padded) refl

plain_digits : (k n : ℕ) → All IsPlainTime (padded k n)
plain_digits k n = All-weaker IsDigit IsPlainTime (λ b h. omega arith) (padded k n) (digits_padded k n)

plain_field : (k n b : ℕ) (rest : List ℕ) → IsPlainTime b → All IsPlainTime rest → All IsPlainTime (padded k n ++ (b ∷ rest))
plain_field k n b rest h more = All-append IsPlainTime (padded k n) (b ∷ rest) (plain_digits k n) (All-cons IsPlainTime b rest h more)

plain_offset : All IsPlainTime (codes "+0000")
plain_offset = All-from_recursion IsPlainTime (codes "+0000") (search arith)

pub plain_spelling : (t : ℤ) → All IsPlainTime (time_spelling t)
unfolding time_spelling civil_text
plain_spelling t =
    let c = civil_at t in
    plain_field 4 c.year 45 _ (omega arith, omega arith) (
    plain_field 2 c.month 45 _ (omega arith, omega arith) (
    plain_field 2 c.day 84 _ (omega arith, omega arith) (
    plain_field 2 c.hour 58 _ (omega arith, omega arith) (
    plain_field 2 c.minute 58 _ (omega arith, omega arith) (
    plain_field 2 c.second 46 _ (omega arith, omega arith) (
    All-append IsPlainTime (padded 9 c.nanosecond) (codes "+0000") (plain_digits 9 c.nanosecond) plain_offset))))))
