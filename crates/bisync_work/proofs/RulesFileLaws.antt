-- The lines of a text that goes on: what more than its limit says of the whole.
use Rattle.std.proofs.Common.{◌≡◌, ◌⊎◌, ℕ, zero, suc, ◌==◌, ◌+◌, ◌-◌, ◌≤◌, ◌<◌, Bool, true, false, List, [], ◌∷◌, ◌++◌, length, refl, sym, ◌∙◌, ap, subst, inl, inr, arith, length-append, append_assoc, Some}
use Rattle.std.specs.List.{All}
use Rattle.std.proofs.lemmas.List.{append-nil}
use Rattle.std.proofs.lemmas.List.Elements.{All-nil, All-cons, All-append}
use Rattle.std.proofs.lemmas.Bool.Decides.{nat_tests}
use Rattle.std.proofs.lemmas.List.Splits.{slice_split_none, slice_split_at}
use Rattle.bisync_device.specs.WorkFolder.{Held}
use Rattle.bisync_filter.specs.declared.rule_lists.Rule.{Rule}
use Rattle.bisync_filter.specs.declared.faults.RuleFault.TheVariants.{BadLine}
use Rattle.bisync_filter.specs.Trimming.{lines}
use Rattle.bisync_filter.specs.Spelling.{size_of, rules_after, LeadsTo, IsFirstBadLine, SpellsRules, AreOnlyRules, IsFaultOf, most_bytes}
use Rattle.bisync_filter.proofs.ReadingLaws.{size_of-lines}
use Rattle.bisync_filter.proofs.SpellingLaws.{only_fault}
use Rattle.md5.specs.Md5.{md5}
use Rattle.bisync_work.specs.RulesFiles.{HasRules, HasBadRule, BeginsWith}

-- no newline stands in the text
abbrev IsOneLine : List ℕ → Type 0
IsOneLine text = All (λ b. (b == 10) ≡ false) text

-- a text that has a newline is cut at its first
record HasNewline (text : List ℕ) : Type 0 where
  line : List ℕ
  rest : List ℕ
  is : text ≡ line ++ 10 ∷ rest
  clean : IsOneLine line

one_more : (b : ℕ) (text : List ℕ) → (b == 10) ≡ false → IsOneLine text → IsOneLine (b ∷ text)
one_more b text other clean = All-cons (λ x. (x == 10) ≡ false) b text other clean

first_newline : (text : List ℕ) → IsOneLine text ⊎ HasNewline text
first_newline [] = inl (All-nil (λ x. (x == 10) ≡ false))
first_newline (b ∷ text) = step (b == 10) refl (first_newline text)
  where
    step : (t : Bool) → (b == 10) ≡ t → IsOneLine text ⊎ HasNewline text → IsOneLine (b ∷ text) ⊎ HasNewline (b ∷ text)
    step true e h = inr (record { line = []; rest = text; is = let same : b ≡ 10 = grind (arith, nat_tests) in ap (λ x. x ∷ text) same; clean = All-nil (λ x. (x == 10) ≡ false) })
    step false e (inl clean) = inl (one_more b text e clean)
    step false e (inr h) = inr (record { line = b ∷ h.line; rest = h.rest; is = ap (λ l. b ∷ l) h.is; clean = one_more b h.line e h.clean })

lines_one : (text : List ℕ) → IsOneLine text → lines text ≡ text ∷ []
lines_one text clean = slice_split_none (λ b. b == 10) text clean

lines_cut : (line rest : List ℕ) → IsOneLine line → lines (line ++ 10 ∷ rest) ≡ line ∷ lines rest
lines_cut line rest clean = slice_split_at (λ b. b == 10) line 10 rest clean refl

-- the first line of a text is bad that begins with one line of more bytes than are left
long_line : (left : ℕ) (front tail : List ℕ) → IsOneLine front → left < length front → IsFirstBadLine 1 left (lines (front ++ tail))
long_line left front tail clean long = step (first_newline tail)
  where
    step : IsOneLine tail ⊎ HasNewline tail → IsFirstBadLine 1 left (lines (front ++ tail))
    step (inl more) =
        let longer : left < length (front ++ tail) = omega (arith, long, length-append front tail) in
        let bad : IsFirstBadLine 1 left ((front ++ tail) ∷ []) = inl (refl, inl longer) in
        subst (IsFirstBadLine 1 left) (sym (lines_one (front ++ tail) (All-append (λ x. (x == 10) ≡ false) front tail clean more))) bad
    step (inr h) =
        let whole : front ++ tail ≡ (front ++ h.line) ++ 10 ∷ h.rest = ap (λ l. front ++ l) h.is ∙ sym (append_assoc front h.line (10 ∷ h.rest)) in
        let longer : left < size_of (front ++ h.line) (lines h.rest) = omega (arith, long, length-append front h.line, size_of-lines (front ++ h.line) h.rest) in
        let bad : IsFirstBadLine 1 left ((front ++ h.line) ∷ lines h.rest) = inl (refl, inl longer) in
        let cut = lines_cut (front ++ h.line) h.rest (All-append (λ x. (x == 10) ≡ false) front h.line clean h.clean) in
        subst (IsFirstBadLine 1 left) (sym (ap lines whole ∙ cut)) bad

-- of a text of at most so many bytes that goes on past its limit, the first bad line is that of the whole
abbrev BadBeyond : ℕ → List ℕ → Type 0
BadBeyond size tail = (left n : ℕ) (front : List ℕ) → length front ≤ size → left < length front → IsFirstBadLine n left (lines front) → IsFirstBadLine n left (lines (front ++ tail))

bad_beyond_more : (size : ℕ) (tail : List ℕ) → BadBeyond size tail → BadBeyond (suc size) tail
bad_beyond_more size tail shorter left n front small long bad = step (first_newline front)
  where
    in_line : (h : HasNewline front) → IsFirstBadLine n left (h.line ∷ lines h.rest) → IsFirstBadLine n left (h.line ∷ lines (h.rest ++ tail))
    in_line h (inl (e, inl over)) =
        inl (e, inl (omega (arith, over, size_of-lines h.line h.rest, size_of-lines h.line (h.rest ++ tail))))
    in_line h (inl (e, inr never)) = inl (e, inr never)
    in_line h (inr (later, said, e, fits, says, rest)) =
        let line = size_of-lines h.line h.rest in
        let sized : size_of h.line (lines (h.rest ++ tail)) ≡ size_of h.line (lines h.rest) = size_of-lines h.line (h.rest ++ tail) ∙ sym line in
        let count : length front ≡ length h.line + suc (length h.rest) = ap length h.is ∙ length-append h.line (10 ∷ h.rest) in
        let on = shorter (left - size_of h.line (lines h.rest)) later h.rest (omega (arith, count, small)) (omega (arith, count, long, fits, line)) rest in
        inr (later, said, e, subst (λ k. k ≤ left) (sym sized) fits, says, subst (λ k. IsFirstBadLine later (left - k) (lines (h.rest ++ tail))) (sym sized) on)

    in_one : IsFirstBadLine n left (front ∷ []) → n ≡ 1
    in_one (inl (e, bad)) = e
    in_one (inr (later, said, e, fits, says, rest)) = absurd (omega (arith, fits, long))

    step : IsOneLine front ⊎ HasNewline front → IsFirstBadLine n left (lines (front ++ tail))
    step (inl clean) =
        let first : n ≡ 1 = in_one (subst (IsFirstBadLine n left) (lines_one front clean) bad) in
        subst (λ k. IsFirstBadLine k left (lines (front ++ tail))) (sym first) (long_line left front tail clean long)
    step (inr h) =
        let cut : lines front ≡ h.line ∷ lines h.rest = ap lines h.is ∙ lines_cut h.line h.rest h.clean in
        let whole : front ++ tail ≡ h.line ++ 10 ∷ (h.rest ++ tail) = ap (λ l. l ++ tail) h.is ∙ append_assoc h.line (10 ∷ h.rest) tail in
        subst (IsFirstBadLine n left) (sym (ap lines whole ∙ lines_cut h.line (h.rest ++ tail) h.clean)) (in_line h (subst (IsFirstBadLine n left) cut bad))

bad_beyond : (size : ℕ) (tail : List ℕ) → BadBeyond size tail
bad_beyond zero tail = λ left n front small long bad. absurd (omega (arith, small, long))
bad_beyond (suc size) tail = bad_beyond_more size tail (bad_beyond size tail)

-- a text of at most so many bytes without a bad line has at most as many as are left
abbrev SpelledFits : ℕ → Type 0
SpelledFits size = (left : ℕ) (before after : List Rule) (text : List ℕ) → length text ≤ size → LeadsTo left before (lines text) after → length text ≤ left

spelled_fits_more : (size : ℕ) → SpelledFits size → SpelledFits (suc size)
spelled_fits_more size shorter left before after text small leads = step (first_newline text)
  where
    in_line : (h : HasNewline text) → LeadsTo left before (h.line ∷ lines h.rest) after → length text ≤ left
    in_line h (said, fits, says, on) =
        let count : length text ≡ length h.line + suc (length h.rest) = ap length h.is ∙ length-append h.line (10 ∷ h.rest) in
        let line = size_of-lines h.line h.rest in
        let rest : length h.rest ≤ left - size_of h.line (lines h.rest) = shorter (left - size_of h.line (lines h.rest)) (rules_after said before) after h.rest (omega (arith, small, count)) on in
        omega (arith, rest, fits, count, line)

    step : IsOneLine text ⊎ HasNewline text → length text ≤ left
    step (inl clean) = let one = subst (λ l. LeadsTo left before l after) (lines_one text clean) leads in one.1
    step (inr h) = in_line h (subst (λ l. LeadsTo left before l after) (ap lines h.is ∙ lines_cut h.line h.rest h.clean) leads)

spelled_fits : (size : ℕ) → SpelledFits size
spelled_fits zero = λ left before after text small leads. omega (arith, small)
spelled_fits (suc size) = spelled_fits_more size (spelled_fits size)

-- # Files

pub rules_in_file : (rules : List Rule) (digest text : List ℕ) (filters : Held) → BeginsWith text filters → SpellsRules rules text → AreOnlyRules rules text → digest ≡ md5 text → HasRules rules digest filters
rules_in_file rules digest text filters begins spelled only hashed = step begins.enough
  where
    step : (begins.rest ≡ []) ⊎ (most_bytes < length text) → HasRules rules digest filters
    step (inl none) =
        let whole : text ++ begins.rest ≡ text = ap (λ l. text ++ l) none ∙ append-nil text in
        record { text = text; there = begins.there ∙ ap Some whole; spelled = spelled; only = only; hashed = hashed }
    step (inr long) = let fits = spelled_fits (length text) most_bytes [] rules text (omega arith) spelled in absurd (omega (arith, long, fits))

pub bad_rule_in_file : (line : ℕ) (text : List ℕ) (filters : Held) → BeginsWith text filters → IsFaultOf (BadLine line) text → HasBadRule line filters
bad_rule_in_file line text filters begins bad = record { text = text ++ begins.rest; there = begins.there; bad = whole; only = only_fault (BadLine line) (text ++ begins.rest) whole }
  where
    step : (begins.rest ≡ []) ⊎ (most_bytes < length text) → IsFaultOf (BadLine line) (text ++ begins.rest)
    step (inl none) = subst (IsFaultOf (BadLine line)) (sym (ap (λ l. text ++ l) none ∙ append-nil text)) bad
    step (inr long) = bad_beyond (length text) begins.rest most_bytes line text (omega arith) long bad

    whole : IsFaultOf (BadLine line) (text ++ begins.rest)
    whole = step begins.enough
