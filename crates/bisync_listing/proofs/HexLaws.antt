-- Digits two by two.
use Rattle.std.proofs.Common.{◌≡◌, ℕ, zero, suc, ◌+◌, ◌*◌, ◌/◌, ◌%◌, ◌<◌, List, [], ◌∷◌, length, get_or, refl, sym, ap, ◌∙◌, arith}
use Rattle.std.specs.List.{AllByRecursion}
use Rattle.bisync_text.specs.Quote.{hex_digit}
use Rattle.bisync_listing.specs.Spelling.{hex_digits}

-- the digits at place k are those of that byte
abbrev pub ShowsByte : List ℕ → List ℕ → ℕ → Type 0
ShowsByte text bytes k = (get_or bytes k 0 < 256) × (get_or text (2 * k) 0 ≡ hex_digit (get_or bytes k 0 / 16)) × (get_or text (2 * k + 1) 0 ≡ hex_digit (get_or bytes k 0 % 16))

twice : (a b : ℕ) (xs : List ℕ) (k j : ℕ) → j ≡ suc (suc k) → get_or (a ∷ (b ∷ xs)) j 0 ≡ get_or xs k 0
twice a b xs k j e = ap (λ (n : ℕ). get_or (a ∷ (b ∷ xs)) n 0) e

pub shows-hex : (bytes : List ℕ) (k : ℕ) → AllByRecursion (λ b. b < 256) bytes → k < length bytes → ShowsByte (hex_digits bytes) bytes k
shows-hex [] k all h = absurd (omega arith)
shows-hex (b ∷ bytes) zero all h = (all.0, refl, refl)
shows-hex (b ∷ bytes) (suc k) all h =
    let rest = shows-hex bytes k all.1 (omega arith) in
    (rest.0, twice _ _ (hex_digits bytes) (2 * k) (2 * suc k) (omega arith) ∙ rest.1, twice _ _ (hex_digits bytes) (2 * k + 1) (2 * suc k + 1) (omega arith) ∙ rest.2)

pub length-hex : (bytes : List ℕ) → length (hex_digits bytes) ≡ 2 * length bytes
length-hex [] = refl
length-hex (b ∷ bytes) = omega (arith, length-hex bytes)

pub hex_from_shows : (text bytes : List ℕ) → length text ≡ 2 * length bytes → ((k : ℕ) → k < length bytes → ShowsByte text bytes k) → text ≡ hex_digits bytes
hex_from_shows [] [] len shows = refl
hex_from_shows (t ∷ text) [] len shows = absurd (omega arith)
hex_from_shows [] (b ∷ bytes) len shows = absurd (omega arith)
hex_from_shows (t ∷ []) (b ∷ bytes) len shows = absurd (omega arith)
hex_from_shows (t ∷ (u ∷ text)) (b ∷ bytes) len shows =
    let first = shows 0 (omega arith) in
    let rest = hex_from_shows text bytes (omega arith) (λ k h. (let s = shows (suc k) (omega arith) in
    (s.0, sym (twice t u text (2 * k) (2 * suc k) (omega arith)) ∙ s.1, sym (twice t u text (2 * k + 1) (2 * suc k + 1) (omega arith)) ∙ s.2))) in
    λ i. first.1 i ∷ (first.2 i ∷ rest i)

pub each_byte : (bytes : List ℕ) → ((k : ℕ) → k < length bytes → get_or bytes k 0 < 256) → AllByRecursion (λ b. b < 256) bytes
each_byte [] h = tt
each_byte (b ∷ bytes) h = (h 0 (omega arith), each_byte bytes (λ k lt. h (suc k) (omega arith)))
