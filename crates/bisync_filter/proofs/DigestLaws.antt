-- The text of a digest, and the text without its newline.
use Rattle.std.proofs.Common.{◌≡◌, ℕ, ◌==◌, ◌&&◌, ◌*◌, Bool, true, false, List, [], ◌∷◌, length, get_or, take, drop, refl, sym, ◌∙◌, ap, subst, inl, inr, arith, length-append, Result, Ok, Err, MatchResult, is_err}
use Rattle.std.proofs.Math.Seq.{drop-cons}
use Rattle.std.proofs.lemmas.List.{take-append-drop, get_or_at, take_at, drop_all}
use Rattle.std.proofs.lemmas.Bool.Decides.{nat_tests}
use Rattle.std.proofs.lemmas.Bool.{and_parts}
use Rattle.hex.specs.Hex.{encode_lower, lower_digits, decode_sized}
use Rattle.hex.specs.declared.error.FromHexError.{FromHexError}
use Rattle.hex.proofs.HexLemmas.{decode_sized-encode_lower, decode_sized-ok, decode_sized-twice, decode_of-ok, length-encode_with}
use Rattle.bisync_filter.specs.Digests.{IsDigest, SpellsDigest, digits_of}

pub digits_of-spelled : (digest text : List ℕ) → IsDigest digest → SpellsDigest digest text → digits_of text ≡ encode_lower digest
digits_of-spelled digest text d (inl e) =
    let count : length (encode_lower digest) ≡ 2 * length digest = length-encode_with lower_digits digest in
    let len : length text ≡ 32 = rw e (omega (arith, count, d.0)) in
    rw len e
digits_of-spelled digest text d (inr e) =
    let count : length (encode_lower digest) ≡ 2 * length digest = length-encode_with lower_digits digest in
    let short : length (encode_lower digest) ≡ 32 = omega (arith, count, d.0) in
    let len : length text ≡ 33 = rw e (length-append (encode_lower digest) (10 ∷ []) ∙ rw short refl) in
    let last : get_or text 32 0 ≡ 10 = rw e (get_or_at (encode_lower digest) 10 [] 0 32 short) in
    let front : take 32 text ≡ encode_lower digest = rw e (take_at (encode_lower digest) (10 ∷ []) 32 short) in
    rw (len, last) front

pub spelled-digits_of : (digest text : List ℕ) → digits_of text ≡ encode_lower digest → SpellsDigest digest text
spelled-digits_of digest text e = step (length text == 33 && get_or text 32 0 == 10) refl
  where
    step : (b : Bool) → (length text == 33 && get_or text 32 0 == 10) ≡ b → SpellsDigest digest text
    step false f = inl (let g : text ≡ encode_lower digest = rw f at e in g)
    step true f =
        let g : take 32 text ≡ encode_lower digest = rw f at e in
        let parts : ((length text == 33) ≡ true) × ((get_or text 32 0 == 10) ≡ true) = and_parts (length text == 33) (get_or text 32 0 == 10) f in
        let len : length text ≡ 33 = grind (arith, nat_tests, parts.0) in
        let last : get_or text 32 0 ≡ 10 = grind (arith, nat_tests, parts.1) in
        let rest : drop 33 text ≡ [] = drop_all 33 text (omega (arith, len)) in
        let back : drop 32 text ≡ 10 ∷ [] = drop-cons text 32 0 (omega (arith, len)) ∙ rw (last, rest) refl in
        inr (sym (take-append-drop 32 text) ∙ rw (g, back) refl)

pub decoded : (digits digest out : List ℕ) (result : Result (Unit {0}) FromHexError) → IsDigest digest → digits ≡ encode_lower digest → MatchResult (decode_sized digits 16) (λ bytes. (result ≡ Ok tt) × (out ≡ bytes)) (λ e. result ≡ Err e) → (result ≡ Ok tt) × (out ≡ digest)
decoded digits digest out result d e h =
    let same : decode_sized digits 16 ≡ Ok digest = ap (λ x. decode_sized x 16) e ∙ decode_sized-encode_lower digest 16 d.0 d.1 in
    rw same at h

pub decoded_digest : (digits out : List ℕ) (result : Result (Unit {0}) FromHexError) → is_err result ≡ false → MatchResult (decode_sized digits 16) (λ bytes. (result ≡ Ok tt) × (out ≡ bytes)) (λ e. result ≡ Err e) → IsDigest out
decoded_digest digits out result fine h = step (decode_sized digits 16) refl h
  where
    step : (x : Result (List ℕ) FromHexError) → decode_sized digits 16 ≡ x → MatchResult x (λ bytes. (result ≡ Ok tt) × (out ≡ bytes)) (λ e. result ≡ Err e) → IsDigest out
    step (Ok bytes) e (r, same) =
        let len : length digits ≡ 2 * 16 = decode_sized-ok digits 16 bytes e in
        let whole = decode_of-ok digits bytes (sym (decode_sized-twice digits 16 len) ∙ e) in
        subst IsDigest (sym same) (omega (arith, len, whole.2), whole.3)
    step (Err fault) e r = let never : true ≡ false = sym (ap is_err r) ∙ fine in absurd (cc)
