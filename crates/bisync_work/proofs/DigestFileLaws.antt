-- A digest that is read from the front of a text.
use Rattle.std.proofs.Common.{◌≡◌, ℕ, ◌<◌, ◌≤◌, List, [], ◌∷◌, length, take, refl, sym, ◌∙◌, ap, subst, inl, inr, arith, length-append, length-take, Option, Some, None, IfSome, IsSome}
use Rattle.std.proofs.lemmas.List.{take_all}
use Rattle.hex.specs.Hex.{encode_lower, lower_digits}
use Rattle.hex.proofs.HexLemmas.{length-encode_with}
use Rattle.bisync_device.specs.WorkFolder.{Held, bytes_of}
use Rattle.bisync_filter.specs.Digests.{IsDigest, IsDigestForm, SpellsDigest}
use Rattle.bisync_work.specs.DigestFiles.{HoldsDigest}

-- a front that doesn't reach its end is the whole
pub front_whole : (n : ℕ) (front text : List ℕ) → front ≡ take n text → length front < n → front ≡ text
front_whole n front text e short =
    let size : length front ≡ length (take n text) = ap length e in
    let fits : length text ≤ n = omega (arith, size, length-take n text, short) in
    e ∙ take_all n text fits

form_short : (text : List ℕ) → IsDigestForm text → length text ≤ 33
form_short text (inl (long, digits)) = omega (arith, long)
form_short text (inr (digits, is, form)) = rw is (omega (arith, length-append digits (10 ∷ []), form.0))

spelled_short : (digest text : List ℕ) → IsDigest digest → SpellsDigest digest text → length text ≤ 33
spelled_short digest text d (inl is) = rw is (omega (arith, length-encode_with lower_digits digest, d.0))
spelled_short digest text d (inr is) = rw is (omega (arith, length-append (encode_lower digest) (10 ∷ []), length-encode_with lower_digits digest, d.0))

-- the buffer has room for one byte more than a digest's text may have
module _ (n : ℕ) (front text : List ℕ) (held : Held) (room : n ≡ 34) (bytes : bytes_of held ≡ Some text) (is : front ≡ take n text) where
  pub digest_in_front : (read : Option (List ℕ)) → IfSome read (λ digest. SpellsDigest digest front) → (IsSome read → IsDigestForm front) → IfSome read (λ digest. HoldsDigest digest held)
  digest_in_front None spells form = tt
  digest_in_front (Some digest) spells form =
      let short : length front ≤ 33 = form_short front (form refl) in
      let whole : front ≡ text = front_whole n front text is (omega (arith, short, room)) in
      (text, bytes, subst (SpellsDigest digest) whole spells)

  pub digest_in_file : (digest : List ℕ) → IsDigest digest → HoldsDigest digest held → SpellsDigest digest front
  digest_in_file digest d (other, there, spells) =
      let same : other ≡ text = cc in
      let fits : length other ≤ n = omega (arith, spelled_short digest other d spells, room) in
      let front_is : front ≡ other = is ∙ ap (take n) (sym same) ∙ take_all n other fits in
      subst (SpellsDigest digest) (sym front_is) spells
