-- From what is left of a text to the whole text.
use Rattle.std.proofs.Common.{◌≡◌, ℕ, zero, suc, ◌+◌, ◌-◌, ◌<◌, List, [], ◌∷◌, ◌++◌, length, get_or, take, refl, sym, ap, ◌∙◌, append_assoc, arith, length-append}
use Rattle.std.proofs.Math.Seq.{take-append-add}
use Rattle.std.proofs.lemmas.List.Concat.{flat_map-append}
use Rattle.std.specs.List.{flat_map}
use Rattle.bisync_text.specs.Quote.{quoted_byte, quoted, BeginsQuoted, IsBadQuote}
use Rattle.bisync_text.specs.Unquote.{quoted_rest, BeginsRest, IsBadRest}
use Rattle.bisync_text.proofs.Quoting.{quoted_byte-cancel, quoted_byte-no_quote, quoted_rest-cons, quoted_is}

tail_same : (a b : ℕ) (x y : List ℕ) → a ∷ x ≡ b ∷ y → x ≡ y
tail_same a b x y e = cc

head_same : (a b : ℕ) (x y : List ℕ) → a ∷ x ≡ b ∷ y → a ≡ b
head_same a b x y e = cc

-- what follows some bytes in the rest of a quoted text is the rest of another
rest_after : (out rest bytes : List ℕ) → flat_map quoted_byte out ++ rest ≡ quoted_rest bytes → (more : List ℕ) × (rest ≡ quoted_rest more)
rest_after [] rest bytes e = (bytes, e)
rest_after (a ∷ out) rest [] e =
    absurd (quoted_byte-no_quote a (flat_map quoted_byte out ++ rest) [] (sym (append_assoc (quoted_byte a) (flat_map quoted_byte out) rest) ∙ e))
rest_after (a ∷ out) rest (b ∷ bytes) e =
    let h : quoted_byte a ++ (flat_map quoted_byte out ++ rest) ≡ quoted_byte b ++ quoted_rest bytes = sym (append_assoc (quoted_byte a) (flat_map quoted_byte out) rest) ∙ e ∙ quoted_rest-cons b bytes in
    rest_after out rest bytes (quoted_byte-cancel a b _ _ h).1

quoted-append : (out bytes : List ℕ) → quoted (out ++ bytes) ≡ 34 ∷ (flat_map quoted_byte out ++ quoted_rest bytes)
quoted-append out bytes =
    quoted_is (out ++ bytes) ∙ ap (λ (l : List ℕ). 34 ∷ (l ++ 34 ∷ [])) (flat_map-append quoted_byte out bytes)
    ∙ ap (λ (l : List ℕ). 34 ∷ l) (append_assoc (flat_map quoted_byte out) (flat_map quoted_byte bytes) (34 ∷ []))

-- what the text begins with
front : (out rest text : List ℕ) (n m : ℕ) → text ≡ 34 ∷ (flat_map quoted_byte out ++ rest) → m ≡ length (34 ∷ flat_map quoted_byte out) + n
    → take m text ≡ 34 ∷ (flat_map quoted_byte out ++ take n rest)
front out rest text n m e size =
    rw (e, size) (take-append-add (34 ∷ flat_map quoted_byte out) rest n)

begins_quoted : (out front more bytes : List ℕ) → quoted_rest bytes ≡ front ++ more → BeginsQuoted (34 ∷ (flat_map quoted_byte out ++ front))
begins_quoted out front more bytes e = record {
  bytes = out ++ bytes;
  rest = more;
  joined = quoted-append out bytes ∙ ap (λ (l : List ℕ). 34 ∷ (flat_map quoted_byte out ++ l)) e
      ∙ ap (λ (l : List ℕ). 34 ∷ l) (sym (append_assoc (flat_map quoted_byte out) front more));
}

begins_rest : (out front : List ℕ) → BeginsQuoted (34 ∷ (flat_map quoted_byte out ++ front)) → BeginsRest front
begins_rest out front h =
    let e : 34 ∷ quoted_rest h.bytes ≡ 34 ∷ ((flat_map quoted_byte out ++ front) ++ h.rest) = sym (quoted_is h.bytes) ∙ h.joined in
    let after = rest_after out (front ++ h.rest) h.bytes (sym (append_assoc (flat_map quoted_byte out) front h.rest) ∙ sym (tail_same _ _ _ _ e)) in
    record { bytes = after.0; more = h.rest; joined = sym after.1 }

pub bad_quote : (out rest text : List ℕ) (n : ℕ) → text ≡ 34 ∷ (flat_map quoted_byte out ++ rest) → IsBadRest rest n → IsBadQuote text (length text - length rest + n)
bad_quote out rest text n e bad =
    let size : length text ≡ length (34 ∷ flat_map quoted_byte out) + length rest = ap length e ∙ length-append (34 ∷ flat_map quoted_byte out) rest in
    record {
      not_quoted = λ bytes same.
          let after = rest_after out rest bytes (tail_same _ _ _ _ (sym e ∙ same ∙ quoted_is bytes)) in
          bad.not_whole after.0 after.1;
      right = record {
        within = let le = bad.within in omega arith;
        begins = rw (front out rest text n (length text - length rest + n) e (omega arith)) (begins_quoted out (take n rest) bad.begins.more bad.begins.bytes bad.begins.joined);
        longest = λ m below inside h.
            let j = m - length (34 ∷ flat_map quoted_byte out) in
            let cut = front out rest text j m e (omega arith) in
            bad.longest j (omega arith) (omega arith) (begins_rest out (take j rest) (rw cut at h));
      };
    }

no_text : (bytes more : List ℕ) → quoted bytes ≡ [] ++ more → BeginsQuoted []
no_text bytes more e = record { bytes = bytes; rest = more; joined = e }

-- the text does not begin with a `"`
pub bad_opening : (text : List ℕ) → (0 < length text → get_or text 0 0 ≡ 34 → ⊥) → IsBadQuote text 0
bad_opening [] no_quote = record {
  not_quoted = λ bytes e. empty_apart (quoted_rest bytes) (e ∙ quoted_is bytes);
  right = record { within = omega arith; begins = no_text [] (quoted []) refl; longest = λ m below inside h. absurd (omega arith) };
}
  where
    empty_apart : (xs : List ℕ) → [] ≡ 34 ∷ xs → ⊥
    empty_apart xs e = cc
bad_opening (x ∷ text) no_quote = record {
  not_quoted = λ bytes e. no_quote (omega arith) (head_same _ _ _ _ (e ∙ quoted_is bytes));
  right = record { within = omega arith; begins = no_text [] (quoted []) refl; longest = λ m below inside h. not_longer m below h };
}
  where
    not_longer : (m : ℕ) → 0 < m → BeginsQuoted (take m (x ∷ text)) → ⊥
    not_longer zero some h = absurd (omega arith)
    not_longer (suc m) some h = no_quote (omega arith) (head_same _ _ _ _ (sym h.joined ∙ quoted_is h.bytes))

pub all_read : (out rest text : List ℕ) → text ≡ 34 ∷ (flat_map quoted_byte out ++ rest) → rest ≡ 34 ∷ [] → text ≡ quoted out
all_read out rest text e end = e ∙ rw end (sym (quoted_is out))
