use Rattle.std.proofs.Common.{◌≡◌, ◌<◌, length, take, ℕ, ◌+◌, List, [], ◌∷◌, ◌++◌, arith, set, sym, ◌∙◌, append_assoc}
use Rattle.std.specs.Str.{chars, IsUtf8}
use Rattle.std.proofs.Math.Utf8.{encode}
use Rattle.std.proofs.lemmas.List.{take_more_set, append-nil}
use Rattle.std.proofs.lemmas.Str.{chars_past_char, chars-nil}

pub decode_step : (text rest after room : List ℕ) (len c : ℕ) → chars text ≡ take len room ++ chars rest → len < length room → IsUtf8 rest → rest ≡ encode c ++ after → chars text ≡ take (len + 1) (set room len c) ++ chars after
decode_step text rest after room len c is below utf8 begins =
    is ∙ rw (chars_past_char rest after c utf8 begins) (rw (take_more_set room len c below) (sym (append_assoc (take len room) (c ∷ []) (chars after))))

pub decode_end : (text rest room : List ℕ) (len : ℕ) → chars text ≡ take len room ++ chars rest → length rest ≡ 0 → take len room ≡ chars text
decode_end text [] room len is none = sym (is ∙ rw chars-nil (append-nil (take len room)))
decode_end text (b ∷ rest) room len is none = absurd (omega arith)
