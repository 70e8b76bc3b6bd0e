-- The text of a lock, as it is read.
use Rattle.std.proofs.Common.{◌≡◌, ℕ, ◌-◌, ◌+◌, true, List, [], ◌∷◌, ◌++◌, length, take, drop, sym, ◌∙◌, ap, nat_eq, take-append-drop, Option, Some, None}
use Rattle.std.specs.Cmp.Lexicographic.{pointwise, same_text}
use Rattle.std.specs.Prelude.{false, IfSome, MatchOption}
use Rattle.std.specs.Borrow.{Bor}
use Rattle.bisync_work.specs.LockTexts.{lock_front, lock_with}

whole : (n : ℕ) (text front rest : List ℕ) → pointwise nat_eq (take n text) front ≡ true → rest ≡ drop n text → text ≡ front ++ rest
whole n text front rest same is =
    sym (take-append-drop n text) ∙ ap (λ (l : List ℕ). l ++ drop n text) (same_text (take n text) front (sym same)) ∙ ap (λ (l : List ℕ). front ++ l) (sym is)

whole_end : (n : ℕ) (text word end : List ℕ) → pointwise nat_eq (drop n text) end ≡ true → word ≡ take n text → text ≡ word ++ end
whole_end n text word end same is =
    sym (take-append-drop n text) ∙ ap (λ (l : List ℕ). take n text ++ l) (same_text (drop n text) end (sym same)) ∙ ap (λ (l : List ℕ). l ++ end) (sym is)

pub word_found : (text rest word : List ℕ) → pointwise nat_eq (take 23 text) lock_front ≡ true → rest ≡ drop 23 text → pointwise nat_eq (drop (length rest - 1) rest) (10 ∷ []) ≡ true → word ≡ take (length rest - 1) rest → text ≡ lock_with word
word_found text rest word front is_rest end is_word =
    whole 23 text lock_front rest front is_rest ∙ ap (λ (l : List ℕ). lock_front ++ l) (whole_end (length rest - 1) rest word (10 ∷ []) end is_word)

pub word_in_text : (text rest : List ℕ) (found : Option (Bor (List ℕ))) → pointwise nat_eq (take 23 text) lock_front ≡ true → rest ≡ drop 23 text → MatchOption found (pointwise nat_eq (drop (length rest - 1) rest) (10 ∷ []) ≡ false) (λ x. (pointwise nat_eq (drop (length rest - 1) rest) (10 ∷ []) ≡ true) × (x.now ≡ take (length rest - 1) rest) × (length x.now + 1 ≡ length rest)) → IfSome found (λ word. text ≡ lock_with word.now)
word_in_text text rest None front is cases = tt
word_in_text text rest (Some word) front is cases = word_found text rest word.now front is cases.0 cases.1
