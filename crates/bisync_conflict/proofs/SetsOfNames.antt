-- A set of texts that own their bytes, seen as the list of the texts.
use Rattle.std.proofs.Common.{◌≡◌, Bool, true, false, cond, ◌||◌, List, [], ◌∷◌, ◌++◌, map, refl, sym, ◌∙◌, ap, subst}
use Rattle.std.specs.Prelude.{bytes_eq}
use Rattle.std.specs.List.{list_any}
use Rattle.bisync_tree.specs.Rows.{PathBytes, is_among}
use Rattle.bisync_tree.proofs.PathOrder.{same_path}

pub held_in_set : {V : Type 0} (items : V → PathBytes) (keys : List V) (n : PathBytes) → list_any (λ k. bytes_eq n (items k)) keys ≡ is_among n (map items keys)
held_in_set items [] n = refl
held_in_set items (v ∷ vs) n = ap (λ b. bytes_eq n (items v) || b) (held_in_set items vs n)

or_assoc : (a b c : Bool) → (a || (b || c)) ≡ ((a || b) || c)
or_assoc true b c = refl
or_assoc false b c = refl

pub is_among-append : (n : PathBytes) (xs ys : List PathBytes) → is_among n (xs ++ ys) ≡ (is_among n xs || is_among n ys)
is_among-append n [] ys = refl
is_among-append n (x ∷ xs) ys = ap (λ b. bytes_eq n x || b) (is_among-append n xs ys) ∙ or_assoc (bytes_eq n x) (is_among n xs) (is_among n ys)

pub is_among-four : (n : PathBytes) (a b c d : List PathBytes)
    → is_among n ((a ++ b) ++ (c ++ d)) ≡ (is_among n a || (is_among n b || (is_among n c || is_among n d)))
is_among-four n a b c d =
    is_among-append n (a ++ b) (c ++ d)
    ∙ (λ i. is_among-append n a b i || is_among-append n c d i)
    ∙ sym (or_assoc (is_among n a) (is_among n b) (is_among n c || is_among n d))

-- what a test of the first list, and then of the second one, says of both
pub first_holds : (n : PathBytes) (xs ys : List PathBytes) → is_among n xs ≡ true → true ≡ is_among n (xs ++ ys)
first_holds n xs ys e = sym (is_among-append n xs ys ∙ ap (λ b. b || is_among n ys) e)

pub second_decides : (n : PathBytes) (xs ys : List PathBytes) (b : Bool) → is_among n xs ≡ false → b ≡ is_among n ys → b ≡ is_among n (xs ++ ys)
second_decides n xs ys b e f = f ∙ sym (is_among-append n xs ys ∙ ap (λ b. b || is_among n ys) e)

or_swap : (a b : Bool) → (a || (b || false)) ≡ (b || a)
or_swap true true = refl
or_swap true false = refl
or_swap false true = refl
or_swap false false = refl

-- what `insert` leaves, as the list of the texts
pub added_to_set : {V : Type 0} (items : V → PathBytes) (keys : List V) (v : V) (n : PathBytes)
    → is_among n (map items (cond (list_any (λ k. bytes_eq (items v) (items k)) keys) keys (keys ++ v ∷ []))) ≡ (bytes_eq n (items v) || is_among n (map items keys))
added_to_set items keys v n = go (list_any (λ k. bytes_eq (items v) (items k)) keys) refl
  where
    held : (b : Bool) → bytes_eq n (items v) ≡ b → is_among (items v) (map items keys) ≡ true → is_among n (map items keys) ≡ (b || is_among n (map items keys))
    held true e h = subst (λ m. is_among m (map items keys) ≡ true) (sym (same_path n (items v) e)) h
    held false e h = refl

    pushed : (ks : List _) → is_among n (map items (ks ++ v ∷ [])) ≡ (is_among n (map items ks) || (bytes_eq n (items v) || false))
    pushed [] = refl
    pushed (k ∷ ks) = ap (λ b. bytes_eq n (items k) || b) (pushed ks) ∙ or_assoc (bytes_eq n (items k)) (is_among n (map items ks)) (bytes_eq n (items v) || false)

    go : (b : Bool) → list_any (λ k. bytes_eq (items v) (items k)) keys ≡ b → is_among n (map items (cond b keys (keys ++ v ∷ []))) ≡ (bytes_eq n (items v) || is_among n (map items keys))
    go true e = held (bytes_eq n (items v)) refl (sym (held_in_set items keys (items v)) ∙ e)
    go false e = pushed keys ∙ or_swap (is_among n (map items keys)) (bytes_eq n (items v))

-- the same with further names behind those of the set
pub added_to_names : {V : Type 0} (items : V → PathBytes) (keys : List V) (v : V) (others : List PathBytes) (n : PathBytes)
    → is_among n (map items (cond (list_any (λ k. bytes_eq (items v) (items k)) keys) keys (keys ++ v ∷ [])) ++ others) ≡ (bytes_eq n (items v) || is_among n (map items keys ++ others))
added_to_names items keys v others n =
    is_among-append n (map items (cond (list_any (λ k. bytes_eq (items v) (items k)) keys) keys (keys ++ v ∷ []))) others
    ∙ ap (λ b. b || is_among n others) (added_to_set items keys v n)
    ∙ sym (or_assoc (bytes_eq n (items v)) (is_among n (map items keys)) (is_among n others))
    ∙ ap (λ b. bytes_eq n (items v) || b) (sym (is_among-append n (map items keys) others))
