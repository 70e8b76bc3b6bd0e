-- A buffer that is filled from its front.
use Rattle.std.proofs.Common.{◌≡◌, ◌++◌, ◌+◌, ◌≤◌, ℕ, List, [], length, take, sym, ◌∙◌, ap, arith, append_assoc, length-append, length-take}
use Rattle.std.proofs.lemmas.List.{take-append-le, take_all, append-nil}
use Rattle.std.proofs.lemmas.Slice.{take-put_mid_below}
use Rattle.std.proofs.Math.Seq.{take-append-add}
use borrow.Rule.Slice.PartMut.{put_mid, post_of}

module _ (a m k : ℕ) (xs ys : List ℕ) (in_xs : a ≤ length xs) where
  pub length_mid : a + length ys ≤ length (put_mid a k xs ys)
  length_mid = omega (arith, length-append (take a xs) (ys ++ post_of a k xs), length-append ys (post_of a k xs), length-take a xs)

  -- the bytes that were read stand behind those before
  pub front_more : (u : List ℕ) → m ≤ length ys → take (a + m) (put_mid a k xs ys) ++ u ≡ take a xs ++ (take m ys ++ u)
  front_more u in_ys =
      let whole : length (take a xs) ≡ a = omega (arith, length-take a xs) in
      let cut : take (a + m) (put_mid a k xs ys) ≡ take a xs ++ take m (ys ++ post_of a k xs) =
      ap (λ (n : ℕ). take (n + m) (put_mid a k xs ys)) (sym whole) ∙ take-append-add (take a xs) (ys ++ post_of a k xs) m in
      let part : take m (ys ++ post_of a k xs) ≡ take m ys = take-append-le m ys (post_of a k xs) in_ys in
      ap (λ (l : List ℕ). l ++ u) (cut ∙ ap (λ (l : List ℕ). take a xs ++ l) part)
      ∙ append_assoc (take a xs) (take m ys) u

  -- at the end the buffer has all
  pub front_all : (u : List ℕ) → u ≡ [] → take a (put_mid a k xs ys) ≡ take (length (put_mid a k xs ys)) (take a xs ++ u)
  front_all u none =
      let whole : length (take a xs) ≡ a = omega (arith, length-take a xs) in
      let text : take a xs ++ u ≡ take a xs = ap (λ (l : List ℕ). take a xs ++ l) none ∙ append-nil (take a xs) in
      take-put_mid_below a k xs ys a (omega arith) in_xs
      ∙ sym (take_all (length (put_mid a k xs ys)) (take a xs) (omega (arith, whole, length_mid)))
      ∙ ap (take (length (put_mid a k xs ys))) (sym text)
