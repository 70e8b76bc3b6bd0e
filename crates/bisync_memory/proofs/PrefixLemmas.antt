-- The part of a path before a slash is the name of a folder.
use Rattle.std.proofs.Common.{◌≡◌, ℕ, ◌+◌, ◌<◌, ◌≤◌, ◌==◌, inl, inr, Bool, true, false, ◌&&◌, List, [], ◌∷◌, ◌++◌, length, take, drop, get_or, refl, ap, ◌∙◌, subst, cond, arith}
use Rattle.std.specs.Str.{bytes_eq}
use Rattle.std.specs.List.{onto_first, list_all}
use Rattle.std.proofs.lemmas.Grind.{common_steps}
use Rattle.std.proofs.lemmas.List.Splits.{length-slice_split}
use Rattle.std.proofs.lemmas.Slice.Eq.{bytes_eq-Decides}
use Rattle.std.proofs.lemmas.Str.{IsUtf8-take, IsCharBoundary-before_ascii}
use Rattle.bisync_text.specs.Path.{IsPath, is_name, names, partial_name}
use Rattle.bisync_memory.specs.FolderName.{IsFolderName}

onto_seam : (x : ℕ) (a b : List (List ℕ)) → 0 < length a → onto_first x (a ++ b) ≡ onto_first x a ++ b
onto_seam x [] b h = absurd (omega arith)
onto_seam x (part ∷ parts) b h = refl

split_some : (xs : List ℕ) → 0 < length (names xs)
split_some xs = omega (arith, length-slice_split (λ b. b == 47) xs)

seam : (s : Bool) (x : ℕ) (a b c : List (List ℕ)) → 0 < length a → c ≡ a ++ b → cond s ([] ∷ c) (onto_first x c) ≡ cond s ([] ∷ a) (onto_first x a) ++ b
seam true x a b c h e = ap (λ l. [] ∷ l) e
seam false x a b c h e = ap (onto_first x) e ∙ onto_seam x a b h

names_seam : (xs ys : List ℕ) → names (xs ++ 47 ∷ ys) ≡ names xs ++ names ys
names_seam [] ys = refl
names_seam (x ∷ xs) ys = seam (x == 47) x (names xs) (names ys) (names (xs ++ 47 ∷ ys)) (split_some xs) (names_seam xs ys)

left : (a b : Bool) → (a && b) ≡ true → a ≡ true
left true b h = refl
left false b h = h

right : (a b : Bool) → (a && b) ≡ true → b ≡ true
right true b h = h
right false b h = cc

and_both : (a b : Bool) → a ≡ true → b ≡ true → (a && b) ≡ true
and_both true b h k = k
and_both false b h k = h

front_all : (f : List ℕ → Bool) (a b : List (List ℕ)) → list_all f (a ++ b) ≡ true → list_all f a ≡ true
front_all f [] b h = refl
front_all f (x ∷ a) b h = and_both _ _ (left (f x) _ h) (front_all f a b (right (f x) _ h))

cut : (text : List ℕ) (i : ℕ) → i < length text → get_or text i 0 ≡ 47 → text ≡ take i text ++ 47 ∷ drop (i + 1) text
cut text i lt is = grind (arith, common_steps)

names_front : (text : List ℕ) (i : ℕ) → i < length text → get_or text i 0 ≡ 47 → list_all is_name (names text) ≡ true → list_all is_name (names (take i text)) ≡ true
names_front text i lt is h =
    front_all is_name (names (take i text)) (names (drop (i + 1) text))
    (subst (λ l. list_all is_name l ≡ true) (ap names (cut text i lt is) ∙ names_seam (take i text) (drop (i + 1) text)) h)

pub front_is_name : (text : List ℕ) (i : ℕ) → i < length text → get_or text i 0 ≡ 47 → IsPath text → IsFolderName (take i text)
front_is_name text i lt is path = by (bytes_eq (take i text) partial_name) refl
  where
    by : (b : Bool) → bytes_eq (take i text) partial_name ≡ b → IsFolderName (take i text)
    by true e = inr ((bytes_eq-Decides (take i text) partial_name).0 e)
    by false e = inl (record {
      names = names_front text i lt is path.names;
      utf8 = IsUtf8-take text i path.utf8 (IsCharBoundary-before_ascii text i lt (omega arith));
      short = (let h : length text ≤ 4096 = path.short in grind (arith, common_steps));
      not_partial = λ same. (let yes : bytes_eq (take i text) partial_name ≡ true = (bytes_eq-Decides (take i text) partial_name).1 same in cc);
    })
