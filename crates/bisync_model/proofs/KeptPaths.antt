-- What is made of rising lists path by path: only the paths that count in a test show.
use Rattle.std.proofs.Common.{◌≡◌, ℕ, Bool, true, false, cond, ◌&&◌, ◌||◌, List, [], ◌∷◌, ◌++◌, refl, sym, ◌∙◌, ap, arith}
use Rattle.std.specs.Prelude.{bytes_eq, flat_map, sum_by}
use Rattle.std.proofs.lemmas.List.Sums.{sum_by-cons}
use Rattle.bisync_tree.specs.Rows.{PathBytes, is_among, AreAbove, AreRising}
use Rattle.bisync_tree.proofs.PathOrder.{same_path}
use Rattle.bisync_tree.proofs.RisingLemmas.{rising_same}

-- in byte order, with each path that counts
pub record HasCounted (test : PathBytes → Bool) (paths : List PathBytes) : Type 0 where
  pub rising : AreRising paths
  pub all : (p : PathBytes) → test p ≡ true → is_among p paths ≡ true

-- the paths that count
abbrev kept : (PathBytes → Bool) → List PathBytes → List PathBytes
kept test [] = []
kept test (p ∷ ps) = cond (test p) (p ∷ kept test ps) (kept test ps)

above_kept : (test : PathBytes → Bool) (q : PathBytes) (ps : List PathBytes) → AreAbove q ps → AreAbove q (kept test ps)
above_kept test q [] h = tt
above_kept test q (p ∷ ps) h = go (test p) (above_kept test q ps h.1)
  where
    go : (b : Bool) → AreAbove q (kept test ps) → AreAbove q (cond b (p ∷ kept test ps) (kept test ps))
    go true rest = (h.0, rest)
    go false rest = rest

rising_kept : (test : PathBytes → Bool) (ps : List PathBytes) → AreRising ps → AreRising (kept test ps)
rising_kept test [] h = tt
rising_kept test (p ∷ ps) h = go (test p) (rising_kept test ps h.1)
  where
    go : (b : Bool) → AreRising (kept test ps) → AreRising (cond b (p ∷ kept test ps) (kept test ps))
    go true rest = (above_kept test p ps h.0, rest)
    go false rest = rest

among_kept : (test : PathBytes → Bool) (n : PathBytes) (ps : List PathBytes) → (is_among n (kept test ps)) ≡ (test n && is_among n ps)
among_kept test n [] = go (test n)
  where
    go : (b : Bool) → false ≡ (b && false)
    go true = refl
    go false = refl
among_kept test n (p ∷ ps) = go (bytes_eq n p) refl (test p) refl (among_kept test n ps)
  where
    go : (b : Bool) → bytes_eq n p ≡ b → (t : Bool) → test p ≡ t → is_among n (kept test ps) ≡ (test n && is_among n ps)
        → is_among n (cond t (p ∷ kept test ps) (kept test ps)) ≡ (test n && (b || is_among n ps))
    go true e true passes rest =
        let is : test n ≡ true = ap test (same_path n p e) ∙ passes in
        ap (λ b. b || is_among n (kept test ps)) e ∙ sym (ap (λ t. t && true) is)
    go true e false passes rest =
        let is : test n ≡ false = ap test (same_path n p e) ∙ passes in
        rest ∙ ap (λ t. t && is_among n ps) is ∙ sym (ap (λ t. t && true) is)
    go false e true passes rest = ap (λ b. b || is_among n (kept test ps)) e ∙ rest
    go false e false passes rest = rest

flat_kept : {A : Type 0} (test : PathBytes → Bool) (f : PathBytes → List A) → ((p : PathBytes) → test p ≡ false → f p ≡ []) → (ps : List PathBytes)
    → flat_map f ps ≡ flat_map f (kept test ps)
flat_kept test f nothing [] = refl
flat_kept test f nothing (p ∷ ps) = go (test p) refl (flat_kept test f nothing ps)
  where
    go : (b : Bool) → test p ≡ b → flat_map f ps ≡ flat_map f (kept test ps) → f p ++ flat_map f ps ≡ flat_map f (cond b (p ∷ kept test ps) (kept test ps))
    go true e rest = ap (λ xs. f p ++ xs) rest
    go false e rest = ap (λ xs. xs ++ flat_map f ps) (nothing p e) ∙ rest

sum_kept : (test : PathBytes → Bool) (f : PathBytes → ℕ) → ((p : PathBytes) → test p ≡ false → f p ≡ 0) → (ps : List PathBytes)
    → sum_by f ps ≡ sum_by f (kept test ps)
sum_kept test f nothing [] = refl
sum_kept test f nothing (p ∷ ps) = go (test p) refl (sum_kept test f nothing ps)
  where
    go : (b : Bool) → test p ≡ b → sum_by f ps ≡ sum_by f (kept test ps) → sum_by f (p ∷ ps) ≡ sum_by f (cond b (p ∷ kept test ps) (kept test ps))
    go true e rest = omega (arith, rest, sum_by-cons f p ps, sum_by-cons f p (kept test ps))
    go false e rest = omega (arith, rest, nothing p e, sum_by-cons f p ps)

module _ (test : PathBytes → Bool) (paths others : List PathBytes) (are : HasCounted test paths) (also : HasCounted test others) where
  kept_among : (ps : List PathBytes) → HasCounted test ps → (n : PathBytes) → is_among n (kept test ps) ≡ test n
  kept_among ps has n = among_kept test n ps ∙ go (test n) (has.all n)
    where
      go : (b : Bool) → (b ≡ true → is_among n ps ≡ true) → (b && is_among n ps) ≡ b
      go true inside = inside refl
      go false inside = refl

  kept_same : kept test paths ≡ kept test others
  kept_same = rising_same (kept test paths) (kept test others) (rising_kept test paths are.rising) (rising_kept test others also.rising)
      (λ n. kept_among paths are n ∙ sym (kept_among others also n))

  pub flat_same : {A : Type 0} (f : PathBytes → List A) → ((p : PathBytes) → test p ≡ false → f p ≡ []) → flat_map f paths ≡ flat_map f others
  flat_same f nothing = flat_kept test f nothing paths ∙ ap (λ ps. flat_map f ps) kept_same ∙ sym (flat_kept test f nothing others)

  pub sum_same : (f : PathBytes → ℕ) → ((p : PathBytes) → test p ≡ false → f p ≡ 0) → sum_by f paths ≡ sum_by f others
  sum_same f nothing = sum_kept test f nothing paths ∙ ap (λ ps. sum_by f ps) kept_same ∙ sym (sum_kept test f nothing others)
