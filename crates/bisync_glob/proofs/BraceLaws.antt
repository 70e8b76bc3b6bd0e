-- How the state inside or outside braces goes on over a token.
use Rattle.std.proofs.Common.{◌≡◌, ◌≢◌, ◌⊎◌, ◌↔◌, ℕ, ◌+◌, ◌<◌, Bool, true, false, IsTrue, List, length, get_or, refl, sym, ◌∙◌, ap, subst, arith, inl, inr}
use Rattle.std.proofs.lemmas.List.{get_or-map}
use Rattle.bisync_glob.specs.Building.{inside_after, Fits}
use Rattle.bisync_glob.specs.declared.faults.FaultKind.TheVariants.{Brace}
use Rattle.bisync_glob.specs.declared.tokens.Piece.{Piece}
use Rattle.bisync_glob.specs.declared.tokens.Piece.TheVariants.{Single, Escaped, Open, Comma, Close, Bad}
use Rattle.bisync_glob.specs.declared.tokens.Token.{Token}
use Rattle.bisync_glob.specs.declared.faults.FaultKind.{FaultKind}
use Rattle.bisync_glob.specs.Faults.{piece_at, IsInside, IsUnclosed, IsFault, NoFaultBelow}

pub below_next : (i k : ℕ) → i < k + 1 → (i < k) ⊎ (i ≡ k)
below_next i k h = grind arith

pub none_more : (tokens : List Token) (k : ℕ) → NoFaultBelow tokens k → ((kind : FaultKind) → IsFault tokens k kind → ⊥) → NoFaultBelow tokens (k + 1)
none_more tokens k before here i kind h fault = elim (below_next i k h) [
  | inl below ↦ before i kind below fault
  | inr same ↦ (let P : ℕ → Type 0 = λ n. IsFault tokens n kind in here kind (subst P same fault))
]

pub inside_stays : (tokens : List Token) (k : ℕ) → IsInside tokens k → piece_at tokens k ≢ Close → IsInside tokens (k + 1)
inside_stays tokens k (j, low, opened, none) other = (
  j,
  omega arith,
  opened,
  λ i above below close. elim (below_next i k below) [
    | inl lower ↦ none i above lower close
    | inr same ↦ other (ap (λ n. piece_at tokens n) (sym same) ∙ close)
  ],
)

pub inside_opens : (tokens : List Token) (k : ℕ) → piece_at tokens k ≡ Open → IsInside tokens (k + 1)
inside_opens tokens k opened = (k, omega arith, opened, λ i above below close. absurd (omega arith))

pub inside_back : (tokens : List Token) (k : ℕ) → piece_at tokens k ≢ Open → IsInside tokens (k + 1) → IsInside tokens k
inside_back tokens k other (j, low, opened, none) = elim (below_next j k low) [
  | inl lower ↦ (j, lower, opened, λ i above below close. none i above (omega arith) close)
  | inr same ↦ absurd (other (ap (λ n. piece_at tokens n) (sym same) ∙ opened))
]

pub outside_closes : (tokens : List Token) (k : ℕ) → piece_at tokens k ≡ Close → IsInside tokens (k + 1) → ⊥
outside_closes tokens k close (j, low, opened, none) = elim (below_next j k low) [
  | inl lower ↦ none k lower (omega arith) close
  | inr same ↦ (let e : Open ≡ Close = sym opened ∙ ap (λ n. piece_at tokens n) same ∙ close in cc)
]

-- a token that is no brace and not bad is no fault
pub no_fault_plain : (tokens : List Token) (k : ℕ) → piece_at tokens k ≢ Open → piece_at tokens k ≢ Close → ((kind : FaultKind) → piece_at tokens k ≢ Bad kind) → (kind : FaultKind) → IsFault tokens k kind → ⊥
no_fault_plain tokens k open' close' bad kind (inl h) = bad kind h
no_fault_plain tokens k open' close' bad kind (inr (b, inl (h, w))) = open' h
no_fault_plain tokens k open' close' bad kind (inr (b, inr (h, w))) = close' h

pub no_fault_open : (tokens : List Token) (k : ℕ) → piece_at tokens k ≡ Open → (IsInside tokens k → ⊥) → (IsUnclosed tokens k → ⊥) → (kind : FaultKind) → IsFault tokens k kind → ⊥
no_fault_open tokens k is outside closed kind (inl h) = (let e : Open ≡ Bad kind = sym is ∙ h in cc)
no_fault_open tokens k is outside closed kind (inr (b, inl (h, inl w))) = outside w
no_fault_open tokens k is outside closed kind (inr (b, inl (h, inr w))) = closed w
no_fault_open tokens k is outside closed kind (inr (b, inr (h, w))) = (let e : Open ≡ Close = sym is ∙ h in cc)

pub no_fault_close : (tokens : List Token) (k : ℕ) → piece_at tokens k ≡ Close → IsInside tokens k → (kind : FaultKind) → IsFault tokens k kind → ⊥
no_fault_close tokens k is inside kind (inl h) = (let e : Close ≡ Bad kind = sym is ∙ h in cc)
no_fault_close tokens k is inside kind (inr (b, inl (h, w))) = (let e : Close ≡ Open = sym is ∙ h in cc)
no_fault_close tokens k is inside kind (inr (b, inr (h, w))) = w inside

pub piece_of : (tokens : List Token) (k : ℕ) (token : Token) → k < length tokens → piece_at tokens k ≡ (get_or tokens k token).piece
piece_of tokens k token below = get_or-map (λ (t : Token). t.piece) tokens k token Comma below

pub inside_goes : (tokens : List Token) (k : ℕ) (piece : Piece) (inside : Bool) → piece_at tokens k ≡ piece → (IsTrue inside ↔ IsInside tokens k) → IsTrue (inside_after piece inside) ↔ IsInside tokens (k + 1)
inside_goes tokens k (Single simple) inside is same = (λ h. inside_stays tokens k (same.0 h) (λ e. absurd (let q : Single simple ≡ Close = sym is ∙ e in cc)), λ w. same.1 (inside_back tokens k (λ e. absurd (let q : Single simple ≡ Open = sym is ∙ e in cc)) w))
inside_goes tokens k (Escaped c) inside is same = (λ h. inside_stays tokens k (same.0 h) (λ e. absurd (let q : Escaped c ≡ Close = sym is ∙ e in cc)), λ w. same.1 (inside_back tokens k (λ e. absurd (let q : Escaped c ≡ Open = sym is ∙ e in cc)) w))
inside_goes tokens k Open inside is same = (λ h. inside_opens tokens k is, λ w. refl)
inside_goes tokens k Comma inside is same = (λ h. inside_stays tokens k (same.0 h) (λ e. absurd (let q : Comma ≡ Close = sym is ∙ e in cc)), λ w. same.1 (inside_back tokens k (λ e. absurd (let q : Comma ≡ Open = sym is ∙ e in cc)) w))
inside_goes tokens k Close inside is same = (λ h. absurd (let q : false ≡ true = h in cc), λ w. absurd (outside_closes tokens k is w))
inside_goes tokens k (Bad kind) inside is same = (λ h. inside_stays tokens k (same.0 h) (λ e. absurd (let q : Bad kind ≡ Close = sym is ∙ e in cc)), λ w. same.1 (inside_back tokens k (λ e. absurd (let q : Bad kind ≡ Open = sym is ∙ e in cc)) w))

-- TOKENS WITHOUT FAULT

pub fits_at : (tokens : List Token) (k : ℕ) (piece : Piece) (inside : Bool) → NoFaultBelow tokens (length tokens) → k < length tokens → piece_at tokens k ≡ piece → (IsTrue inside ↔ IsInside tokens k) → Fits inside piece
fits_at tokens k (Single simple) inside none below is same = tt
fits_at tokens k (Escaped c) inside none below is same = tt
fits_at tokens k Open true none below is same = absurd (none k Brace below (inr (refl, inl (is, inl (same.0 refl)))))
fits_at tokens k Open false none below is same = refl
fits_at tokens k Comma inside none below is same = tt
fits_at tokens k Close true none below is same = refl
fits_at tokens k Close false none below is same = absurd (none k Brace below (inr (refl, inr (is, λ w. let q : false ≡ true = same.1 w in cc))))
fits_at tokens k (Bad kind) inside none below is same = none k kind below (inl is)

pub outside_end : (tokens : List Token) → NoFaultBelow tokens (length tokens) → IsInside tokens (length tokens) → ⊥
outside_end tokens none (j, low, opened, clear) = none j Brace low (inr (refl, inl (opened, inr (λ i above below. clear i above below))))
