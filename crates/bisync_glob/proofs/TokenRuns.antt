use Rattle.std.proofs.Common.{◌≡◌, ◌+◌, ◌≤◌, ◌++◌, [], ◌∷◌, List, ℕ, arith, length, take, drop, sym, append_assoc, true, ap, subst, add-one}
use Rattle.std.proofs.lemmas.Bool.Decides.{Decides-eqb}
use Rattle.bisync_glob.specs.declared.tokens.Piece.TheVariants.{Bad}
use Rattle.bisync_glob.specs.declared.faults.FaultKind.TheVariants.{Class as BadClass}
use Rattle.bisync_glob.specs.Spelling.{NoClass, begins}
use Rattle.std.proofs.lemmas.List.{take-append-drop, length-take-le}
use Rattle.bisync_glob.specs.declared.tokens.Token.{Token}
use Rattle.bisync_glob.specs.Tokens.{AreTokens}
use Rattle.bisync_glob.specs.Reading.{TokenRead}

pub tokens_more : (tokens : List Token) (token : Token) (more : List Token) (text left : List ℕ) → ((m : List Token) → AreTokens m left → AreTokens (tokens ++ m) text) → TokenRead token left → AreTokens more (drop token.len left) → AreTokens ((tokens ++ token ∷ []) ++ more) text
tokens_more tokens token more text left before r after =
    rw (append_assoc tokens (token ∷ []) more) (before (token ∷ more) (take token.len left, drop token.len left, sym (take-append-drop token.len left), length-take-le token.len left r.fits, r.spelled, after))

pub bracket_bad : (text : List ℕ) → begins 91 text ≡ true → NoClass text → TokenRead (record { piece = Bad BadClass; len = 1 }) text
bracket_bad [] h none = absurd (cc)
bracket_bad (d ∷ rest) h none =
    let e : d ≡ 91 = (Decides-eqb d 91).0 h in
    let P : List ℕ → Type 0 = λ t. NoClass t in
    record {
      some = omega arith;
      fits = (let k : 1 ≤ length rest + 1 = omega arith in rw add-one at k);
      spelled = (ap (λ a. a ∷ []) e, subst P (ap (λ a. a ∷ rest) e) none);
    }
