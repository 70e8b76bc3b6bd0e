-- The losers of a run, and so its given names or the refused loser, don't depend on the paths that it goes through.
use Rattle.std.proofs.Common.{◌≡◌, Bool, true, false, cond, ◌||◌, List, [], ◌∷◌, ◌++◌, refl, sym, subst}
use Rattle.bisync_tree.specs.Rows.{PathBytes, is_among}
use Rattle.bisync_tree.specs.declared.sides.Side.{Side}
use Rattle.bisync_tree.specs.declared.sides.Side.TheVariants.{One, Two}
use Rattle.bisync_tree.specs.declared.steps.Given.{Given}
use Rattle.bisync_model.specs.Known.{Known}
use Rattle.bisync_model.specs.Conflict.{is_named_loser}
use Rattle.bisync_model.specs.Names.{AreGiven, AreNames, AreNotNames, losers_at, losers_of}
use Rattle.bisync_model.specs.Runs.{ArePaths}
use Rattle.bisync_model.proofs.KeptPaths.{HasCounted, flat_same}
use Rattle.bisync_model.proofs.PlaceTests.{or_false_left, or_false_right}
use Rattle.bisync_model.proofs.RuleFacts.{loser_rule, done_among}
use Rattle.bisync_model.proofs.NamesUnique.{names_unique}
use Rattle.bisync_model.proofs.NamesTooLong.{one_refused}

abbrev has_loser : Known → PathBytes → Bool
has_loser known p = is_named_loser known p One || is_named_loser known p Two

module _ (known : Known) where
  counted : (paths : List PathBytes) → ArePaths known paths → HasCounted (has_loser known) paths
  counted paths are = record { rising = are.rising; all = λ p has. go p (is_named_loser known p One) refl (is_named_loser known p Two) refl has }
    where
      go : (p : PathBytes) (b : Bool) → is_named_loser known p One ≡ b → (c : Bool) → is_named_loser known p Two ≡ c → (b || c) ≡ true → is_among p paths ≡ true
      go p true e c f has = done_among known paths are p (loser_rule known p One e)
      go p false e true f has = done_among known paths are p (loser_rule known p Two f)
      go p false e false f has = cc

  no_losers : (p : PathBytes) → has_loser known p ≡ false → losers_at known p ≡ []
  no_losers p e =
      let one : is_named_loser known p One ≡ false = or_false_left (is_named_loser known p One) (is_named_loser known p Two) e in
      let two : is_named_loser known p Two ≡ false = or_false_right (is_named_loser known p One) (is_named_loser known p Two) e in
      λ i. cond (one i) ((p, One) ∷ []) [] ++ cond (two i) ((p, Two) ∷ []) []

  losers_same : (paths others : List PathBytes) → ArePaths known paths → ArePaths known others → losers_of known paths ≡ losers_of known others
  losers_same paths others are also = flat_same (has_loser known) paths others (counted paths are) (counted others also) (losers_at known) no_losers

  pub names_determined : (paths others : List PathBytes) (names more : List Given) → ArePaths known paths → ArePaths known others
      → AreNames known paths names → AreNames known others more → names ≡ more
  names_determined paths others names more are also a b =
      names_unique known [] (losers_of known paths) names more a (subst (λ ls. AreGiven known [] ls more) (sym (losers_same paths others are also)) b)

  pub refused_determined : (paths others : List PathBytes) (side t : Side) (p q : PathBytes) → ArePaths known paths → ArePaths known others
      → AreNotNames known paths side p → AreNotNames known others t q → (p ≡ q) × (side ≡ t)
  refused_determined paths others side t p q are also a b =
      one_refused known paths others side t p q (losers_same paths others are also) a b
