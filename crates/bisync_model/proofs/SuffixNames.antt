-- Names of paths: a conflict suffix more is a name again.
use Rattle.std.proofs.Common.{◌≡◌, ℕ, List, [], ◌∷◌, ◌++◌, Some, refl, sym, ◌∙◌, ap}
use Rattle.bisync_tree.specs.Rows.{PathBytes}
use Rattle.bisync_tree.specs.declared.steps.Given.{Given}
use Rattle.bisync_tree.specs.declared.sides.Side.{Side}
use Rattle.bisync_model.specs.Policy.{Policy}
use Rattle.bisync_model.specs.Names.{candidate, loser_named}
use Rattle.bisync_model.specs.Safe.{with_suffixes, IsNameOf}
use Rattle.bisync_model.proofs.ListedRun.{Run}
use Rattle.bisync_model.proofs.NamesInUse.{NamesOk}

suffix_more : (policy : Policy) (p : PathBytes) (suffixes : List (Side × ℕ)) (s : Side) (k : ℕ)
    → with_suffixes policy p (suffixes ++ (s, k) ∷ []) ≡ candidate policy s (with_suffixes policy p suffixes) k
suffix_more policy p [] s k = refl
suffix_more policy p (x ∷ xs) s k = suffix_more policy (candidate policy x.0 p x.1) xs s k

-- a candidate of a name of p is a name of p
pub name_of_name : (policy : Policy) (p n : PathBytes) → IsNameOf policy p n → (s : Side) (k : ℕ) → IsNameOf policy p (candidate policy s n k)
name_of_name policy p n (suffixes, e) s k = (suffixes ++ (s, k) ∷ [], suffix_more policy p suffixes s k ∙ ap (λ q. candidate policy s q k) e)

-- so is a given name
pub name_of_given : (run : Run) (names : List Given) → NamesOk run names → (p n : PathBytes) (g : Given) → loser_named names n ≡ Some g
    → IsNameOf run.known.policy p g.path → IsNameOf run.known.policy p n
name_of_given run names ok p n g e named =
    let place = ok.place g.path g.side n (ok.to_name g n e) in
    let more = name_of_name run.known.policy p g.path named g.side place.0 in
    (more.0, more.1 ∙ sym place.1)
