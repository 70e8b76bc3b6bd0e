-- The given names are free, distinct, and one for each loser.
use Rattle.std.proofs.Common.{◌≡◌, ◌≢◌, ℕ, Bool, true, false, cond, ◌&&◌, ◌||◌, List, [], ◌∷◌, ◌++◌, Option, Some, None, refl, sym, ◌∙◌, ap, subst}
use Rattle.std.specs.Prelude.{bytes_eq, flat_map, is_some}
use Rattle.bisync_tree.specs.Rows.{PathBytes, is_among}
use Rattle.bisync_tree.specs.Side.{is_side}
use Rattle.bisync_tree.specs.declared.steps.Given.{Given}
use Rattle.bisync_tree.specs.declared.sides.Side.{Side}
use Rattle.bisync_tree.specs.declared.sides.Side.TheVariants.{One, Two}
use Rattle.bisync_tree.specs.declared.classes.Rule.TheVariants.{Nothing}
use Rattle.bisync_tree.proofs.PathOrder.{path_is_itself, same_path}
use Rattle.bisync_model.specs.Table.{rule_at}
use Rattle.bisync_model.proofs.ListedRun.{Run}
use Rattle.bisync_model.specs.Names.{is_held, AreGiven, AreNames, losers_at, candidate, name_for, loser_named}
use Rattle.bisync_model.specs.Conflict.{is_named_loser}
use Rattle.bisync_model.proofs.RuleFacts.{loser_rule}
use Rattle.bisync_model.proofs.PlaceTests.{side_is_itself, same_side, or_false_left, or_false_right, or_true_right}
use Rattle.bisync_model.proofs.RegionSteps.{Distinct}
use Rattle.bisync_model.proofs.NamesInUse.{IsFree, NamesOk}

abbrev Losers : Type 0
Losers = List (PathBytes × Side)

abbrev is_place : PathBytes → Side → PathBytes → Side → Bool
is_place p s q t = bytes_eq p q && is_side s t

same_place : (p : PathBytes) (s : Side) (q : PathBytes) (t : Side) → is_place p s q t ≡ true → (p ≡ q) × (s ≡ t)
same_place p s q t = go (bytes_eq p q) refl
  where
    go : (b : Bool) → bytes_eq p q ≡ b → (b && is_side s t) ≡ true → (p ≡ q) × (s ≡ t)
    go true e f = (same_path p q e, same_side s t f)
    go false e f = cc

place_is_itself : (p : PathBytes) (s : Side) → is_place p s p s ≡ true
place_is_itself p s = (λ i. path_is_itself p i && side_is_itself s i)

abbrev is_loser_among : PathBytes → Side → Losers → Bool
is_loser_among p s [] = false
is_loser_among p s (l ∷ ls) = is_place p s l.0 l.1 || is_loser_among p s ls

abbrev DistinctLosers : Losers → Type 0
DistinctLosers [] = Unit {0}
DistinctLosers (l ∷ ls) = (is_loser_among l.0 l.1 ls ≡ false) × DistinctLosers ls

abbrev AllLost : Run → Losers → Type 0
AllLost run [] = Unit {0}
AllLost run (l ∷ ls) = (is_named_loser run.known l.0 l.1 ≡ true) × AllLost run ls

or_right : (a b : Bool) → b ≡ true → (a || b) ≡ true
or_right true b e = refl
or_right false b e = e

none_from : {A : Type 0} (v : Option A) → is_some v ≡ false → v ≡ None
none_from None e = refl
none_from (Some x) e = cc

free_from : (run : Run) (taken : List PathBytes) (n : PathBytes) → is_held run.known taken n ≡ false → IsFree run n
free_from run taken n e =
    let e2 = or_false_right (run.known.is_there One n) _ e in
    let e3 = or_false_right (run.known.is_there Two n) _ e2 in
    let e4 = or_false_right (is_some (run.known.base One n)) _ e3 in
    record {
      start1 = none_from (run.start One n) (sym (run.listed.is_there One n) ∙ or_false_left (run.known.is_there One n) _ e);
      start2 = none_from (run.start Two n) (sym (run.listed.is_there Two n) ∙ or_false_left (run.known.is_there Two n) _ e2);
      base1 = none_from (run.known.base One n) (or_false_left (is_some (run.known.base One n)) _ e3);
      base2 = none_from (run.known.base Two n) (or_false_left (is_some (run.known.base Two n)) _ e4);
    }

untaken_from : (run : Run) (taken : List PathBytes) (n : PathBytes) → is_held run.known taken n ≡ false → is_among n taken ≡ false
untaken_from run taken n e =
    or_false_right (is_some (run.known.base Two n)) _
    (or_false_right (is_some (run.known.base One n)) _ (or_false_right (run.known.is_there Two n) _ (or_false_right (run.known.is_there One n) _ e)))

some_is : {A : Type 0} (x y : A) → ◌≡◌ {A = Option A} (Some x) (Some y) → x ≡ y
some_is x y e = cc

-- what holds of any list of given names
module _ (run : Run) where
  free_in : (taken : List PathBytes) (losers : Losers) (gs : List Given) → AreGiven run.known taken losers gs → (g : Given) (n : PathBytes) → loser_named gs n ≡ Some g
      → IsFree run n × (is_among n taken ≡ false)
  free_in taken [] [] given g n e = cc
  free_in taken [] (h ∷ hs) given g n e = absurd given
  free_in taken (l ∷ ls) [] given g n e = absurd given
  free_in taken (l ∷ ls) (h ∷ hs) given g n e = go (free_in (h.name ∷ taken) ls hs given.4 g n) (bytes_eq n h.name) refl e
    where
      go : (loser_named hs n ≡ Some g → IsFree run n × (is_among n (h.name ∷ taken) ≡ false)) → (b : Bool) → bytes_eq n h.name ≡ b
          → cond b (Some h) (loser_named hs n) ≡ Some g → IsFree run n × (is_among n taken ≡ false)
      go rest true is e =
          let n_is : n ≡ h.name = same_path n h.name is in
          let held : is_held run.known taken n ≡ false = subst (λ m. is_held run.known taken m ≡ false) (sym n_is) given.2.free in
          (free_from run taken n held, untaken_from run taken n held)
      go rest false is e = let r = rest e in (r.0, or_false_right (bytes_eq n h.name) (is_among n taken) r.1)

  -- a name's loser is among the losers
  loser_in_list : (taken : List PathBytes) (losers : Losers) (gs : List Given) → AreGiven run.known taken losers gs → (g : Given) (n : PathBytes) → loser_named gs n ≡ Some g
      → is_loser_among g.path g.side losers ≡ true
  loser_in_list taken [] [] given g n e = cc
  loser_in_list taken [] (h ∷ hs) given g n e = absurd given
  loser_in_list taken (l ∷ ls) [] given g n e = absurd given
  loser_in_list taken (l ∷ ls) (h ∷ hs) given g n e = go (loser_in_list (h.name ∷ taken) ls hs given.4 g n) (bytes_eq n h.name) e
    where
      go : (loser_named hs n ≡ Some g → is_loser_among g.path g.side ls ≡ true) → (b : Bool) → cond b (Some h) (loser_named hs n) ≡ Some g
          → (is_place g.path g.side l.0 l.1 || is_loser_among g.path g.side ls) ≡ true
      go rest true e =
          let g_is : h ≡ g = some_is h g e in
          let here : is_place g.path g.side l.0 l.1 ≡ true
          = subst (λ g. is_place g.path g.side l.0 l.1 ≡ true) g_is ((λ i. is_place (given.0 i) (given.1 i) l.0 l.1) ∙ place_is_itself l.0 l.1) in
          ap (λ b. b || is_loser_among g.path g.side ls) here
      go rest false e = or_right (is_place g.path g.side l.0 l.1) (is_loser_among g.path g.side ls) (rest e)

  to_name_in : (taken : List PathBytes) (losers : Losers) (gs : List Given) → AreGiven run.known taken losers gs → DistinctLosers losers → (g : Given) (n : PathBytes)
      → loser_named gs n ≡ Some g → name_for gs g.path g.side ≡ Some n
  to_name_in taken [] [] given distinct g n e = cc
  to_name_in taken [] (h ∷ hs) given distinct g n e = absurd given
  to_name_in taken (l ∷ ls) [] given distinct g n e = absurd given
  to_name_in taken (l ∷ ls) (h ∷ hs) given distinct g n e =
      go (to_name_in (h.name ∷ taken) ls hs given.4 distinct.1 g n) (bytes_eq n h.name) refl e
    where
      go : (loser_named hs n ≡ Some g → name_for hs g.path g.side ≡ Some n) → (b : Bool) → bytes_eq n h.name ≡ b
          → cond b (Some h) (loser_named hs n) ≡ Some g → cond (is_place g.path g.side h.path h.side) (Some h.name) (name_for hs g.path g.side) ≡ Some n
      go rest true is e =
          let g_is : h ≡ g = some_is h g e in
          let here : is_place g.path g.side h.path h.side ≡ true = subst (λ g. is_place g.path g.side h.path h.side ≡ true) g_is (place_is_itself h.path h.side) in
          ap (λ b. cond b (Some h.name) (name_for hs g.path g.side)) here ∙ ap (λ m. Some m) (sym (same_path n h.name is))
      go rest false is e =
          let inside : is_loser_among g.path g.side ls ≡ true = loser_in_list (h.name ∷ taken) ls hs given.4 g n e in
          ap (λ b. cond b (Some h.name) (name_for hs g.path g.side)) (elsewhere (is_place g.path g.side h.path h.side) refl inside) ∙ rest e
        where
          elsewhere : (b : Bool) → is_place g.path g.side h.path h.side ≡ b → is_loser_among g.path g.side ls ≡ true → is_place g.path g.side h.path h.side ≡ false
          elsewhere false e inside = e
          elsewhere true e inside =
              let same = same_place g.path g.side h.path h.side e in
              let out : is_loser_among g.path g.side ls ≡ false
              = (λ i. is_loser_among ((same.0 ∙ given.0) i) ((same.1 ∙ given.1) i) ls) ∙ distinct.0 in
              cc

  to_loser_in : (taken : List PathBytes) (losers : Losers) (gs : List Given) → AreGiven run.known taken losers gs → (p : PathBytes) (s : Side) (n : PathBytes)
      → name_for gs p s ≡ Some n → loser_named gs n ≡ Some (record { path = p; side = s; name = n })
  to_loser_in taken [] [] given p s n e = cc
  to_loser_in taken [] (h ∷ hs) given p s n e = absurd given
  to_loser_in taken (l ∷ ls) [] given p s n e = absurd given
  to_loser_in taken (l ∷ ls) (h ∷ hs) given p s n e =
      go (to_loser_in (h.name ∷ taken) ls hs given.4 p s n) (is_place p s h.path h.side) refl e
    where
      G : Given
      G = record { path = p; side = s; name = n }

      go : (name_for hs p s ≡ Some n → loser_named hs n ≡ Some G) → (b : Bool) → is_place p s h.path h.side ≡ b
          → cond b (Some h.name) (name_for hs p s) ≡ Some n → cond (bytes_eq n h.name) (Some h) (loser_named hs n) ≡ Some G
      go rest true is e =
          let same = same_place p s h.path h.side is in
          let n_is : h.name ≡ n = some_is h.name n e in
          ap (λ m. cond (bytes_eq n m) (Some h) (loser_named hs n)) n_is
          ∙ ap (λ b. cond b (Some h) (loser_named hs n)) (path_is_itself n)
          ∙ (λ i. Some (record { path = sym same.0 i; side = sym same.1 i; name = n_is i }))
      go rest false is e =
          let there = rest e in
          let untaken = (free_in (h.name ∷ taken) ls hs given.4 G n there).1 in
          ap (λ b. cond b (Some h) (loser_named hs n)) (or_false_left (bytes_eq n h.name) (is_among n taken) untaken) ∙ there

  total_in : (taken : List PathBytes) (losers : Losers) (gs : List Given) → AreGiven run.known taken losers gs → (p : PathBytes) (s : Side)
      → is_loser_among p s losers ≡ true → (n : PathBytes) × (name_for gs p s ≡ Some n)
  total_in taken [] [] given p s e = cc
  total_in taken [] (h ∷ hs) given p s e = absurd given
  total_in taken (l ∷ ls) [] given p s e = absurd given
  total_in taken (l ∷ ls) (h ∷ hs) given p s e = go (total_in (h.name ∷ taken) ls hs given.4 p s) (is_place p s h.path h.side) refl
    where
      go : (is_loser_among p s ls ≡ true → (n : PathBytes) × (name_for hs p s ≡ Some n)) → (b : Bool) → is_place p s h.path h.side ≡ b
          → (n : PathBytes) × (cond b (Some h.name) (name_for hs p s) ≡ Some n)
      go rest true is = (h.name, refl)
      go rest false is =
          rest (or_true_right (is_place p s l.0 l.1) (is_loser_among p s ls) ((λ i. is_place p s (sym given.0 i) (sym given.1 i)) ∙ is) e)

  place_in : (taken : List PathBytes) (losers : Losers) (gs : List Given) → AreGiven run.known taken losers gs → (p : PathBytes) (s : Side) (n : PathBytes)
      → name_for gs p s ≡ Some n → (k : ℕ) × (n ≡ candidate run.known.policy s p k)
  place_in taken [] [] given p s n e = cc
  place_in taken [] (h ∷ hs) given p s n e = absurd given
  place_in taken (l ∷ ls) [] given p s n e = absurd given
  place_in taken (l ∷ ls) (h ∷ hs) given p s n e = go (place_in (h.name ∷ taken) ls hs given.4 p s n) (is_place p s h.path h.side) refl e
    where
      go : (name_for hs p s ≡ Some n → (k : ℕ) × (n ≡ candidate run.known.policy s p k)) → (b : Bool) → is_place p s h.path h.side ≡ b
          → cond b (Some h.name) (name_for hs p s) ≡ Some n → (k : ℕ) × (n ≡ candidate run.known.policy s p k)
      go rest true is e =
          let same = same_place p s h.path h.side is in
          let n_is : h.name ≡ n = some_is h.name n e in
          (given.2.place, sym n_is ∙ given.2.is ∙ (λ i. candidate run.known.policy (sym same.1 i) (sym same.0 i) given.2.place))
      go rest false is e = rest e

  all_lost : (losers : Losers) → AllLost run losers → (p : PathBytes) (s : Side) → is_loser_among p s losers ≡ true → is_named_loser run.known p s ≡ true
  all_lost [] h p s e = cc
  all_lost (l ∷ ls) h p s e = go (all_lost ls h.1 p s) (is_place p s l.0 l.1) refl e
    where
      go : (is_loser_among p s ls ≡ true → is_named_loser run.known p s ≡ true) → (b : Bool) → is_place p s l.0 l.1 ≡ b → (b || is_loser_among p s ls) ≡ true → is_named_loser run.known p s ≡ true
      go rest true is e = let same = same_place p s l.0 l.1 is in (λ i. is_named_loser run.known (same.0 i) (same.1 i)) ∙ h.0
      go rest false is e = rest e

  -- the losers of a list of paths
  L : List PathBytes → Losers
  L paths = flat_map (losers_at run.known) paths

  lost_all : (paths : List PathBytes) → AllLost run (L paths)
  unfolding L
  lost_all [] = tt
  lost_all (p ∷ ps) = go (lost_all ps) (is_named_loser run.known p One) refl (is_named_loser run.known p Two) refl
    where
      go : AllLost run (L ps) → (b : Bool) → is_named_loser run.known p One ≡ b → (c : Bool) → is_named_loser run.known p Two ≡ c
          → AllLost run ((cond b ((p, One) ∷ []) [] ++ cond c ((p, Two) ∷ []) []) ++ L ps)
      go rest true e true f = (e, (f, rest))
      go rest true e false f = (e, rest)
      go rest false e true f = (f, rest)
      go rest false e false f = rest

  absent_all : (paths : List PathBytes) (q : PathBytes) (s : Side) → is_among q paths ≡ false → is_loser_among q s (L paths) ≡ false
  unfolding L
  absent_all [] q s e = refl
  absent_all (p ∷ ps) q s e = go (absent_all ps q s (or_false_right (bytes_eq q p) (is_among q ps) e)) (is_named_loser run.known p One) (is_named_loser run.known p Two)
    where
      skip : (t : Side) (rest : Losers) → is_loser_among q s rest ≡ false → is_loser_among q s ((p, t) ∷ rest) ≡ false
      skip t rest out = ap (λ b. (b && is_side s t) || is_loser_among q s rest) (or_false_left (bytes_eq q p) (is_among q ps) e) ∙ out

      go : is_loser_among q s (L ps) ≡ false → (b c : Bool) → is_loser_among q s ((cond b ((p, One) ∷ []) [] ++ cond c ((p, Two) ∷ []) []) ++ L ps) ≡ false
      go out true true = skip One ((p, Two) ∷ L ps) (skip Two (L ps) out)
      go out true false = skip One (L ps) out
      go out false true = skip Two (L ps) out
      go out false false = out

  distinct_all : (paths : List PathBytes) → Distinct paths → DistinctLosers (L paths)
  unfolding L
  distinct_all [] distinct = tt
  distinct_all (p ∷ ps) distinct = go (distinct_all ps distinct.1) (is_named_loser run.known p One) (is_named_loser run.known p Two)
    where
      out : (s : Side) → is_loser_among p s (L ps) ≡ false
      out s = absent_all ps p s distinct.0

      go : DistinctLosers (L ps) → (b c : Bool) → DistinctLosers ((cond b ((p, One) ∷ []) [] ++ cond c ((p, Two) ∷ []) []) ++ L ps)
      go rest true true = (ap (λ b. (b && false) || is_loser_among p One (L ps)) (path_is_itself p) ∙ out One, (out Two, rest))
      go rest true false = (out One, rest)
      go rest false true = (out Two, rest)
      go rest false false = rest

  present_all : (paths : List PathBytes) (p : PathBytes) (s : Side) → is_among p paths ≡ true → is_named_loser run.known p s ≡ true → is_loser_among p s (L paths) ≡ true
  unfolding L
  present_all [] p s e lost = cc
  present_all (q ∷ qs) p s e lost = go (λ x. present_all qs p s x lost) (bytes_eq p q) refl e
    where
      later : is_loser_among p s (L qs) ≡ true → (b c : Bool) → is_loser_among p s ((cond b ((q, One) ∷ []) [] ++ cond c ((q, Two) ∷ []) []) ++ L qs) ≡ true
      later inside true true = or_right (is_place p s q One) _ (or_right (is_place p s q Two) _ inside)
      later inside true false = or_right (is_place p s q One) _ inside
      later inside false true = or_right (is_place p s q Two) _ inside
      later inside false false = inside

      first : (s : Side) → is_named_loser run.known q s ≡ true → is_loser_among q s ((cond (is_named_loser run.known q One) ((q, One) ∷ []) [] ++ cond (is_named_loser run.known q Two) ((q, Two) ∷ []) []) ++ L qs) ≡ true
      first One lost = (λ i. is_loser_among q One ((cond (lost i) ((q, One) ∷ []) [] ++ cond (is_named_loser run.known q Two) ((q, Two) ∷ []) []) ++ L qs))
          ∙ ap (λ b. (b && true) || is_loser_among q One (cond (is_named_loser run.known q Two) ((q, Two) ∷ []) [] ++ L qs)) (path_is_itself q)
      first Two lost = (λ i. is_loser_among q Two ((cond (is_named_loser run.known q One) ((q, One) ∷ []) [] ++ cond (lost i) ((q, Two) ∷ []) []) ++ L qs))
          ∙ second (is_named_loser run.known q One)
        where
          second : (b : Bool) → is_loser_among q Two ((cond b ((q, One) ∷ []) [] ++ (q, Two) ∷ []) ++ L qs) ≡ true
          second true = or_right (is_place q Two q One) _ (ap (λ b. (b && true) || is_loser_among q Two (L qs)) (path_is_itself q))
          second false = ap (λ b. (b && true) || is_loser_among q Two (L qs)) (path_is_itself q)

      go : (is_among p qs ≡ true → is_loser_among p s (L qs) ≡ true) → (b : Bool) → bytes_eq p q ≡ b → (b || is_among p qs) ≡ true
          → is_loser_among p s ((cond (is_named_loser run.known q One) ((q, One) ∷ []) [] ++ cond (is_named_loser run.known q Two) ((q, Two) ∷ []) []) ++ L qs) ≡ true
      go rest true is e =
          let p_is : p ≡ q = same_path p q is in
          ap (λ r. is_loser_among r s (losers_at run.known q ++ L qs)) p_is ∙ first s (subst (λ r. is_named_loser run.known r s ≡ true) p_is lost)
      go rest false is e = later (rest e) (is_named_loser run.known q One) (is_named_loser run.known q Two)

  pub names_ok : (paths : List PathBytes) (names : List Given) → Distinct paths → ((p : PathBytes) → rule_at run.known p ≢ Nothing → is_among p paths ≡ true)
      → AreNames run.known paths names → NamesOk run names
  unfolding L
  names_ok paths names distinct covered given = record {
    free = λ g n e. (free_in [] (L paths) names given g n e).0;
    lost = λ g n e. all_lost (L paths) (lost_all paths) g.path g.side (loser_in_list [] (L paths) names given g n e);
    to_name = λ g n e. to_name_in [] (L paths) names given (distinct_all paths distinct) g n e;
    to_loser = λ p s n e. to_loser_in [] (L paths) names given p s n e;
    total = λ p s lost. total_in [] (L paths) names given p s (present_all paths p s (covered p (loser_rule run.known p s lost)) lost);
    place = λ p s n e. place_in [] (L paths) names given p s n e;
  }
