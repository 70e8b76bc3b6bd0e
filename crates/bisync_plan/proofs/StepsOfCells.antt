-- The steps that a walk makes with its names from the front are those of the plan.
use Rattle.std.proofs.Common.{◌≡◌, Bool, true, false, cond, ◌&&◌, ◌||◌, List, [], ◌∷◌, ◌++◌, map, append_assoc, Option, Some, None, refl, sym, ◌∙◌, ap, subst}
use Rattle.std.specs.Prelude.{bytes_eq, flat_map}
use Rattle.bisync_tree.specs.Side.{is_side}
use Rattle.bisync_tree.specs.Rows.{PathBytes, look, is_among, AreRising}
use Rattle.bisync_tree.specs.Walk.{cell_at, listings_of}
use Rattle.bisync_tree.specs.declared.sides.Side.{Side}
use Rattle.bisync_tree.specs.declared.sides.Side.TheVariants.{One, Two}
use Rattle.bisync_tree.specs.declared.windows.Window.{Window}
use Rattle.bisync_tree.specs.declared.entries.Entry.{Entry}
use Rattle.bisync_tree.specs.declared.entries.Compare.{Compare}
use Rattle.bisync_tree.specs.declared.options.ConflictRule.{ConflictRule}
use Rattle.bisync_tree.specs.declared.classes.Rule.{Rule}
use Rattle.bisync_tree.specs.declared.classes.Rule.TheVariants.{Nothing, Copy as CopyFrom, Delete as DeleteOn, Conflict}
use Rattle.bisync_tree.specs.declared.steps.Given.{Given}
use Rattle.bisync_tree.specs.declared.views.View.{View}
use Rattle.bisync_tree.proofs.PathOrder.{path_is_itself, same_path}
use Rattle.bisync_tree.proofs.RisingLemmas.{absent_below}
use Rattle.bisync_model.specs.Known.{Known}
use Rattle.bisync_model.specs.Table.{rule_at}
use Rattle.bisync_model.specs.Conflict.{is_conflict, is_named_loser, gets_name, winner_at}
use Rattle.bisync_model.specs.Names.{AreGiven, losers_at, name_for}
use Rattle.bisync_model.specs.Plan.{moved, winner_steps, deletes_by as deletes_of_rule, moves_by as moves_of_rule}
use Rattle.bisync_model.specs.Views.{known_of}
use Rattle.bisync_model.proofs.PlaceTests.{side_is_itself}
use Rattle.bisync_table.specs.Cells.{rule_in}
use Rattle.bisync_conflict.specs.Cells.{winner_in}
use Rattle.bisync_plan.specs.CellSteps.{deletes_by, deletes_in, copied_from, head_name, rest_names, moves_by, rest_by, moves_with}

-- what is left of the names after one possible loser
record IsTaken (known : Known) (a : Bool) (side : Side) (p : PathBytes) (later : List (PathBytes × Side)) (gs : List Given) : Type 0 where
  taken : List PathBytes
  given : AreGiven known taken later (cond a (rest_names gs p side) gs)
  name : cond a (head_name gs p side) None ≡ cond a (name_for gs p side) None
  others : (q : PathBytes) (s : Side) → (bytes_eq q p && is_side s side) ≡ false → name_for gs q s ≡ name_for (cond a (rest_names gs p side) gs) q s

take_one : (known : Known) (a : Bool) (side : Side) (p : PathBytes) (later : List (PathBytes × Side)) (taken : List PathBytes) (gs : List Given)
    → AreGiven known taken (cond a ((p, side) ∷ []) [] ++ later) gs → IsTaken known a side p later gs
take_one known false side p later taken gs h = record { taken = taken; given = h; name = refl; others = λ q s e. refl }
take_one known true side p later taken [] h = absurd h
take_one known true side p later taken (g ∷ gs) h = record {
  taken = g.name ∷ taken;
  given = subst (λ b. AreGiven known (g.name ∷ taken) later (cond b gs (g ∷ gs))) (sym here) h.4;
  name = (λ i. cond (here i) (Some g.name) None) ∙ (λ i. cond (sym here i) (Some g.name) (name_for gs p side));
  others = λ q s e.
      let there : (bytes_eq q g.path && is_side s g.side) ≡ false = (λ i. bytes_eq q (h.0 i) && is_side s (h.1 i)) ∙ e in
      (λ i. cond (there i) (Some g.name) (name_for gs q s)) ∙ (λ i. name_for (cond (sym here i) gs (g ∷ gs)) q s);
}
  where
    here : (bytes_eq p g.path && is_side side g.side) ≡ true
    here = (λ i. bytes_eq p (h.0 i) && is_side side (h.1 i)) ∙ (λ i. path_is_itself p i && side_is_itself side i)

moved_if : (b : Bool) (side : Side) (p : PathBytes) (name : Option PathBytes) (e : Option Entry) → moved side p (cond b name None) e ≡ cond b (moved side p name e) []
moved_if true side p name e = refl
moved_if false side p name e = refl

and_false_right : (a : Bool) → (a && false) ≡ false
and_false_right true = refl
and_false_right false = refl

module _ (conflict : ConflictRule) (compare : Compare) (passes : PathBytes → Bool) (window1 window2 : Window) (view : View)
    (rule_seen : (p : PathBytes) → rule_in compare (cell_at (listings_of view) p) ≡ rule_at (known_of conflict compare passes window1 window2 view) p) where
  deletes_of : (p : PathBytes) (r : Rule) → deletes_by (cell_at (listings_of view) p) r ≡ deletes_of_rule (known_of conflict compare passes window1 window2 view) p r
  deletes_of p Nothing = refl
  deletes_of p Conflict = refl
  deletes_of p (CopyFrom from) = refl
  deletes_of p (DeleteOn One) = refl
  deletes_of p (DeleteOn Two) = refl

  pub deletes_are : (ps : List PathBytes) → flat_map (deletes_in compare) (map (cell_at (listings_of view)) ps)
      ≡ flat_map (λ p. deletes_of_rule (known_of conflict compare passes window1 window2 view) p (rule_at (known_of conflict compare passes window1 window2 view) p)) ps
  deletes_are [] = refl
  deletes_are (p ∷ ps) =
      λ i. (ap (deletes_by (cell_at (listings_of view) p)) (rule_seen p) ∙ deletes_of p (rule_at (known_of conflict compare passes window1 window2 view) p)) i ++ deletes_are ps i

  abbrev gets : PathBytes → Side → Bool
  gets p side = gets_name conflict.loser (winner_in conflict compare (cell_at (listings_of view) p)) side

  winner_of_cell : (p : PathBytes) (w : Option Side) → copied_from (cell_at (listings_of view) p) w ≡ winner_steps (known_of conflict compare passes window1 window2 view) p w
  winner_of_cell p None = refl
  winner_of_cell p (Some One) = refl
  winner_of_cell p (Some Two) = refl

  -- one loser's steps
  lost : (p : PathBytes) (side : Side) (g n : Bool) (head name : Option PathBytes) (e : Option Entry) → g ≡ n → cond n head None ≡ cond n name None
      → moved side p (cond g head None) e ≡ cond n (moved side p name e) []
  lost p side g n head name e is same =
      ap (λ b. moved side p (cond b head None) e) is ∙ ap (λ v. moved side p v e) same ∙ moved_if n side p name e

  moves_of : (names gs : List Given) (p : PathBytes) (n1 n2 : Bool) (r : Rule)
      → is_named_loser (known_of conflict compare passes window1 window2 view) p One ≡ n1
      → is_named_loser (known_of conflict compare passes window1 window2 view) p Two ≡ n2
      → (is_conflict r && gets p One) ≡ n1 → (is_conflict r && gets p Two) ≡ n2
      → cond n1 (head_name gs p One) None ≡ cond n1 (name_for names p One) None
      → cond n2 (head_name (cond n1 (rest_names gs p One) gs) p Two) None ≡ cond n2 (name_for names p Two) None
      → moves_by conflict compare (cell_at (listings_of view) p) gs r ≡ moves_of_rule (known_of conflict compare passes window1 window2 view) names p r
  moves_of names gs p n1 n2 Nothing a b e f one two = refl
  moves_of names gs p n1 n2 (DeleteOn side) a b e f one two = refl
  moves_of names gs p n1 n2 (CopyFrom One) a b e f one two = refl
  moves_of names gs p n1 n2 (CopyFrom Two) a b e f one two = refl
  moves_of names gs p n1 n2 Conflict a b e f one two = λ i.
      (lost p One (gets p One) n1 (head_name gs p One) (name_for names p One) (look view.now1 p) e one ∙ ap (λ n. cond n (moved One p (name_for names p One) (look view.now1 p)) []) (sym a)) i
      ++ (ap (λ g. moved Two p (cond (gets p Two) (head_name (cond g (rest_names gs p One) gs) p Two) None) (look view.now2 p)) e
      ∙ lost p Two (gets p Two) n2 (head_name (cond n1 (rest_names gs p One) gs) p Two) (name_for names p Two) (look view.now2 p) f two ∙ ap (λ n. cond n (moved Two p (name_for names p Two) (look view.now2 p)) []) (sym b)) i
      ++ winner_of_cell p (winner_at (known_of conflict compare passes window1 window2 view) p) i

  rest_of : (gs : List Given) (p : PathBytes) (r : Rule) → rest_by conflict compare (cell_at (listings_of view) p) gs r
      ≡ cond (is_conflict r && gets p Two) (rest_names (cond (is_conflict r && gets p One) (rest_names gs p One) gs) p Two) (cond (is_conflict r && gets p One) (rest_names gs p One) gs)
  rest_of gs p Nothing = refl
  rest_of gs p (DeleteOn side) = refl
  rest_of gs p (CopyFrom from) = refl
  rest_of gs p Conflict = refl

  abbrev named : PathBytes → Side → Bool
  named p side = is_named_loser (known_of conflict compare passes window1 window2 view) p side

  abbrev left1 : PathBytes → List Given → List Given
  left1 p gs = cond (named p One) (rest_names gs p One) gs

  abbrev left2 : PathBytes → List Given → List Given
  left2 p gs = cond (named p Two) (rest_names (left1 p gs) p Two) (left1 p gs)

  pub moves_are : (names : List Given) (ps : List PathBytes) → AreRising ps → (taken : List PathBytes) (gs : List Given)
      → AreGiven (known_of conflict compare passes window1 window2 view) taken (flat_map (losers_at (known_of conflict compare passes window1 window2 view)) ps) gs
      → ((q : PathBytes) (s : Side) → is_among q ps ≡ true → name_for names q s ≡ name_for gs q s)
      → moves_with conflict compare (map (cell_at (listings_of view)) ps) gs
      ≡ flat_map (λ p. moves_of_rule (known_of conflict compare passes window1 window2 view) names p (rule_at (known_of conflict compare passes window1 window2 view) p)) ps
  moves_are names [] rising taken gs given same = refl
  moves_are names (p ∷ ps) rising taken gs given same = λ i. here i ++ (later ∙ moves_are names ps rising.1 second.taken (left2 p gs) second.given same') i
    where
      first : IsTaken (known_of conflict compare passes window1 window2 view) (named p One) One p
          (cond (named p Two) ((p, Two) ∷ []) [] ++ flat_map (losers_at (known_of conflict compare passes window1 window2 view)) ps) gs
      first = take_one _ _ One p _ taken gs
          (subst (λ ls. AreGiven (known_of conflict compare passes window1 window2 view) taken ls gs)
          (append_assoc (cond (named p One) ((p, One) ∷ []) []) (cond (named p Two) ((p, Two) ∷ []) []) (flat_map (losers_at (known_of conflict compare passes window1 window2 view)) ps))
          given)

      second : IsTaken (known_of conflict compare passes window1 window2 view) (named p Two) Two p (flat_map (losers_at (known_of conflict compare passes window1 window2 view)) ps) (left1 p gs)
      second = take_one _ _ Two p _ first.taken _ first.given

      at_p : (s : Side) → name_for names p s ≡ name_for gs p s
      at_p s = same p s (ap (λ t. t || is_among p ps) (path_is_itself p))

      one : cond (named p One) (head_name gs p One) None ≡ cond (named p One) (name_for names p One) None
      one = first.name ∙ ap (λ n. cond (named p One) n None) (sym (at_p One))

      two : cond (named p Two) (head_name (left1 p gs) p Two) None ≡ cond (named p Two) (name_for names p Two) None
      two = second.name ∙ ap (λ n. cond (named p Two) n None) (sym (first.others p Two (and_false_right (bytes_eq p p))) ∙ sym (at_p Two))

      rule : rule_in compare (cell_at (listings_of view) p) ≡ rule_at (known_of conflict compare passes window1 window2 view) p
      rule = rule_seen p

      here : moves_by conflict compare (cell_at (listings_of view) p) gs (rule_in compare (cell_at (listings_of view) p))
          ≡ moves_of_rule (known_of conflict compare passes window1 window2 view) names p (rule_at (known_of conflict compare passes window1 window2 view) p)
      here =
          ap (moves_by conflict compare (cell_at (listings_of view) p) gs) rule
          ∙ moves_of names gs p (named p One) (named p Two) (rule_at (known_of conflict compare passes window1 window2 view) p) refl refl refl refl one two

      left : rest_by conflict compare (cell_at (listings_of view) p) gs (rule_in compare (cell_at (listings_of view) p)) ≡ (left2 p gs)
      left =
          ap (rest_by conflict compare (cell_at (listings_of view) p) gs) rule
          ∙ rest_of gs p (rule_at (known_of conflict compare passes window1 window2 view) p)

      later : moves_with conflict compare (map (cell_at (listings_of view)) ps) (rest_by conflict compare (cell_at (listings_of view) p) gs (rule_in compare (cell_at (listings_of view) p)))
          ≡ moves_with conflict compare (map (cell_at (listings_of view)) ps) (left2 p gs)
      later = ap (moves_with conflict compare (map (cell_at (listings_of view)) ps)) left

      differs : (q : PathBytes) → is_among q ps ≡ true → bytes_eq q p ≡ false
      differs q h = go (bytes_eq q p) refl
        where
          go : (t : Bool) → bytes_eq q p ≡ t → t ≡ false
          go false e = refl
          go true e =
              let is : q ≡ p = same_path q p e in
              let there : is_among p ps ≡ true = subst (λ n. is_among n ps ≡ true) is h in
              let none = absent_below p ps rising.0 in cc

      apart : (q : PathBytes) (s side : Side) → is_among q ps ≡ true → (bytes_eq q p && is_side s side) ≡ false
      apart q s side h = ap (λ t. t && is_side s side) (differs q h)

      same' : (q : PathBytes) (s : Side) → is_among q ps ≡ true → name_for names q s ≡ name_for (left2 p gs) q s
      same' q s h = same q s (go (bytes_eq q p) h) ∙ first.others q s (apart q s One h) ∙ second.others q s (apart q s Two h)
        where
          go : (t : Bool) → is_among q ps ≡ true → (t || is_among q ps) ≡ true
          go true h = refl
          go false h = h
