-- A version that is safe at the start is safe in all trees between start and outcome.
use Rattle.std.proofs.Common.{◌≡◌, ◌≢◌, ◌⊎◌, ℕ, Bool, true, false, cond, List, Option, Some, None, refl, sym, ◌∙◌, ap, subst, inl, inr}
use Rattle.std.specs.Prelude.{option_map}
use Rattle.bisync_tree.specs.Rows.{PathBytes}
use Rattle.bisync_tree.specs.declared.files.File.{File}
use Rattle.bisync_tree.specs.Side.{other}
use Rattle.bisync_tree.specs.Tree.{entry}
use Rattle.bisync_tree.specs.Same.{class}
use Rattle.bisync_tree.specs.declared.steps.Given.{Given}
use Rattle.bisync_tree.specs.declared.sides.Side.{Side}
use Rattle.bisync_tree.specs.declared.sides.Side.TheVariants.{One, Two}
use Rattle.bisync_tree.specs.declared.classes.Class.{Class}
use Rattle.bisync_tree.specs.declared.classes.Class.TheVariants.{Quiet, Fresh, Gone}
use Rattle.bisync_tree.specs.declared.classes.Rule.{Rule}
use Rattle.bisync_tree.specs.declared.classes.Rule.TheVariants.{Nothing, Copy as CopyFrom, Delete as DeleteOn, Conflict}
use Rattle.bisync_tree.specs.declared.options.Loser.{Loser}
use Rattle.bisync_tree.specs.declared.options.Loser.TheVariants.{Num, Pathname, Delete as DeleteLoser}
use Rattle.bisync_model.specs.Trees.{Trees}
use Rattle.bisync_model.specs.Table.{rule_at, table, class_now}
use Rattle.bisync_model.proofs.ListedRun.{Run, is_named}
use Rattle.bisync_model.specs.Names.{name_for, loser_named}
use Rattle.bisync_model.specs.Conflict.{is_named_loser, gets_name, winner_at}
use Rattle.bisync_model.specs.Outcome.{carried, settled, by_rule, by_name}
use Rattle.bisync_model.specs.Between.{IsMovedAway, IsBetween}
use Rattle.bisync_model.specs.Safe.{class_in, IsSafe}
use Rattle.bisync_model.proofs.NamesInUse.{NamesOk}
use Rattle.bisync_model.proofs.RuleFacts.{class_present, rule_says, done_passes}
use Rattle.bisync_model.proofs.StepEffects.{either_side}
use Rattle.bisync_model.proofs.StepsOfOnePath.{carried_own}
use Rattle.bisync_model.proofs.SuffixNames.{name_of_name}

there_from : (v : Option File) (bytes : List ℕ) → option_map (λ file. file.bytes) v ≡ Some bytes → (f : File) × (v ≡ Some f)
there_from None bytes e = cc
there_from (Some f) bytes e = (f, refl)

loses_other : (loser : Loser) (w : Side) → loser ≢ DeleteLoser → gets_name loser (Some w) (other w) ≡ true
loses_other DeleteLoser w ne = absurd (ne refl)
loses_other Num One ne = refl
loses_other Num Two ne = refl
loses_other Pathname One ne = refl
loses_other Pathname Two ne = refl

abbrev Safe : Run → Trees → PathBytes → List ℕ → Type 0
Safe run trees p bytes = IsSafe run.known.policy (Some run.known.base) trees p bytes

-- a class against the run's base
abbrev class_at : Run → Trees → Side → PathBytes → Class
class_at run trees s n = class_in run.known.policy run.known.base trees s n

new_class : (run : Run) (T : Trees) (s : Side) (n : PathBytes) (f : File) → run.known.base s n ≡ None → T s n ≡ Some f → class_at run T s n ≢ Quiet
new_class run T s n f base there = rw (base, there) (λ e. cc)

module _ (run : Run) (names : List Given) (ok : NamesOk run names) (named_loser : run.known.policy.loser ≢ DeleteLoser) (T : Trees) (between : IsBetween run.known run.start names T) where
  held_plain : (s : Side) (n : PathBytes) (f : File) → run.start s n ≡ Some f → loser_named names n ≡ None
  held_plain s n f there = go (loser_named names n) refl
    where
      missing : (s : Side) (g : Given) → loser_named names n ≡ Some g → run.start s n ≡ None
      missing One g e = (ok.free g n e).start1
      missing Two g e = (ok.free g n e).start2

      go : (v : Option Given) → loser_named names n ≡ v → v ≡ None
      go None e = refl
      go (Some g) e = let gone = missing s g e in cc

  -- the side's file is in its place, or under a name
  abbrev StillThere : Side → PathBytes → Type 0
  StillThere s n = (T s n ≡ run.start s n) ⊎ ((m : PathBytes) × (name_for names n s ≡ Some m) × (T s m ≡ run.start s n))

  -- where the rule leaves the side as it was, it is as it was
  unchanged : (s : Side) (n : PathBytes) → loser_named names n ≡ None → by_rule run.known run.start (rule_at run.known n) n s ≡ run.start s n → (IsMovedAway run.known T s n → ⊥) → T s n ≡ run.start s n
  unchanged s n plain keeps stays = go (between.files s n)
    where
      go : (T s n ≡ run.start s n) ⊎ (T s n ≡ by_name run.known run.start (loser_named names n) n s) ⊎ IsMovedAway run.known T s n → T s n ≡ run.start s n
      go (inl x) = x
      go (inr (inl x)) = x ∙ ap (λ v. by_name run.known run.start v n s) plain ∙ keeps
      go (inr (inr m)) = absurd (stays m)

  moved_in_conflict : (r : Rule) (n : PathBytes) (s : Side) → rule_at run.known n ≡ r → r ≢ Conflict → IsMovedAway run.known T s n → ⊥
  moved_in_conflict r n s e ne m = go r ne (subst (λ r. is_named r run.known.policy.loser (winner_at run.known n) s ≡ true) e m.lost)
    where
      go : (r : Rule) → r ≢ Conflict → is_named r run.known.policy.loser (winner_at run.known n) s ≡ true → ⊥
      go Nothing ne t = cc
      go (CopyFrom from) ne t = cc
      go (DeleteOn side) ne t = cc
      go Conflict ne t = ne refl

  unchanged_by_nothing : (s : Side) (n : PathBytes) → loser_named names n ≡ None → rule_at run.known n ≡ Nothing → T s n ≡ run.start s n
  unchanged_by_nothing s n plain e = unchanged s n plain (ap (λ r. by_rule run.known run.start r n s) e) (moved_in_conflict Nothing n s e (λ x. cc))

  -- a fresh file is in its place, or under its name
  fresh_kept : (s : Side) (n : PathBytes) → loser_named names n ≡ None → class_at run run.start s n ≡ Fresh
      → StillThere s n
  fresh_kept s n plain fresh = by (rule_at run.known n) refl
    where
      copied : (from : Side) → rule_at run.known n ≡ CopyFrom from → s ≡ from → T s n ≡ run.start s n
      copied from e is = unchanged s n plain (ap (λ r. by_rule run.known run.start r n s) e ∙ ap (λ f. carried run.known run.start f n s) (sym is) ∙ carried_own run s n) (moved_in_conflict (CopyFrom from) n s e (λ x. cc))

      fresh_now : (s : Side) (r : Rule) → rule_at run.known n ≡ r → r ≢ Nothing → class_at run run.start s n ≡ Fresh → class_now run.known s n ≡ Fresh
      fresh_now s r e ne fresh = ap (λ v. class run.known.policy.compare (run.known.base s n) v) (run.listed.now s n (done_passes run n r e ne)) ∙ fresh

      source : (s from : Side) → class_at run run.start s n ≡ Fresh → rule_at run.known n ≡ CopyFrom from → s ≡ from
      source One One fresh e = refl
      source Two Two fresh e = refl
      source One Two fresh e = absurd ((rule_says run n (CopyFrom Two) e).0 (fresh_now One (CopyFrom Two) e (λ x. cc) fresh))
      source Two One fresh e = absurd ((rule_says run n (CopyFrom One) e).1 (fresh_now Two (CopyFrom One) e (λ x. cc) fresh))

      deleted : (s side : Side) → class_at run run.start s n ≡ Fresh → rule_at run.known n ≡ DeleteOn side → ⊥
      deleted One One fresh e = let k = (rule_says run n (DeleteOn One) e).0 in let f = fresh_now One (DeleteOn One) e (λ x. cc) fresh in cc
      deleted Two One fresh e = let k = (rule_says run n (DeleteOn One) e).1 in let f = fresh_now Two (DeleteOn One) e (λ x. cc) fresh in cc
      deleted One Two fresh e = let k = (rule_says run n (DeleteOn Two) e).0 in let f = fresh_now One (DeleteOn Two) e (λ x. cc) fresh in cc
      deleted Two Two fresh e = let k = (rule_says run n (DeleteOn Two) e).1 in let f = fresh_now Two (DeleteOn Two) e (λ x. cc) fresh in cc

      lost : is_named_loser run.known n s ≡ true → StillThere s n
      lost is = go (ok.total n s is)
        where
          go : (m : PathBytes) × (name_for names n s ≡ Some m) → StillThere s n
          go (m, named) = pick (between.losers s n m is named)
            where
              pick : (T s n ≡ run.start s n) ⊎ (T s m ≡ run.start s n) → StillThere s n
              pick (inl x) = inl x
              pick (inr x) = inr (m, named, x)

      lost_by : rule_at run.known n ≡ Conflict → (w : Option Side) → winner_at run.known n ≡ w → is_named_loser run.known n s ≡ gets_name run.known.policy.loser w s
      lost_by e w won = λ i. is_named (e i) run.known.policy.loser (won i) s

      won_by : rule_at run.known n ≡ Conflict → winner_at run.known n ≡ Some s → T s n ≡ run.start s n
      won_by e won = unchanged s n plain (ap (λ r. by_rule run.known run.start r n s) e ∙ ap (λ w. settled run.known run.start w n s) won ∙ carried_own run s n)
          (λ m. not_self s (some_side (sym won ∙ m.won)))
        where
          not_self : (s : Side) → s ≡ other s → ⊥
          not_self One e = cc
          not_self Two e = cc

          some_side : {a b : Side} → ◌≡◌ {A = Option Side} (Some a) (Some b) → a ≡ b
          some_side e = cc

      conflict : rule_at run.known n ≡ Conflict → (w : Option Side) → winner_at run.known n ≡ w → StillThere s n
      conflict e None won = lost (lost_by e None won)
      conflict e (Some w) won =
          either_side (λ t. s ≡ t → StillThere s n) w
          (λ is. inl (won_by e (won ∙ ap (λ t. Some t) (sym is))))
          (λ is. lost (lost_by e (Some w) won ∙ ap (λ t. gets_name run.known.policy.loser (Some w) t) is ∙ loses_other run.known.policy.loser w named_loser))
          s refl

      by : (r : Rule) → rule_at run.known n ≡ r → StillThere s n
      by Nothing e = inl (unchanged_by_nothing s n plain e)
      by (CopyFrom from) e = inl (copied from e (source s from fresh e))
      by (DeleteOn side) e = absurd (deleted s side fresh e)
      by Conflict e = conflict e (winner_at run.known n) refl

  quiet_nothing : (n : PathBytes) → class_at run run.start One n ≡ Quiet → class_at run run.start Two n ≡ Quiet → rule_at run.known n ≡ Nothing
  quiet_nothing n q1 q2 = go (run.known.policy.passes n) refl
    where
      now : (s : Side) → run.known.policy.passes n ≡ true → class_now run.known s n ≡ class_at run run.start s n
      now s e = ap (λ v. class run.known.policy.compare (run.known.base s n) v) (run.listed.now s n e)

      go : (b : Bool) → run.known.policy.passes n ≡ b → cond b (table run.known.policy.compare (class_now run.known One n) (class_now run.known Two n) (run.known.now One n) (run.known.now Two n)) Nothing ≡ Nothing
      go true e = λ i. table run.known.policy.compare ((now One e ∙ q1) i) ((now Two e ∙ q2) i) (run.known.now One n) (run.known.now Two n)
      go false e = refl

  filtered_nothing : (n : PathBytes) → run.known.policy.passes n ≡ false → rule_at run.known n ≡ Nothing
  filtered_nothing n out = ap (λ b. cond b (table run.known.policy.compare (class_now run.known One n) (class_now run.known Two n) (run.known.now One n) (run.known.now Two n)) Nothing) out

  pub safe_kept : (p : PathBytes) (bytes : List ℕ) → Safe run run.start p bytes → Safe run T p bytes
  safe_kept p bytes safe = at (there_from (run.start s n) bytes safe.held)
    where
      s : Side
      s = safe.side

      n : PathBytes
      n = safe.name

      in_place : T s n ≡ run.start s n → (run.known.policy.passes n ≡ false) ⊎ (class_at run T s n ≢ Quiet)
          ⊎ ((class_at run T One n ≡ Quiet) × (class_at run T Two n ≡ Quiet)) → Safe run T p bytes
      in_place same kept = record { side = s; name = n; named = safe.named; held = ap (λ v. option_map (λ file. file.bytes) v) same ∙ safe.held; kept = kept }

      fresh_from : (f : File) → run.start s n ≡ Some f → class_at run run.start s n ≢ Quiet → class_at run run.start s n ≡ Fresh
      fresh_from f there ne = go (class_at run run.start s n) ne (λ gone. class_present run.known.policy.compare (run.known.base s n) (entry run.known.policy.compare f) (ap (λ v. class run.known.policy.compare (run.known.base s n) (option_map (entry run.known.policy.compare) v)) (sym there) ∙ gone))
        where
          go : (k : Class) → k ≢ Quiet → k ≢ Gone → k ≡ Fresh
          go Quiet ne here = absurd (ne refl)
          go Gone ne here = absurd (here refl)
          go Fresh ne here = refl

      at : (f : File) × (run.start s n ≡ Some f) → Safe run T p bytes
      at (f, there) = by safe.kept
        where
          plain : loser_named names n ≡ None
          plain = held_plain s n f there

          class_same : (t : Side) → T t n ≡ run.start t n → class_at run T t n ≡ class_at run run.start t n
          class_same t same = ap (λ v. class run.known.policy.compare (run.known.base t n) (option_map (entry run.known.policy.compare) v)) same

          moved : StillThere s n → class_at run run.start s n ≢ Quiet → Safe run T p bytes
          moved (inl same) ne = in_place same (inr (inl (λ q. ne (sym (class_same s same) ∙ q))))
          moved (inr (m, named, x)) ne =
              let free = ok.free (record { path = n; side = s; name = m }) m (ok.to_loser n s m named) in
              let place = ok.place n s m named in
              let suffixed = name_of_name run.known.policy p n safe.named s place.0 in
              record {
                side = s;
                name = m;
                named = (suffixed.0, suffixed.1 ∙ sym place.1);
                held = ap (λ v. option_map (λ file. file.bytes) v) x ∙ safe.held;
                kept = inr (inl (new_class run T s m f (either_side (λ t. run.known.base t m ≡ None) One free.base1 free.base2 s) (x ∙ there)));
              }

          by : (run.known.policy.passes n ≡ false) ⊎ (class_at run run.start s n ≢ Quiet) ⊎ ((class_at run run.start One n ≡ Quiet) × (class_at run run.start Two n ≡ Quiet)) → Safe run T p bytes
          by (inl out) = in_place (unchanged_by_nothing s n plain (filtered_nothing n out)) (inl out)
          by (inr (inl ne)) = moved (fresh_kept s n plain (fresh_from f there ne)) ne
          by (inr (inr (q1, q2))) =
              let same : (t : Side) → T t n ≡ run.start t n = λ t. unchanged_by_nothing t n plain (quiet_nothing n q1 q2) in
              in_place (same s) (inr (inr (class_same One (same One) ∙ q1, class_same Two (same Two) ∙ q2)))
