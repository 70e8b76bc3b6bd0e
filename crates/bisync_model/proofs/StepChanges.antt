-- The steps of a path make the changes of the table.
use Rattle.std.proofs.Common.{◌≡◌, ℕ, ◌+◌, Bool, true, false, cond, List, [], ◌∷◌, Option, Some, None, refl, sym, ◌∙◌, ap, arith}
use Rattle.std.specs.Prelude.{sum_by, flat_map}
use Rattle.std.proofs.lemmas.List.Sums.{sum_by-append, sum_by-cons}
use Rattle.bisync_tree.specs.Rows.{PathBytes}
use Rattle.bisync_tree.specs.declared.files.File.{File}
use Rattle.bisync_tree.specs.Side.{other, is_side}
use Rattle.bisync_tree.specs.Tree.{entry}
use Rattle.bisync_tree.specs.declared.steps.Given.{Given}
use Rattle.bisync_tree.specs.declared.steps.Step.{Step}
use Rattle.bisync_tree.specs.declared.steps.Step.TheVariants.{Copy, Delete}
use Rattle.bisync_tree.specs.declared.sides.Side.{Side}
use Rattle.bisync_tree.specs.declared.sides.Side.TheVariants.{One, Two}
use Rattle.bisync_tree.specs.declared.entries.Entry.{Entry}
use Rattle.bisync_tree.specs.declared.classes.Rule.{Rule}
use Rattle.bisync_tree.specs.declared.classes.Rule.TheVariants.{Nothing, Copy as CopyFrom, Delete as DeleteOn, Conflict}
use Rattle.bisync_model.specs.Table.{rule_at}
use Rattle.bisync_tree.specs.declared.options.Loser.{Loser}
use Rattle.bisync_tree.specs.declared.options.Loser.TheVariants.{Num, Pathname, Delete as DeleteLoser}
use Rattle.bisync_model.specs.Conflict.{winner_at, gets_name, is_named_loser}
use Rattle.bisync_model.specs.Names.{loser_named, name_for}
use Rattle.bisync_model.specs.Plan.{plan, copied, deleted, deletes_by, moves_by}
use Rattle.bisync_model.specs.Changes.{changes_of, changes_by, changes_at, conflict_changes}
use Rattle.bisync_model.proofs.ListedRun.{Run}
use Rattle.bisync_model.proofs.NamesInUse.{NamesOk, unnamed}
use Rattle.bisync_model.proofs.RuleFacts.{copied_there, deleted_there, conflict_there, listed_as}
use Rattle.bisync_model.proofs.StepsOfOneConflict.{steps_by, lost_by, loses_winner, renamed_steps, both_renamed_steps, now_as}

abbrev count : Side → List Step → ℕ
count side steps = sum_by (changes_of side) steps

copy_count : (from side : Side) (p : PathBytes) (e : Entry) → 0 + count side (Copy from p e ∷ []) ≡ cond (is_side side (other from)) 1 0
copy_count One One p e = refl
copy_count One Two p e = refl
copy_count Two One p e = refl
copy_count Two Two p e = refl

delete_count : (on side : Side) (p : PathBytes) (e : Entry) → count side (Delete on p e ∷ []) + 0 ≡ cond (is_side side on) 1 0
delete_count One One p e = refl
delete_count One Two p e = refl
delete_count Two One p e = refl
delete_count Two Two p e = refl

-- of a conflict with this winner, by whether its loser gets a name
abbrev counted : Side → Bool → Side → ℕ
counted winner true side = cond (is_side side winner) 1 2
counted winner false side = cond (is_side side winner) 0 1

counted_is : (loser : Loser) (w side : Side) → counted w (gets_name loser (Some w) (other w)) side ≡ conflict_changes loser (Some w) side
counted_is Num One side = refl
counted_is Num Two side = refl
counted_is Pathname One side = refl
counted_is Pathname Two side = refl
counted_is DeleteLoser w side = refl

-- a sum over two passes over the paths
two_passes : (f : Step → ℕ) (g : PathBytes → ℕ) (D M : PathBytes → List Step) → ((p : PathBytes) → sum_by f (D p) + sum_by f (M p) ≡ g p) → (ps : List PathBytes)
    → sum_by f (flat_map D ps) + sum_by f (flat_map M ps) ≡ sum_by g ps
two_passes f g D M h [] = refl
two_passes f g D M h (p ∷ ps) =
    omega (arith, two_passes f g D M h ps, h p, sum_by-append f (D p) (flat_map D ps), sum_by-append f (M p) (flat_map M ps), sum_by-cons g p ps)

module _ (run : Run) (names : List Given) (ok : NamesOk run names) where
  module _ (p : PathBytes) (e : rule_at run.known p ≡ Conflict) where
    plain : loser_named names p ≡ None
    plain = unnamed run names ok p (λ is. let c = sym is ∙ e in cc)

    both : (side : Side) → winner_at run.known p ≡ None → (n : PathBytes) × (name_for names p One ≡ Some n) → (n : PathBytes) × (name_for names p Two ≡ Some n)
        → (f : File) × (run.start One p ≡ Some f) → (f : File) × (run.start Two p ≡ Some f) → count side (moves_by run.known names p Conflict) ≡ 2
    both One won (m, named1) (n, named2) (f1, s1) (f2, s2) = ap (λ l. sum_by (changes_of One) l) (both_renamed_steps run names ok p plain e m n f1 f2 won named1 named2 s1 s2)
    both Two won (m, named1) (n, named2) (f1, s1) (f2, s2) = ap (λ l. sum_by (changes_of Two) l) (both_renamed_steps run names ok p plain e m n f1 f2 won named1 named2 s1 s2)

    winner_unnamed : (w : Side) → winner_at run.known p ≡ Some w → is_named_loser run.known p w ≡ false
    winner_unnamed w won = lost_by run names ok p plain e (Some w) won w ∙ loses_winner run.known.policy.loser w

    named : (w side : Side) → winner_at run.known p ≡ Some w → is_named_loser run.known p (other w) ≡ true → (n : PathBytes) × (name_for names p (other w) ≡ Some n)
        → (f : File) × (run.start One p ≡ Some f) → (f : File) × (run.start Two p ≡ Some f) → count side (moves_by run.known names p Conflict) ≡ counted w true side
    named One One won lost (n, is) (f1, s1) (f2, s2) = ap (λ l. sum_by (changes_of One) l) (renamed_steps run names ok p plain e Two n f2 f1 lost (winner_unnamed One won) won is s2 s1)
    named One Two won lost (n, is) (f1, s1) (f2, s2) = ap (λ l. sum_by (changes_of Two) l) (renamed_steps run names ok p plain e Two n f2 f1 lost (winner_unnamed One won) won is s2 s1)
    named Two One won lost (n, is) (f1, s1) (f2, s2) = ap (λ l. sum_by (changes_of One) l) (renamed_steps run names ok p plain e One n f1 f2 lost (winner_unnamed Two won) won is s1 s2)
    named Two Two won lost (n, is) (f1, s1) (f2, s2) = ap (λ l. sum_by (changes_of Two) l) (renamed_steps run names ok p plain e One n f1 f2 lost (winner_unnamed Two won) won is s1 s2)

    over : (w side : Side) → winner_at run.known p ≡ Some w → is_named_loser run.known p (other w) ≡ false
        → (f : File) × (run.start w p ≡ Some f) → count side (moves_by run.known names p Conflict) ≡ counted w false side
    over One One won kept (f, s) = ap (λ l. sum_by (changes_of One) l) (steps_by run names ok p plain e false false (Some One) (winner_unnamed One won) kept won ∙ (λ i. copied One p (now_as run names ok p plain e One f s i)))
    over One Two won kept (f, s) = ap (λ l. sum_by (changes_of Two) l) (steps_by run names ok p plain e false false (Some One) (winner_unnamed One won) kept won ∙ (λ i. copied One p (now_as run names ok p plain e One f s i)))
    over Two One won kept (f, s) = ap (λ l. sum_by (changes_of One) l) (steps_by run names ok p plain e false false (Some Two) kept (winner_unnamed Two won) won ∙ (λ i. copied Two p (now_as run names ok p plain e Two f s i)))
    over Two Two won kept (f, s) = ap (λ l. sum_by (changes_of Two) l) (steps_by run names ok p plain e false false (Some Two) kept (winner_unnamed Two won) won ∙ (λ i. copied Two p (now_as run names ok p plain e Two f s i)))

    conflict_count : (side : Side) → count side (moves_by run.known names p Conflict)
        ≡ conflict_changes run.known.policy.loser (winner_at run.known p) side
    conflict_count side = by_winner (winner_at run.known p) refl
      where
        by_loser : (w : Side) → winner_at run.known p ≡ Some w → (b : Bool) → is_named_loser run.known p (other w) ≡ b → count side (moves_by run.known names p Conflict) ≡ counted w b side
        by_loser w won true lost = named w side won lost (ok.total p (other w) lost) (conflict_there run p One e) (conflict_there run p Two e)
        by_loser w won false kept = over w side won kept (conflict_there run p w e)

        by_winner : (w : Option Side) → winner_at run.known p ≡ w → count side (moves_by run.known names p Conflict) ≡ conflict_changes run.known.policy.loser w side
        by_winner None won = both side won (ok.total p One (lost_by run names ok p plain e None won One)) (ok.total p Two (lost_by run names ok p plain e None won Two)) (conflict_there run p One e) (conflict_there run p Two e)
        by_winner (Some w) won =
            by_loser w won (is_named_loser run.known p (other w)) refl
            ∙ ap (λ b. counted w b side) (lost_by run names ok p plain e (Some w) won (other w)) ∙ counted_is run.known.policy.loser w side

  path_count : (p : PathBytes) (side : Side) → count side (deletes_by run.known p (rule_at run.known p)) + count side (moves_by run.known names p (rule_at run.known p)) ≡ changes_at run.known side p
  path_count p side = go (rule_at run.known p) refl
    where
      plus_zero : (n : ℕ) → 0 + n ≡ n
      plus_zero n = omega arith

      zero_plus : (n : ℕ) → n + 0 ≡ n
      zero_plus n = omega arith

      go : (r : Rule) → rule_at run.known p ≡ r → count side (deletes_by run.known p r) + count side (moves_by run.known names p r) ≡ changes_by run.known r p side
      go Nothing e = refl
      go (CopyFrom from) e = copy from (copied_there run p from e) e
        where
          copy : (from : Side) → (f : File) × (run.start from p ≡ Some f) → rule_at run.known p ≡ CopyFrom from → 0 + count side (copied from p (run.known.now from p)) ≡ cond (is_side side (other from)) 1 0
          copy from (f, s) e = ap (λ v. 0 + count side (copied from p v)) (listed_as run p (CopyFrom from) e (λ x. cc) from (Some f) s) ∙ copy_count from side p (entry run.known.policy.compare f)
      go (DeleteOn on) e = del on (deleted_there run p on e) e
        where
          del : (on : Side) → (f : File) × (run.start on p ≡ Some f) → rule_at run.known p ≡ DeleteOn on → count side (deleted on p (run.known.now on p)) + 0 ≡ cond (is_side side on) 1 0
          del on (f, s) e = ap (λ v. count side (deleted on p v) + 0) (listed_as run p (DeleteOn on) e (λ x. cc) on (Some f) s) ∙ delete_count on side p (entry run.known.policy.compare f)
      go Conflict e = (plus_zero _ ∙ conflict_count p e side)

  pub plan_count : (paths : List PathBytes) (side : Side) → count side (plan run.known names paths) ≡ sum_by (changes_at run.known side) paths
  plan_count paths side =
      sum_by-append (changes_of side) (flat_map (λ p. deletes_by run.known p (rule_at run.known p)) paths) (flat_map (λ p. moves_by run.known names p (rule_at run.known p)) paths)
      ∙ two_passes (changes_of side) (changes_at run.known side) (λ p. deletes_by run.known p (rule_at run.known p)) (λ p. moves_by run.known names p (rule_at run.known p)) (λ p. path_count p side) paths
