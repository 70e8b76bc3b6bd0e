-- The steps of a plan find their files: those of each path alone, and so all of them.
use Rattle.std.proofs.Common.{◌≡◌, ◌≢◌, Bool, true, false, List, [], ◌∷◌, ◌++◌, Option, Some, None, refl, sym, ◌∙◌, subst}
use Rattle.std.specs.Prelude.{bytes_eq}
use Rattle.std.proofs.lemmas.List.{append-nil}
use Rattle.bisync_tree.specs.Rows.{PathBytes, is_among}
use Rattle.bisync_tree.specs.Side.{other}
use Rattle.bisync_tree.specs.Tree.{brought, entry}
use Rattle.bisync_tree.specs.declared.files.File.{File}
use Rattle.bisync_tree.specs.declared.sides.Side.{Side}
use Rattle.bisync_tree.specs.declared.sides.Side.TheVariants.{One, Two}
use Rattle.bisync_tree.specs.declared.classes.Rule.{Rule}
use Rattle.bisync_tree.specs.declared.classes.Rule.TheVariants.{Nothing, Copy as CopyFrom, Delete as DeleteOn, Conflict}
use Rattle.bisync_tree.specs.declared.steps.Given.{Given}
use Rattle.bisync_tree.specs.declared.steps.Step.TheVariants.{Copy, Rename}
use Rattle.bisync_tree.proofs.PathOrder.{other_path}
use Rattle.bisync_model.specs.Table.{rule_at}
use Rattle.bisync_model.specs.Conflict.{winner_at, is_named_loser}
use Rattle.bisync_model.specs.Names.{name_for, loser_named}
use Rattle.bisync_model.specs.Plan.{plan, copied, deleted, deletes_by, moves_by}
use Rattle.bisync_model.specs.Effects.{effect}
use Rattle.bisync_model.specs.Finds.{EachFindsFile}
use Rattle.bisync_model.proofs.ListedRun.{Run}
use Rattle.bisync_model.proofs.NamesInUse.{NamesOk, Region, unnamed}
use Rattle.bisync_model.proofs.RuleFacts.{copied_there, deleted_there, conflict_there, listed_as}
use Rattle.bisync_model.proofs.RegionSteps.{Distinct, owned_by, owned_all}
use Rattle.bisync_model.proofs.RegionsApart.{steps_at, owned, plan-owned, owned_apart, only-owned}
use Rattle.bisync_model.proofs.StepEffects.{either_side, other_other, Four, rename_four, copy_name_four, Six, Three, rename_one, copy_one, rename_two}
use Rattle.bisync_model.proofs.StepsOfOneConflict.{loses_winner, now_as, lost_by, named_apart, two_apart, free_name, steps_by, renamed_steps, both_renamed_steps}
use Rattle.bisync_model.proofs.FilesFound.{AllFind, AllOwners, AllOwners-append, owners-owned_by, owners-owned_all, find_owned}

module _ (run : Run) (names : List Given) (ok : NamesOk run names) where
  module _ (p : PathBytes) (plain : loser_named names p ≡ None) (e : rule_at run.known p ≡ Conflict) where
    renamed : (l : Side) (n : PathBytes) (fl fw : File) → name_for names p l ≡ Some n → run.start l p ≡ Some fl → run.start (other l) p ≡ Some fw
        → AllFind run (Rename l p n (entry run.known.policy.compare fl) ∷ Copy l n (entry run.known.policy.compare fl) ∷ Copy (other l) p (entry run.known.policy.compare fw) ∷ []) run.start
    renamed l n fl fw named sl sw =
        let pn : bytes_eq p n ≡ false = other_path p n (named_apart run names ok p plain e l n named) in
        let np : bytes_eq n p ≡ false = other_path n p (λ is. named_apart run names ok p plain e l n named (sym is)) in
        let h0 : Four l p n run.start (Some fl) (Some fw) None None = record { lp = sl; wp = sw; ln = free_name run names ok p plain e l n named l; wn = free_name run names ok p plain e l n named (other l) } in
        let h1 = rename_four run l p n pn np (entry run.known.policy.compare fl) fl run.start (Some fw) None None h0 in
        let h2 = copy_name_four run l p n pn np fl (effect run.known.policy.window (Rename l p n (entry run.known.policy.compare fl)) run.start) None (Some fw) None h1 in
        ((fl, sl, refl), ((fl, h1.ln, refl), ((fw, h2.wp, refl), tt)))

    both_renamed : (m n : PathBytes) (f1 f2 : File) → name_for names p One ≡ Some m → name_for names p Two ≡ Some n → run.start One p ≡ Some f1 → run.start Two p ≡ Some f2
        → AllFind run (Rename One p m (entry run.known.policy.compare f1) ∷ Copy One m (entry run.known.policy.compare f1) ∷ Rename Two p n (entry run.known.policy.compare f2) ∷ Copy Two n (entry run.known.policy.compare f2) ∷ []) run.start
    both_renamed m n f1 f2 named1 named2 s1 s2 =
        let apart : Three p m n = record {
          pm = other_path p m (named_apart run names ok p plain e One m named1);
          mp = other_path m p (λ is. named_apart run names ok p plain e One m named1 (sym is));
          pn = other_path p n (named_apart run names ok p plain e Two n named2);
          np = other_path n p (λ is. named_apart run names ok p plain e Two n named2 (sym is));
          mn = other_path m n (two_apart run names ok p plain e m n named1 named2);
          nm = other_path n m (λ is. two_apart run names ok p plain e m n named1 named2 (sym is));
        } in
        let h0 : Six p m n run.start (Some f1) (Some f2) None None None None = record {
          p1 = s1;
          p2 = s2;
          m1 = free_name run names ok p plain e One m named1 One;
          m2 = free_name run names ok p plain e One m named1 Two;
          n1 = free_name run names ok p plain e Two n named2 One;
          n2 = free_name run names ok p plain e Two n named2 Two;
        } in
        let h1 = rename_one run p m n apart (entry run.known.policy.compare f1) f1 run.start (Some f2) None None None None h0 in
        let h2 = copy_one run p m n apart f1 _ None (Some f2) None None None h1 in
        let h3 = rename_two run p m n apart (entry run.known.policy.compare f2) f2 _ None (Some f1) (Some (brought (run.known.policy.window Two) f1)) None None h2 in
        ((f1, s1, refl), ((f1, h1.m1, refl), ((f2, h2.p2, refl), ((f2, h3.n2, refl), tt))))

    conflict_finds : AllFind run (moves_by run.known names p Conflict) run.start
    conflict_finds = by_winner (winner_at run.known p) refl
      where
        kept_winner : (w : Side) → winner_at run.known p ≡ Some w → is_named_loser run.known p w ≡ false
        kept_winner w won = lost_by run names ok p plain e (Some w) won w ∙ loses_winner run.known.policy.loser w

        overwritten : (w : Side) → winner_at run.known p ≡ Some w → is_named_loser run.known p (other w) ≡ false → (f : File) × (run.start w p ≡ Some f)
            → AllFind run (moves_by run.known names p Conflict) run.start
        overwritten w won kept (f, is) =
            let nobody : (s : Side) → is_named_loser run.known p s ≡ false = either_side (λ s. is_named_loser run.known p s ≡ false) w (kept_winner w won) kept in
            subst (λ l. AllFind run l run.start)
            (sym (steps_by run names ok p plain e false false (Some w) (nobody One) (nobody Two) won ∙ (λ i. copied w p (now_as run names ok p plain e w f is i))))
            ((f, is, refl), tt)

        by_name : (l : Side) → winner_at run.known p ≡ Some (other l) → is_named_loser run.known p l ≡ true → (n : PathBytes) × (name_for names p l ≡ Some n)
            → (f : File) × (run.start l p ≡ Some f) → (f : File) × (run.start (other l) p ≡ Some f) → AllFind run (moves_by run.known names p Conflict) run.start
        by_name l won lost (n, named) (fl, sl) (fw, sw) =
            subst (λ s. AllFind run s run.start)
            (sym (renamed_steps run names ok p plain e l n fl fw lost (kept_winner (other l) won) won named sl sw))
            (renamed l n fl fw named sl sw)

        both : winner_at run.known p ≡ None → (n : PathBytes) × (name_for names p One ≡ Some n) → (n : PathBytes) × (name_for names p Two ≡ Some n)
            → (f : File) × (run.start One p ≡ Some f) → (f : File) × (run.start Two p ≡ Some f) → AllFind run (moves_by run.known names p Conflict) run.start
        both won (m, named1) (n, named2) (f1, s1) (f2, s2) =
            subst (λ s. AllFind run s run.start) (sym (both_renamed_steps run names ok p plain e m n f1 f2 won named1 named2 s1 s2)) (both_renamed m n f1 f2 named1 named2 s1 s2)

        by_loser : (l : Side) → winner_at run.known p ≡ Some (other l) → (b : Bool) → is_named_loser run.known p l ≡ b → AllFind run (moves_by run.known names p Conflict) run.start
        by_loser l won true lost = by_name l won lost (ok.total p l lost) (conflict_there run p l e) (conflict_there run p (other l) e)
        by_loser l won false kept =
            overwritten (other l) won (subst (λ s. is_named_loser run.known p s ≡ false) (sym (other_other l)) kept) (conflict_there run p (other l) e)

        by_winner : (w : Option Side) → winner_at run.known p ≡ w → AllFind run (moves_by run.known names p Conflict) run.start
        by_winner None won =
            both won (ok.total p One (lost_by run names ok p plain e None won One)) (ok.total p Two (lost_by run names ok p plain e None won Two)) (conflict_there run p One e) (conflict_there run p Two e)
        by_winner (Some One) won = by_loser Two won (is_named_loser run.known p Two) refl
        by_winner (Some Two) won = by_loser One won (is_named_loser run.known p One) refl

  copy_finds : (p : PathBytes) (from : Side) → rule_at run.known p ≡ CopyFrom from → (f : File) × (run.start from p ≡ Some f) → AllFind run (copied from p (run.known.now from p)) run.start
  copy_finds p from e (f, is) =
      subst (λ x. AllFind run (copied from p x) run.start) (sym (listed_as run p (CopyFrom from) e (λ x. cc) from (Some f) is)) ((f, is, refl), tt)

  delete_finds : (p : PathBytes) (side : Side) → rule_at run.known p ≡ DeleteOn side → (f : File) × (run.start side p ≡ Some f) → AllFind run (deleted side p (run.known.now side p)) run.start
  delete_finds p side e (f, is) =
      subst (λ x. AllFind run (deleted side p x) run.start) (sym (listed_as run p (DeleteOn side) e (λ x. cc) side (Some f) is)) ((f, is, refl), tt)

  path_finds : (p : PathBytes) → loser_named names p ≡ None → AllFind run (steps_at run names p) run.start
  path_finds p plain = go (rule_at run.known p) refl
    where
      go : (r : Rule) → rule_at run.known p ≡ r → AllFind run (deletes_by run.known p r ++ moves_by run.known names p r) run.start
      go Nothing e = tt
      go (CopyFrom from) e = copy_finds p from e (copied_there run p from e)
      go Conflict e = conflict_finds p plain e
      go (DeleteOn side) e =
          subst (λ l. AllFind run l run.start) (sym (append-nil (deletes_by run.known p (DeleteOn side)))) (delete_finds p side e (deleted_there run p side e))

  abbrev Plain : PathBytes → Type 0
  Plain p = loser_named names p ≡ None

  deletes_plain : (q : PathBytes) (r : Rule) → rule_at run.known q ≡ r → AllOwners Plain (owned_by q (deletes_by run.known q r))
  unfolding owned_by
  deletes_plain q Nothing e = tt
  deletes_plain q (CopyFrom from) e = tt
  deletes_plain q Conflict e = tt
  deletes_plain q (DeleteOn side) e =
      owners-owned_by Plain q (deletes_by run.known q (DeleteOn side)) (unnamed run names ok q (λ is. let c : DeleteOn side ≡ Nothing = sym e ∙ is in cc))

  moves_plain : (q : PathBytes) (r : Rule) → rule_at run.known q ≡ r → AllOwners Plain (owned_by q (moves_by run.known names q r))
  unfolding owned_by
  moves_plain q Nothing e = tt
  moves_plain q (DeleteOn side) e = tt
  moves_plain q (CopyFrom from) e =
      owners-owned_by Plain q (moves_by run.known names q (CopyFrom from)) (unnamed run names ok q (λ is. let c : CopyFrom from ≡ Nothing = sym e ∙ is in cc))
  moves_plain q Conflict e =
      owners-owned_by Plain q (moves_by run.known names q Conflict) (unnamed run names ok q (λ is. let c : Conflict ≡ Nothing = sym e ∙ is in cc))

  owned_plain : (paths : List PathBytes) → AllOwners Plain (owned run names paths)
  owned_plain paths =
      AllOwners-append Plain (owned_all (λ q. deletes_by run.known q (rule_at run.known q)) paths) (owned_all (λ q. moves_by run.known names q (rule_at run.known q)) paths)
      (owners-owned_all Plain (λ q. deletes_by run.known q (rule_at run.known q)) paths (λ q. deletes_plain q (rule_at run.known q) refl))
      (owners-owned_all Plain (λ q. moves_by run.known names q (rule_at run.known q)) paths (λ q. moves_plain q (rule_at run.known q) refl))

  pub plan_finds : (paths : List PathBytes) → Distinct paths → ((p : PathBytes) → rule_at run.known p ≢ Nothing → is_among p paths ≡ true)
      → EachFindsFile run.known.policy (plan run.known names paths) run.start
  plan_finds paths distinct covered =
      subst (λ l. EachFindsFile run.known.policy l run.start) (plan-owned run names paths)
      (find_owned run (Region names) Plain (owned run names paths) (owned_plain paths)
      (λ p plain. owned_apart run names ok p plain paths)
      (λ p plain. subst (λ l. AllFind run l run.start) (sym (only-owned run names ok p plain paths distinct (covered p))) (path_finds p plain)))
