-- The steps of a path in conflict: where each prefix leaves the path and its names, and where they all do.
use Rattle.std.proofs.Common.{◌≡◌, ◌≢◌, ◌⊎◌, Bool, true, false, cond, List, [], ◌∷◌, ◌++◌, Option, Some, None, refl, sym, ◌∙◌, ap, subst, inl, inr}
use Rattle.std.specs.Prelude.{bytes_eq, option_map}
use Rattle.bisync_tree.specs.Rows.{PathBytes}
use Rattle.bisync_tree.specs.declared.files.File.{File}
use Rattle.bisync_tree.specs.Side.{other}
use Rattle.bisync_tree.specs.Tree.{brought, entry}
use Rattle.bisync_tree.specs.declared.steps.Given.{Given}
use Rattle.bisync_tree.specs.declared.steps.Step.TheVariants.{Copy, Rename}
use Rattle.bisync_tree.specs.declared.sides.Side.{Side}
use Rattle.bisync_tree.specs.declared.sides.Side.TheVariants.{One, Two}
use Rattle.bisync_tree.specs.declared.classes.Rule.TheVariants.{Conflict}
use Rattle.bisync_tree.specs.declared.options.Loser.{Loser}
use Rattle.bisync_tree.specs.declared.options.Loser.TheVariants.{Num, Pathname, Delete as DeleteLoser}
use Rattle.bisync_tree.proofs.PathOrder.{other_path}
use Rattle.bisync_model.specs.Trees.{Trees, put_at}
use Rattle.bisync_model.specs.Table.{rule_at}
use Rattle.bisync_model.proofs.ListedRun.{Run, is_named}
use Rattle.bisync_model.specs.Conflict.{winner_at, is_named_loser, gets_name}
use Rattle.bisync_model.specs.Names.{name_for, loser_named}
use Rattle.bisync_model.specs.Outcome.{carried, settled, by_rule}
use Rattle.bisync_model.specs.Plan.{copied, moved, winner_steps, moves_by}
use Rattle.bisync_model.specs.Effects.{effect}
use Rattle.bisync_model.proofs.NamesInUse.{NamesOk}
use Rattle.bisync_model.proofs.RuleFacts.{conflict_there, listed_as}
use Rattle.bisync_model.proofs.StepEffects.{put_same, put_across, either_side, other_other, copy_there, Four, rename_four, copy_name_four, copy_winner_four, Six, Three, rename_one, copy_one, rename_two, copy_two}
use Rattle.bisync_model.proofs.StepsOfOnePath.{AtPath, AtName, NotLost, Progress, Finished, Done, carried_own, carried_away, carried_across, lost_if_named, one_step}

pub loses_winner : (loser : Loser) (w : Side) → gets_name loser (Some w) w ≡ false
loses_winner DeleteLoser w = refl
loses_winner Num One = refl
loses_winner Num Two = refl
loses_winner Pathname One = refl
loses_winner Pathname Two = refl

module _ (run : Run) (names : List Given) (ok : NamesOk run names) (p : PathBytes) (plain : loser_named names p ≡ None) (e : rule_at run.known p ≡ Conflict) where
  pub now_as : (s : Side) (f : File) → run.start s p ≡ Some f → run.known.now s p ≡ Some (entry run.known.policy.compare f)
  now_as s f there = listed_as run p Conflict e (λ x. cc) s (Some f) there

  pub lost_by : (w : Option Side) → winner_at run.known p ≡ w → (s : Side) → is_named_loser run.known p s ≡ gets_name run.known.policy.loser w s
  lost_by w won s = λ i. is_named (e i) run.known.policy.loser (won i) s

  settled_by : (w : Option Side) → winner_at run.known p ≡ w → (s : Side) → settled run.known run.start w p s ≡ by_rule run.known run.start (rule_at run.known p) p s
  settled_by w won s = sym ((λ i. by_rule run.known run.start (e i) p s) ∙ ap (λ w. settled run.known run.start w p s) won)

  pub named_apart : (l : Side) (n : PathBytes) → name_for names p l ≡ Some n → p ≢ n
  named_apart l n named is = let there = ok.to_loser p l n named in let here : loser_named names n ≡ None = ap (loser_named names) (sym is) ∙ plain in cc

  pub two_apart : (m n : PathBytes) → name_for names p One ≡ Some m → name_for names p Two ≡ Some n → m ≢ n
  two_apart m n a b is = sides m n (sym (ok.to_loser p One m a) ∙ ap (loser_named names) is ∙ ok.to_loser p Two n b)
    where
      side_or : Side → Option Given → Side
      side_or s None = s
      side_or s (Some g) = g.side

      sides : (m n : PathBytes) → ◌≡◌ {A = Option Given} (Some (record { path = p; side = One; name = m })) (Some (record { path = p; side = Two; name = n })) → ⊥
      sides m n e = let s : One ≡ Two = ap (side_or One) e in cc

  pub free_name : (l : Side) (n : PathBytes) → name_for names p l ≡ Some n → (s : Side) → run.start s n ≡ None
  free_name l n named One = (ok.free (record { path = p; side = l; name = n }) n (ok.to_loser p l n named)).start1
  free_name l n named Two = (ok.free (record { path = p; side = l; name = n }) n (ok.to_loser p l n named)).start2

  -- the conflict's steps, by who gets_name and who wins
  pub steps_by : (b1 b2 : Bool) (w : Option Side) → is_named_loser run.known p One ≡ b1 → is_named_loser run.known p Two ≡ b2 → winner_at run.known p ≡ w
      → moves_by run.known names p Conflict
      ≡ cond b1 (moved One p (name_for names p One) (run.known.now One p)) []
      ++ cond b2 (moved Two p (name_for names p Two) (run.known.now Two p)) []
      ++ winner_steps run.known p w
  steps_by b1 b2 w l1 l2 won = λ i.
      cond (l1 i) (moved One p (name_for names p One) (run.known.now One p)) []
      ++ cond (l2 i) (moved Two p (name_for names p Two) (run.known.now Two p)) []
      ++ winner_steps run.known p (won i)

  -- a winner, and a loser that gets no name
  overwritten : (w : Side) → winner_at run.known p ≡ Some w → is_named_loser run.known p (other w) ≡ false → Done run names p (moves_by run.known names p Conflict)
  overwritten w won kept = go (conflict_there run p w e)
    where
      nobody : (s : Side) → is_named_loser run.known p s ≡ false
      nobody s = either_side (λ s. is_named_loser run.known p s ≡ false) w (lost_by (Some w) won w ∙ loses_winner run.known.policy.loser w) kept s

      none : (l : Side) (n : PathBytes) → name_for names p l ≡ Some n → ⊥
      none l n named = let t = lost_if_named run names ok p l n named in let f = nobody l in cc

      go : (f : File) × (run.start w p ≡ Some f) → Done run names p (moves_by run.known names p Conflict)
      go (f, is) =
          let v : Option File = Some (brought (run.known.policy.window (other w)) f) in
          let does : effect run.known.policy.window (Copy w p (entry run.known.policy.compare f)) run.start ≡ put_at run.start (other w) p v = copy_there run w p f run.start is in
          subst (λ l. Done run names p l) (sym (steps_by false false (Some w) (nobody One) (nobody Two) won ∙ (λ i. copied w p (now_as w f is i))))
          (one_step run names ok p Conflict e none (Copy w p (entry run.known.policy.compare f))
          (λ s. either_side (λ s. effect run.known.policy.window (Copy w p (entry run.known.policy.compare f)) run.start s p ≡ carried run.known run.start w p s) w
          (ap (λ T. T w p) does ∙ put_across run.start w p v p ∙ sym (carried_own run w p))
          (ap (λ T. T (other w) p) does ∙ put_same run.start (other w) p v ∙ ap (λ x. option_map (brought (run.known.policy.window (other w))) x) (sym is) ∙ sym (carried_away run w p))
          s ∙ settled_by (Some w) won s ∙ ap (λ r. by_rule run.known run.start r p s) e))

  -- a winner, and a loser that gets a name
  module _ (l : Side) (n : PathBytes) (fl fw : File) (won : winner_at run.known p ≡ Some (other l)) (lost : is_named_loser run.known p l ≡ true)
      (named : name_for names p l ≡ Some n) (sl : run.start l p ≡ Some fl) (sw : run.start (other l) p ≡ Some fw) where
    winner_kept : is_named_loser run.known p (other l) ≡ false
    winner_kept = lost_by (Some (other l)) won (other l) ∙ loses_winner run.known.policy.loser (other l)

    only_name : (k : Side) (m : PathBytes) → name_for names p k ≡ Some m → (k ≡ l) × (n ≡ m)
    only_name k m is = (k_is, some_same (sym named ∙ ap (name_for names p) (sym k_is) ∙ is))
      where
        k_is : k ≡ l
        k_is = either_side (λ k. is_named_loser run.known p k ≡ true → k ≡ l) l (λ t. refl) (λ t. let f = winner_kept in cc) k (lost_if_named run names ok p k m is)

        some_same : {m n : PathBytes} → ◌≡◌ {A = Option PathBytes} (Some n) (Some m) → n ≡ m
        some_same e = cc

    -- where the four places stand, the claims hold
    progress : (T : Trees) (a c d : Option File) → Four l p n T a (Some fw) c d
        → (a ≡ Some fl) ⊎ (a ≡ Some (brought (run.known.policy.window l) fw)) ⊎ (a ≡ None)
        → (c ≡ None) ⊎ (c ≡ Some fl)
        → (d ≡ None) ⊎ (d ≡ Some (brought (run.known.policy.window (other l)) fl))
        → (a ≡ Some fl) ⊎ (c ≡ Some fl)
        → Progress run names p T
    progress T a c d h ha hc hd hl = record {
      here = either_side (λ s. AtPath run p T s) l (at_loser ha) (inl (h.wp ∙ sym sw));
      named = λ k m is. subst (λ k. (s : Side) → AtName run p T k m s) (sym (only_name k m is).0)
          (subst (λ m. (s : Side) → AtName run p T l m s) (only_name k m is).1
          (either_side (λ s. AtName run p T l n s) l (at_name hc) (at_copy hd)));
      lost = λ k m t is. subst (λ k. NotLost run p T k m) (sym (only_name k m is).0)
          (subst (λ m. NotLost run p T l m) (only_name k m is).1 (not_lost hl));
    }
      where
        at_loser : (a ≡ Some fl) ⊎ (a ≡ Some (brought (run.known.policy.window l) fw)) ⊎ (a ≡ None) → AtPath run p T l
        at_loser (inl x) = inl (h.lp ∙ x ∙ sym sl)
        at_loser (inr (inl x)) = inr (inl (h.lp ∙ x ∙ ap (λ v. option_map (brought (run.known.policy.window l)) v) (sym sw) ∙ sym (carried_across run l p) ∙ settled_by (Some (other l)) won l))
        at_loser (inr (inr x)) = inr (inr (record { lost = lost; won = won; empty = h.lp ∙ x }))

        at_name : (c ≡ None) ⊎ (c ≡ Some fl) → AtName run p T l n l
        at_name (inl x) = inl (h.ln ∙ x ∙ sym (free_name l n named l))
        at_name (inr x) = inr (h.ln ∙ x ∙ sym sl ∙ sym (carried_own run l p))

        at_copy : (d ≡ None) ⊎ (d ≡ Some (brought (run.known.policy.window (other l)) fl)) → AtName run p T l n (other l)
        at_copy (inl x) = inl (h.wn ∙ x ∙ sym (free_name l n named (other l)))
        at_copy (inr x) = inr (h.wn ∙ x ∙ ap (λ v. option_map (brought (run.known.policy.window (other l))) v) (sym sl) ∙ sym (carried_away run l p))

        not_lost : (a ≡ Some fl) ⊎ (c ≡ Some fl) → NotLost run p T l n
        not_lost (inl x) = inl (h.lp ∙ x ∙ sym sl)
        not_lost (inr x) = inr (h.ln ∙ x ∙ sym sl)

    finished : (T : Trees) → Four l p n T (Some (brought (run.known.policy.window l) fw)) (Some fw) (Some fl) (Some (brought (run.known.policy.window (other l)) fl)) → Finished run names p T
    finished T h = record {
      here = λ s. either_side (λ s. T s p ≡ carried run.known run.start (other l) p s) l
          (h.lp ∙ ap (λ v. option_map (brought (run.known.policy.window l)) v) (sym sw) ∙ sym (carried_across run l p))
          (h.wp ∙ sym sw ∙ sym (carried_own run (other l) p))
          s ∙ settled_by (Some (other l)) won s;
      named = λ k m is. subst (λ k. (s : Side) → T s m ≡ carried run.known run.start k p s) (sym (only_name k m is).0)
          (subst (λ m. (s : Side) → T s m ≡ carried run.known run.start l p s) (only_name k m is).1
          (either_side (λ s. T s n ≡ carried run.known run.start l p s) l
          (h.ln ∙ sym sl ∙ sym (carried_own run l p))
          (h.wn ∙ ap (λ v. option_map (brought (run.known.policy.window (other l))) v) (sym sl) ∙ sym (carried_away run l p))));
    }

    renamed_done : Done run names p (Rename l p n (entry run.known.policy.compare fl) ∷ Copy l n (entry run.known.policy.compare fl) ∷ Copy (other l) p (entry run.known.policy.compare fw) ∷ [])
    renamed_done =
        let pn : bytes_eq p n ≡ false = other_path p n (named_apart l n named) in
        let np : bytes_eq n p ≡ false = other_path n p (λ is. named_apart l n named (sym is)) in
        let bl : Option File = Some (brought (run.known.policy.window (other l)) fl) in
        let h0 : Four l p n run.start (Some fl) (Some fw) None None = record { lp = sl; wp = sw; ln = free_name l n named l; wn = free_name l n named (other l) } in
        let h1 = rename_four run l p n pn np (entry run.known.policy.compare fl) fl run.start (Some fw) None None h0 in
        let h2 = copy_name_four run l p n pn np fl (effect run.known.policy.window (Rename l p n (entry run.known.policy.compare fl)) run.start) None (Some fw) None h1 in
        let h3 = copy_winner_four run l p n pn np fw (effect run.known.policy.window (Copy l n (entry run.known.policy.compare fl)) (effect run.known.policy.window (Rename l p n (entry run.known.policy.compare fl)) run.start)) None (Some fl) bl h2 in
        record {
          along = (
            progress _ _ _ _ h0 (inl refl) (inl refl) (inl refl) (inl refl),
            (
              progress _ _ _ _ h1 (inr (inr refl)) (inr refl) (inl refl) (inr refl),
              (
                progress _ _ _ _ h2 (inr (inr refl)) (inr refl) (inr refl) (inr refl),
                progress _ _ _ _ h3 (inr (inl refl)) (inr refl) (inr refl) (inr refl),
              ),
            ),
          );
          end = finished _ h3;
        }

  -- the steps as they are written out
  pub renamed_steps : (l : Side) (n : PathBytes) (fl fw : File) → is_named_loser run.known p l ≡ true → is_named_loser run.known p (other l) ≡ false → winner_at run.known p ≡ Some (other l)
      → name_for names p l ≡ Some n → run.start l p ≡ Some fl → run.start (other l) p ≡ Some fw
      → moves_by run.known names p Conflict ≡ Rename l p n (entry run.known.policy.compare fl) ∷ Copy l n (entry run.known.policy.compare fl) ∷ Copy (other l) p (entry run.known.policy.compare fw) ∷ []
  renamed_steps One n fl fw lost kept won named sl sw =
      steps_by true false (Some Two) lost kept won
      ∙ (λ i. moved One p (named i) (now_as One fl sl i) ++ [] ++ copied Two p (now_as Two fw sw i))
  renamed_steps Two n fl fw lost kept won named sl sw =
      steps_by false true (Some One) kept lost won
      ∙ (λ i. [] ++ moved Two p (named i) (now_as Two fl sl i) ++ copied One p (now_as One fw sw i))

  -- no winner: both losers get names
  module _ (m n : PathBytes) (f1 f2 : File) (won : winner_at run.known p ≡ None) (named1 : name_for names p One ≡ Some m) (named2 : name_for names p Two ≡ Some n)
      (s1 : run.start One p ≡ Some f1) (s2 : run.start Two p ≡ Some f2) where
    b1 : Option File
    b1 = Some (brought (run.known.policy.window Two) f1)

    b2 : Option File
    b2 = Some (brought (run.known.policy.window One) f2)

    some_path : {a b : PathBytes} → ◌≡◌ {A = Option PathBytes} (Some a) (Some b) → a ≡ b
    some_path e = cc

    named_one : (k : PathBytes) → name_for names p One ≡ Some k → m ≡ k
    named_one k is = some_path (sym named1 ∙ is)

    named_two : (k : PathBytes) → name_for names p Two ≡ Some k → n ≡ k
    named_two k is = some_path (sym named2 ∙ is)

    progress_both : (T : Trees) (a1 a2 m1 m2 n1 n2 : Option File) → Six p m n T a1 a2 m1 m2 n1 n2
        → (a1 ≡ Some f1) ⊎ (a1 ≡ None) → (a2 ≡ Some f2) ⊎ (a2 ≡ None)
        → (m1 ≡ None) ⊎ (m1 ≡ Some f1) → (m2 ≡ None) ⊎ (m2 ≡ b1)
        → (n1 ≡ None) ⊎ (n1 ≡ b2) → (n2 ≡ None) ⊎ (n2 ≡ Some f2)
        → (a1 ≡ Some f1) ⊎ (m1 ≡ Some f1) → (a2 ≡ Some f2) ⊎ (n2 ≡ Some f2)
        → Progress run names p T
    unfolding b1 b2
    progress_both T a1 a2 m1 m2 n1 n2 h ha1 ha2 hm1 hm2 hn1 hn2 hl1 hl2 = record { here = here; named = named; lost = lost }
      where
        start_or_end : (s : Side) (v w : Option File) → T s p ≡ v → run.start s p ≡ w → (v ≡ w) ⊎ (v ≡ None)
            → AtPath run p T s
        start_or_end s v w is was (inl x) = inl (is ∙ x ∙ sym was)
        start_or_end s v w is was (inr x) = inr (inl (is ∙ x ∙ settled_by None won s))

        here : (s : Side) → AtPath run p T s
        here One = start_or_end One a1 (Some f1) h.p1 s1 ha1
        here Two = start_or_end Two a2 (Some f2) h.p2 s2 ha2

        free_or_given : (l s : Side) (k : PathBytes) (v w : Option File) → name_for names p l ≡ Some k → T s k ≡ v → carried run.known run.start l p s ≡ w → (v ≡ None) ⊎ (v ≡ w)
            → AtName run p T l k s
        free_or_given l s k v w is was gets (inl x) = inl (was ∙ x ∙ sym (free_name l k is s))
        free_or_given l s k v w is was gets (inr x) = inr (was ∙ x ∙ sym gets)

        named : (l : Side) (k : PathBytes) → name_for names p l ≡ Some k → (s : Side) → AtName run p T l k s
        named One k is s = subst (λ k. (s : Side) → AtName run p T One k s) (named_one k is)
            (either_side (λ s. AtName run p T One m s) One
            (free_or_given One One m m1 (Some f1) named1 h.m1 s1 hm1)
            (free_or_given One Two m m2 b1 named1 h.m2 (ap (λ v. option_map (brought (run.known.policy.window Two)) v) s1) hm2)) s
        named Two k is s = subst (λ k. (s : Side) → AtName run p T Two k s) (named_two k is)
            (either_side (λ s. AtName run p T Two n s) One
            (free_or_given Two One n n1 b2 named2 h.n1 (ap (λ v. option_map (brought (run.known.policy.window One)) v) s2) hn1)
            (free_or_given Two Two n n2 (Some f2) named2 h.n2 s2 hn2)) s

        kept : (l : Side) (k : PathBytes) (v w f : Option File) → T l p ≡ v → T l k ≡ w → run.start l p ≡ f → (v ≡ f) ⊎ (w ≡ f) → NotLost run p T l k
        kept l k v w f is was start (inl x) = inl (is ∙ x ∙ sym start)
        kept l k v w f is was start (inr x) = inr (was ∙ x ∙ sym start)

        lost : (l : Side) (k : PathBytes) → is_named_loser run.known p l ≡ true → name_for names p l ≡ Some k → NotLost run p T l k
        lost One k t is = subst (λ k. NotLost run p T One k) (named_one k is) (kept One m a1 m1 (Some f1) h.p1 h.m1 s1 hl1)
        lost Two k t is = subst (λ k. NotLost run p T Two k) (named_two k is) (kept Two n a2 n2 (Some f2) h.p2 h.n2 s2 hl2)

    finished_both : (T : Trees) → Six p m n T None None (Some f1) b1 b2 (Some f2) → Finished run names p T
    unfolding b1 b2
    finished_both T h = record { here = λ s. either_side (λ s. T s p ≡ None) One h.p1 h.p2 s ∙ settled_by None won s; named = named }
      where
        named : (l : Side) (k : PathBytes) → name_for names p l ≡ Some k → (s : Side) → T s k ≡ carried run.known run.start l p s
        named One k is s = subst (λ k. (s : Side) → T s k ≡ carried run.known run.start One p s) (named_one k is)
            (either_side (λ s. T s m ≡ carried run.known run.start One p s) One (h.m1 ∙ sym s1) (h.m2 ∙ ap (λ v. option_map (brought (run.known.policy.window Two)) v) (sym s1))) s
        named Two k is s = subst (λ k. (s : Side) → T s k ≡ carried run.known run.start Two p s) (named_two k is)
            (either_side (λ s. T s n ≡ carried run.known run.start Two p s) One (h.n1 ∙ ap (λ v. option_map (brought (run.known.policy.window One)) v) (sym s2)) (h.n2 ∙ sym s2)) s

    both_renamed_done : Done run names p (Rename One p m (entry run.known.policy.compare f1) ∷ Copy One m (entry run.known.policy.compare f1) ∷ Rename Two p n (entry run.known.policy.compare f2) ∷ Copy Two n (entry run.known.policy.compare f2) ∷ [])
    unfolding b1 b2
    both_renamed_done =
        let apart : Three p m n = record {
          pm = other_path p m (named_apart One m named1);
          mp = other_path m p (λ is. named_apart One m named1 (sym is));
          pn = other_path p n (named_apart Two n named2);
          np = other_path n p (λ is. named_apart Two n named2 (sym is));
          mn = other_path m n (two_apart m n named1 named2);
          nm = other_path n m (λ is. two_apart m n named1 named2 (sym is));
        } in
        let h0 : Six p m n run.start (Some f1) (Some f2) None None None None = record {
          p1 = s1;
          p2 = s2;
          m1 = free_name One m named1 One;
          m2 = free_name One m named1 Two;
          n1 = free_name Two n named2 One;
          n2 = free_name Two n named2 Two;
        } in
        let h1 = rename_one run p m n apart (entry run.known.policy.compare f1) f1 run.start (Some f2) None None None None h0 in
        let h2 = copy_one run p m n apart f1 _ None (Some f2) None None None h1 in
        let h3 = rename_two run p m n apart (entry run.known.policy.compare f2) f2 _ None (Some f1) b1 None None h2 in
        let h4 = copy_two run p m n apart f2 _ None None (Some f1) b1 None h3 in
        record {
          along = (
            progress_both _ _ _ _ _ _ _ h0 (inl refl) (inl refl) (inl refl) (inl refl) (inl refl) (inl refl) (inl refl) (inl refl),
            (
              progress_both _ _ _ _ _ _ _ h1 (inr refl) (inl refl) (inr refl) (inl refl) (inl refl) (inl refl) (inr refl) (inl refl),
              (
                progress_both _ _ _ _ _ _ _ h2 (inr refl) (inl refl) (inr refl) (inr refl) (inl refl) (inl refl) (inr refl) (inl refl),
                (
                  progress_both _ _ _ _ _ _ _ h3 (inr refl) (inr refl) (inr refl) (inr refl) (inl refl) (inr refl) (inr refl) (inr refl),
                  progress_both _ _ _ _ _ _ _ h4 (inr refl) (inr refl) (inr refl) (inr refl) (inr refl) (inr refl) (inr refl) (inr refl),
                ),
              ),
            ),
          );
          end = finished_both _ h4;
        }

    pub both_renamed_steps : moves_by run.known names p Conflict
        ≡ Rename One p m (entry run.known.policy.compare f1) ∷ Copy One m (entry run.known.policy.compare f1) ∷ Rename Two p n (entry run.known.policy.compare f2) ∷ Copy Two n (entry run.known.policy.compare f2) ∷ []
    both_renamed_steps =
        steps_by true true None (lost_by None won One) (lost_by None won Two) won
        ∙ (λ i. moved One p (named1 i) (now_as One f1 s1 i) ++ moved Two p (named2 i) (now_as Two f2 s2 i) ++ [])

  pub conflict_done : Done run names p (moves_by run.known names p Conflict)
  conflict_done = by_winner (winner_at run.known p) refl
    where
      renamed : (l : Side) → winner_at run.known p ≡ Some (other l) → is_named_loser run.known p l ≡ true → (n : PathBytes) × (name_for names p l ≡ Some n)
          → (f : File) × (run.start l p ≡ Some f) → (f : File) × (run.start (other l) p ≡ Some f) → Done run names p (moves_by run.known names p Conflict)
      renamed l won lost (n, named) (fl, sl) (fw, sw) =
          subst (λ s. Done run names p s)
          (sym (renamed_steps l n fl fw lost (winner_kept l n fl fw won lost named sl sw) won named sl sw))
          (renamed_done l n fl fw won lost named sl sw)

      both : winner_at run.known p ≡ None → (n : PathBytes) × (name_for names p One ≡ Some n) → (n : PathBytes) × (name_for names p Two ≡ Some n)
          → (f : File) × (run.start One p ≡ Some f) → (f : File) × (run.start Two p ≡ Some f) → Done run names p (moves_by run.known names p Conflict)
      both won (m, named1) (n, named2) (f1, s1) (f2, s2) =
          subst (λ s. Done run names p s) (sym (both_renamed_steps m n f1 f2 won named1 named2 s1 s2)) (both_renamed_done m n f1 f2 won named1 named2 s1 s2)

      by_loser : (l : Side) → winner_at run.known p ≡ Some (other l) → (b : Bool) → is_named_loser run.known p l ≡ b → Done run names p (moves_by run.known names p Conflict)
      by_loser l won true lost = renamed l won lost (ok.total p l lost) (conflict_there run p l e) (conflict_there run p (other l) e)
      by_loser l won false kept = overwritten (other l) won (subst (λ s. is_named_loser run.known p s ≡ false) (sym (other_other l)) kept)

      by_winner : (w : Option Side) → winner_at run.known p ≡ w → Done run names p (moves_by run.known names p Conflict)
      by_winner None won =
          both won (ok.total p One (lost_by None won One)) (ok.total p Two (lost_by None won Two)) (conflict_there run p One e) (conflict_there run p Two e)
      by_winner (Some One) won = by_loser Two won (is_named_loser run.known p Two) refl
      by_winner (Some Two) won = by_loser One won (is_named_loser run.known p One) refl
