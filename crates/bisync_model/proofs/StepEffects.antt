-- What the steps of one path leave at the path and at the names of its losers.
use Rattle.std.proofs.Common.{◌≡◌, ℕ, zero, suc, false, List, [], ◌∷◌, ◌++◌, take, Option, Some, None, refl, sym, ◌∙◌, ap, subst}
use Rattle.std.specs.Prelude.{bytes_eq}
use Rattle.bisync_tree.specs.Rows.{PathBytes}
use Rattle.bisync_tree.specs.declared.files.File.{File}
use Rattle.bisync_tree.specs.Side.{other}
use Rattle.bisync_tree.specs.Tree.{brought, entry}
use Rattle.bisync_tree.specs.declared.steps.Step.{Step}
use Rattle.bisync_tree.specs.declared.steps.Step.TheVariants.{Copy, Rename}
use Rattle.bisync_tree.specs.declared.sides.Side.{Side}
use Rattle.bisync_tree.specs.declared.sides.Side.TheVariants.{One, Two}
use Rattle.bisync_tree.specs.declared.windows.Window.{Window}
use Rattle.bisync_tree.specs.declared.entries.Entry.{Entry}
use Rattle.bisync_tree.proofs.PathOrder.{path_is_itself}
use Rattle.bisync_model.specs.Trees.{Trees, put_at}
use Rattle.bisync_model.proofs.ListedRun.{Run}
use Rattle.bisync_model.specs.Effects.{with_copy, with_rename, effect, after}
use Rattle.bisync_model.proofs.PlaceTests.{side_is_itself, put_other}

pub after-append : (window : Side → Window) (earlier later : List Step) (trees : Trees)
    → after window (earlier ++ later) trees ≡ after window later (after window earlier trees)
after-append window [] later trees = refl
after-append window (s ∷ ss) later trees = after-append window ss later (effect window s trees)

-- P holds at first and after each step
abbrev pub Along : Run → (Trees → Type 0) → List Step → Trees → Type 0
Along run P [] T = P T
Along run P (s ∷ ss) T = P T × Along run P ss (effect run.known.policy.window s T)

pub along-take : (run : Run) (P : Trees → Type 0) (steps : List Step) (T : Trees) → Along run P steps T → (j : ℕ) → P (after run.known.policy.window (take j steps) T)
along-take run P [] T h zero = h
along-take run P (s ∷ ss) T h zero = h.0
along-take run P [] T h (suc j) = h
along-take run P (s ∷ ss) T h (suc j) = along-take run P ss (effect run.known.policy.window s T) h.1 j

pub put_same : (T : Trees) (s : Side) (p : PathBytes) (v : Option File) → put_at T s p v s p ≡ v
put_same T s p v = rw (side_is_itself s, path_is_itself p)

pub put_away : (T : Trees) (s : Side) (p : PathBytes) (v : Option File) (n : PathBytes) → put_at T s p v (other s) n ≡ T (other s) n
put_away T One p v n = refl
put_away T Two p v n = refl

pub put_across : (T : Trees) (s : Side) (p : PathBytes) (v : Option File) (n : PathBytes) → put_at T (other s) p v s n ≡ T s n
put_across T One p v n = refl
put_across T Two p v n = refl

pub either_side : (P : Side → Type 0) (l : Side) → P l → P (other l) → (s : Side) → P s
either_side P One a b One = a
either_side P One a b Two = b
either_side P Two a b One = b
either_side P Two a b Two = a

-- a copy to the other side changes the path there, and nothing else
pub copy_there : (run : Run) (from : Side) (p : PathBytes) (f : File) (T : Trees) → T from p ≡ Some f
    → effect run.known.policy.window (Copy from p (entry run.known.policy.compare f)) T ≡ put_at T (other from) p (Some (brought (run.known.policy.window (other from)) f))
copy_there run from p f T e = ap (λ v. with_copy run.known.policy.window from p (entry run.known.policy.compare f) T v) e

pub rename_there : (run : Run) (side : Side) (from to : PathBytes) (listed : Entry) (f : File) (T : Trees) → T side from ≡ Some f
    → effect run.known.policy.window (Rename side from to listed) T ≡ put_at (put_at T side from None) side to (Some f)
rename_there run side from to listed f T e = ap (λ v. with_rename side from to T v) e

-- what the two sides have at two paths
pub record Four (l : Side) (p n : PathBytes) (T : Trees) (a b c d : Option File) : Type 0 where
  pub lp : T l p ≡ a
  pub wp : T (other l) p ≡ b
  pub ln : T l n ≡ c
  pub wn : T (other l) n ≡ d

pub other_other : (s : Side) → other (other s) ≡ s
other_other One = refl
other_other Two = refl

module _ (run : Run) (l : Side) (p n : PathBytes) (pn : bytes_eq p n ≡ false) (np : bytes_eq n p ≡ false) where
  pub rename_four : (listed : Entry) (f : File) (T : Trees) (b c d : Option File) → Four l p n T (Some f) b c d → Four l p n (effect run.known.policy.window (Rename l p n listed) T) None b (Some f) d
  rename_four listed f T b c d h =
      subst (λ U. Four l p n U None b (Some f) d) (sym (rename_there run l p n listed f T h.lp))
      (record {
        lp = put_other (put_at T l p None) l n (Some f) l p pn ∙ put_same T l p None;
        wp = put_away (put_at T l p None) l n (Some f) p ∙ put_away T l p None p ∙ h.wp;
        ln = put_same (put_at T l p None) l n (Some f);
        wn = put_away (put_at T l p None) l n (Some f) n ∙ put_away T l p None n ∙ h.wn;
      })

  pub copy_name_four : (f : File) (T : Trees) (a b d : Option File) → Four l p n T a b (Some f) d
      → Four l p n (effect run.known.policy.window (Copy l n (entry run.known.policy.compare f)) T) a b (Some f) (Some (brought (run.known.policy.window (other l)) f))
  copy_name_four f T a b d h =
      let v : Option File = Some (brought (run.known.policy.window (other l)) f) in
      subst (λ U. Four l p n U a b (Some f) v) (sym (copy_there run l n f T h.ln))
      (record {
        lp = put_across T l n v p ∙ h.lp;
        wp = put_other T (other l) n v (other l) p pn ∙ h.wp;
        ln = put_across T l n v n ∙ h.ln;
        wn = put_same T (other l) n v;
      })

  pub copy_winner_four : (f : File) (T : Trees) (a c d : Option File) → Four l p n T a (Some f) c d
      → Four l p n (effect run.known.policy.window (Copy (other l) p (entry run.known.policy.compare f)) T) (Some (brought (run.known.policy.window l) f)) (Some f) c d
  copy_winner_four f T a c d h =
      let v : Option File = Some (brought (run.known.policy.window l) f) in
      let e : effect run.known.policy.window (Copy (other l) p (entry run.known.policy.compare f)) T ≡ put_at T l p v
      = copy_there run (other l) p f T h.wp ∙ ap (λ s. put_at T s p (Some (brought (run.known.policy.window s) f))) (other_other l) in
      subst (λ U. Four l p n U v (Some f) c d) (sym e)
      (record {
        lp = put_same T l p v;
        wp = put_away T l p v p ∙ h.wp;
        ln = put_other T l p v l n np ∙ h.ln;
        wn = put_away T l p v n ∙ h.wn;
      })

-- what the two sides have at three paths
pub record Six (p m n : PathBytes) (T : Trees) (a1 a2 b1 b2 c1 c2 : Option File) : Type 0 where
  pub p1 : T One p ≡ a1
  pub p2 : T Two p ≡ a2
  pub m1 : T One m ≡ b1
  pub m2 : T Two m ≡ b2
  pub n1 : T One n ≡ c1
  pub n2 : T Two n ≡ c2

-- three paths, no two of which are one
pub record Three (p m n : PathBytes) : Type 0 where
  pub pm : bytes_eq p m ≡ false
  pub mp : bytes_eq m p ≡ false
  pub pn : bytes_eq p n ≡ false
  pub np : bytes_eq n p ≡ false
  pub mn : bytes_eq m n ≡ false
  pub nm : bytes_eq n m ≡ false

module _ (run : Run) (p m n : PathBytes) (apart : Three p m n) where
  pub rename_one : (listed : Entry) (f : File) (T : Trees) (a2 b1 b2 c1 c2 : Option File) → Six p m n T (Some f) a2 b1 b2 c1 c2
      → Six p m n (effect run.known.policy.window (Rename One p m listed) T) None a2 (Some f) b2 c1 c2
  rename_one listed f T a2 b1 b2 c1 c2 h =
      subst (λ U. Six p m n U None a2 (Some f) b2 c1 c2) (sym (rename_there run One p m listed f T h.p1))
      (record {
        p1 = put_other (put_at T One p None) One m (Some f) One p apart.pm ∙ put_same T One p None;
        p2 = h.p2;
        m1 = put_same (put_at T One p None) One m (Some f);
        m2 = h.m2;
        n1 = put_other (put_at T One p None) One m (Some f) One n apart.nm ∙ put_other T One p None One n apart.np ∙ h.n1;
        n2 = h.n2;
      })

  pub copy_one : (f : File) (T : Trees) (a1 a2 b2 c1 c2 : Option File) → Six p m n T a1 a2 (Some f) b2 c1 c2
      → Six p m n (effect run.known.policy.window (Copy One m (entry run.known.policy.compare f)) T) a1 a2 (Some f) (Some (brought (run.known.policy.window Two) f)) c1 c2
  copy_one f T a1 a2 b2 c1 c2 h =
      let v : Option File = Some (brought (run.known.policy.window Two) f) in
      subst (λ U. Six p m n U a1 a2 (Some f) v c1 c2) (sym (copy_there run One m f T h.m1))
      (record {
        p1 = h.p1;
        p2 = put_other T Two m v Two p apart.pm ∙ h.p2;
        m1 = h.m1;
        m2 = put_same T Two m v;
        n1 = h.n1;
        n2 = put_other T Two m v Two n apart.nm ∙ h.n2;
      })

  pub rename_two : (listed : Entry) (f : File) (T : Trees) (a1 b1 b2 c1 c2 : Option File) → Six p m n T a1 (Some f) b1 b2 c1 c2
      → Six p m n (effect run.known.policy.window (Rename Two p n listed) T) a1 None b1 b2 c1 (Some f)
  rename_two listed f T a1 b1 b2 c1 c2 h =
      subst (λ U. Six p m n U a1 None b1 b2 c1 (Some f)) (sym (rename_there run Two p n listed f T h.p2))
      (record {
        p1 = h.p1;
        p2 = put_other (put_at T Two p None) Two n (Some f) Two p apart.pn ∙ put_same T Two p None;
        m1 = h.m1;
        m2 = put_other (put_at T Two p None) Two n (Some f) Two m apart.mn ∙ put_other T Two p None Two m apart.mp ∙ h.m2;
        n1 = h.n1;
        n2 = put_same (put_at T Two p None) Two n (Some f);
      })

  pub copy_two : (f : File) (T : Trees) (a1 a2 b1 b2 c1 : Option File) → Six p m n T a1 a2 b1 b2 c1 (Some f)
      → Six p m n (effect run.known.policy.window (Copy Two n (entry run.known.policy.compare f)) T) a1 a2 b1 b2 (Some (brought (run.known.policy.window One) f)) (Some f)
  copy_two f T a1 a2 b1 b2 c1 h =
      let v : Option File = Some (brought (run.known.policy.window One) f) in
      subst (λ U. Six p m n U a1 a2 b1 b2 v (Some f)) (sym (copy_there run Two n f T h.n2))
      (record {
        p1 = put_other T One n v One p apart.pn ∙ h.p1;
        p2 = h.p2;
        m1 = put_other T One n v One m apart.mn ∙ h.m1;
        m2 = h.m2;
        n1 = put_same T One n v;
        n2 = h.n2;
      })
