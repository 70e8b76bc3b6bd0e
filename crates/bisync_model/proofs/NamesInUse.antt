-- What is used of the given names, and what follows from it.
use Rattle.std.proofs.Common.{◌≡◌, ◌≢◌, ◌⊎◌, ℕ, Bool, true, false, cond, List, Option, Some, None, refl, sym, ◌∙◌, ap, inl, inr}
use Rattle.std.specs.Prelude.{option_map}
use Rattle.bisync_tree.specs.Rows.{PathBytes}
use Rattle.bisync_tree.specs.Same.{class}
use Rattle.bisync_tree.specs.Tree.{entry}
use Rattle.bisync_tree.specs.declared.steps.Given.{Given}
use Rattle.bisync_tree.specs.declared.sides.Side.{Side}
use Rattle.bisync_tree.specs.declared.sides.Side.TheVariants.{One, Two}
use Rattle.bisync_tree.specs.declared.classes.Rule.TheVariants.{Nothing}
use Rattle.bisync_model.specs.Table.{rule_at, table, class_now}
use Rattle.bisync_model.proofs.ListedRun.{Run}
use Rattle.bisync_model.specs.Names.{candidate, name_for, loser_named}
use Rattle.bisync_model.specs.Conflict.{is_named_loser}

-- neither tree and neither base listing has it
pub record IsFree (run : Run) (n : PathBytes) : Type 0 where
  pub start1 : run.start One n ≡ None
  pub start2 : run.start Two n ≡ None
  pub base1 : run.known.base One n ≡ None
  pub base2 : run.known.base Two n ≡ None

pub record NamesOk (run : Run) (names : List Given) : Type 0 where
  pub free : (g : Given) (n : PathBytes) → loser_named names n ≡ Some g → IsFree run n
  pub lost : (g : Given) (n : PathBytes) → loser_named names n ≡ Some g → is_named_loser run.known g.path g.side ≡ true
  pub to_name : (g : Given) (n : PathBytes) → loser_named names n ≡ Some g → name_for names g.path g.side ≡ Some n
  pub to_loser : (p : PathBytes) (s : Side) (n : PathBytes) → name_for names p s ≡ Some n → loser_named names n ≡ Some (record { path = p; side = s; name = n })
  pub total : (p : PathBytes) (s : Side) → is_named_loser run.known p s ≡ true → (n : PathBytes) × (name_for names p s ≡ Some n)
  pub place : (p : PathBytes) (s : Side) (n : PathBytes) → name_for names p s ≡ Some n → (k : ℕ) × (n ≡ candidate run.known.policy s p k)

-- nothing is done with a free path
pub rule-free : (run : Run) (n : PathBytes) → IsFree run n → rule_at run.known n ≡ Nothing
rule-free run n f = go (run.known.policy.passes n) refl
  where
    go : (b : Bool) → run.known.policy.passes n ≡ b
        → cond b (table run.known.policy.compare (class_now run.known One n) (class_now run.known Two n) (run.known.now One n) (run.known.now Two n)) Nothing ≡ Nothing
    go false e = refl
    go true e =
        let now1 : run.known.now One n ≡ None = run.listed.now One n e ∙ ap (λ v. option_map (entry run.known.policy.compare) v) f.start1 in
        let now2 : run.known.now Two n ≡ None = run.listed.now Two n e ∙ ap (λ v. option_map (entry run.known.policy.compare) v) f.start2 in
        λ i. table run.known.policy.compare (class run.known.policy.compare (f.base1 i) (now1 i)) (class run.known.policy.compare (f.base2 i) (now2 i)) (now1 i) (now2 i)

-- a path with which something is done is no given name
pub unnamed : (run : Run) (names : List Given) (ok : NamesOk run names) (p : PathBytes) → rule_at run.known p ≢ Nothing → loser_named names p ≡ None
unnamed run names ok p some = go (loser_named names p) refl
  where
    go : (v : Option Given) → loser_named names p ≡ v → v ≡ None
    go None e = refl
    go (Some g) e = absurd (some (rule-free run p (ok.free g p e)))

-- the path itself, and the names of its losers
abbrev pub Region : List Given → PathBytes → PathBytes → Type 0
Region names p n = (n ≡ p) ⊎ ((s : Side) × (name_for names p s ≡ Some n))

pub regions_apart : (run : Run) (names : List Given) (ok : NamesOk run names) (p q : PathBytes) → loser_named names p ≡ None → loser_named names q ≡ None
    → (n : PathBytes) → Region names p n → Region names q n → p ≡ q
regions_apart run names ok p q a b n (inl e) (inl f) = sym e ∙ f
regions_apart run names ok p q a b n (inl e) (inr (t, g)) =
    let named = ok.to_loser q t n g in let here : loser_named names n ≡ None = ap (loser_named names) e ∙ a in cc
regions_apart run names ok p q a b n (inr (s, f)) (inl e) =
    let named = ok.to_loser p s n f in let here : loser_named names n ≡ None = ap (loser_named names) e ∙ b in cc
regions_apart run names ok p q a b n (inr (s, f)) (inr (t, g)) =
    same_given p q s t n (sym (ok.to_loser p s n f) ∙ ok.to_loser q t n g)
  where
    same_given : (p q : PathBytes) (s t : Side) (n : PathBytes) → ◌≡◌ {A = Option Given} (Some (record { path = p; side = s; name = n })) (Some (record { path = q; side = t; name = n })) → p ≡ q
    same_given p q s t n e = ap (λ v. path_or p v) e
      where
        path_or : PathBytes → Option Given → PathBytes
        path_or p None = p
        path_or p (Some g) = g.path
