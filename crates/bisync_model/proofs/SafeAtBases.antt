-- A safe version stays safe in the same trees, however a run leaves the base.
use Rattle.std.proofs.Common.{◌≡◌, ℕ, Bool, true, false, cond, List, Option, Some, None, refl, ◌∙◌, ap, inl, inr, sym, subst}
use Rattle.std.specs.Prelude.{option_map}
use Rattle.bisync_tree.specs.Rows.{PathBytes}
use Rattle.bisync_tree.specs.Tree.{entry}
use Rattle.bisync_tree.specs.Same.{class}
use Rattle.bisync_tree.specs.declared.sides.Side.{Side}
use Rattle.bisync_tree.specs.declared.sides.Side.TheVariants.{One, Two}
use Rattle.bisync_tree.specs.declared.entries.Compare.{Compare}
use Rattle.bisync_tree.specs.declared.entries.Entry.{Entry}
use Rattle.bisync_tree.specs.declared.classes.Class.TheVariants.{Quiet, Fresh}
use Rattle.bisync_tree.proofs.SameLemmas.{same_refl}
use Rattle.bisync_model.specs.Trees.{Trees}
use Rattle.bisync_model.specs.Policy.{Policy}
use Rattle.bisync_model.specs.Entries.{Entries, entries_of, SameWherePassing}
use Rattle.bisync_model.specs.Safe.{class_in, IsKept, IsBaseLeft, IsSafe}

class_of_itself : (c : Compare) (v : Option Entry) → class c v v ≡ Quiet
class_of_itself c None = refl
class_of_itself c (Some e) = ap (λ b. cond b Quiet Fresh) (same_refl c (Some e))

-- where the trees are the base, every version that is there is safe
safe_when_listed : (policy : Policy) (base : Option Entries) (trees : Trees) (listed : Entries)
    → SameWherePassing policy listed (entries_of policy.compare trees)
    → (p : PathBytes) (bytes : List ℕ) → IsSafe policy base trees p bytes → IsSafe policy (Some listed) trees p bytes
safe_when_listed policy base trees listed is p bytes safe =
    record { side = safe.side; name = safe.name; named = safe.named; held = safe.held; kept = go (policy.passes safe.name) refl }
  where
    quiet : policy.passes safe.name ≡ true → (side : Side) → class_in policy listed trees side safe.name ≡ Quiet
    quiet passes side =
        ap (λ v. class policy.compare v (option_map (entry policy.compare) (trees side safe.name))) (is side safe.name passes)
        ∙ class_of_itself policy.compare (option_map (entry policy.compare) (trees side safe.name))

    go : (b : Bool) → policy.passes safe.name ≡ b → IsKept policy (Some listed) trees safe.side safe.name
    go false e = inl e
    go true e = inr (inr (quiet e One, quiet e Two))

pub safe_at_base : (policy : Policy) (before base : Option Entries) (trees : Trees) → IsBaseLeft policy trees before base
    → (p : PathBytes) (bytes : List ℕ) → IsSafe policy before trees p bytes → IsSafe policy base trees p bytes
safe_at_base policy before base trees (inl e) p bytes safe = subst (λ b. IsSafe policy b trees p bytes) (sym e) safe
safe_at_base policy before base trees (inr (inl e)) p bytes safe =
    subst (λ b. IsSafe policy b trees p bytes) (sym e)
    (record { side = safe.side; name = safe.name; named = safe.named; held = safe.held; kept = tt })
safe_at_base policy before base trees (inr (inr (listed, e, is))) p bytes safe =
    subst (λ b. IsSafe policy b trees p bytes) (sym e) (safe_when_listed policy before trees listed is p bytes safe)
