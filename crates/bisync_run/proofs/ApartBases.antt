-- The passing parts of a base don't agree where a run is refused as out of sync, whatever its devices tell.
use Rattle.std.proofs.Common.{◌≡◌, ℕ, Bool, List, Option, sym, subst, inl, inr}
use Rattle.bisync_tree.specs.Rows.{PathBytes, Rows}
use Rattle.bisync_tree.specs.Tree.{Tree}
use Rattle.bisync_tree.specs.declared.entries.Compare.{Compare}
use Rattle.bisync_tree.specs.declared.options.ConflictRule.{ConflictRule}
use Rattle.bisync_tree.specs.declared.options.Limits.{Limits}
use Rattle.bisync_tree.specs.declared.sides.Side.{Side}
use Rattle.bisync_tree.specs.declared.sides.Side.TheVariants.{One, Two}
use Rattle.bisync_tree.specs.declared.views.View.{View}
use Rattle.bisync_tree.specs.declared.windows.Window.{Window}
use Rattle.bisync_guard.specs.declared.guards.Guard.{Guard}
use Rattle.bisync_guard.specs.declared.guards.Guard.TheVariants as guard
use Rattle.bisync_listing.specs.declared.headers.Header.{Header}
use Rattle.bisync_model.specs.Finals.{final_entry}
use Rattle.bisync_model.specs.Known.{Known}
use Rattle.bisync_model.specs.Views.{known_of}
use Rattle.bisync_model.proofs.Agreement.{finals_agree}
use Rattle.bisync_plan.specs.Conditions.{KeepsTimes}
use Rattle.bisync_plan.specs.Faults.{IsFaultOf}
use Rattle.bisync_plan.specs.declared.faults.PlanFault.{PlanFault}
use Rattle.bisync_plan.specs.declared.faults.PlanFault.TheVariants as unplanned
use Rattle.bisync_plan.proofs.ListedOutcomes.{kept}
use Rattle.bisync_report.specs.declared.ends.End.{End}
use Rattle.bisync_report.specs.declared.ends.End.TheVariants.{OutOfSync}
use Rattle.bisync_run.specs.Looking.{IsWhyNotBoth, IsWhyUnseen, unplanned_end}
use Rattle.bisync_run.specs.OrdinaryLooks.{IsApartAnswer, IsGuardEnd, IsPriorEnd, guard_end}
use Rattle.bisync_run.proofs.FirstPlaces.{not_apart}

-- # No other refusal is one as out of sync

module _ (compare : Compare) (passes : PathBytes → Bool) (one two : Rows) where
  pub prior_apart : (p : PathBytes → Bool) (a b : Rows) (end : End) → IsPriorEnd p a b end → IsApartAnswer compare passes one two end
  prior_apart p a b (OutOfSync path first second) x = absurd x
  prior_apart p a b end x = tt

  unseen_apart : (tells : Bool) (tree : Tree) (c : Compare) (p : PathBytes → Bool) (limits : Limits) (side : Side) (end : End)
      → IsWhyUnseen tells tree c p limits side end → IsApartAnswer compare passes one two end
  unseen_apart tells tree c p limits side (OutOfSync path first second) x = absurd x
  unseen_apart tells tree c p limits side end x = tt

  pub not_both_apart : (tells : Side → Bool) (a b : Tree) (c : Compare) (p : PathBytes → Bool) (limits : Limits) (end : End)
      → IsWhyNotBoth tells a b c p limits end → IsApartAnswer compare passes one two end
  not_both_apart tells a b c p limits end (inl x) = unseen_apart (tells One) a c p limits One end x
  not_both_apart tells a b c p limits end (inr x) = unseen_apart (tells Two) b c p limits Two end x.1

  guard_apart : (g : Guard) → IsApartAnswer compare passes one two (guard_end g)
  guard_apart (guard.CheckAccess side path) = tt
  guard_apart (guard.EmptyCurrent side) = tt
  guard_apart (guard.TooManyDeletes side gone all) = tt
  guard_apart (guard.AllChanged side all) = tt

  pub guarded_apart : (first : Option Guard) (end : End) → IsGuardEnd first end → IsApartAnswer compare passes one two end
  guarded_apart first end (inl memory) = subst (IsApartAnswer compare passes one two) (sym memory) tt
  guarded_apart first end (inr x) = subst (IsApartAnswer compare passes one two) (sym x.2) (guard_apart x.0)

-- # No plan

module _ (conflict : ConflictRule) (compare : Compare) (passes : PathBytes → Bool) (window1 window2 : Window) (view : View) (keeps : KeepsTimes compare window1 window2) where
  abbrev known : Known
  known = known_of conflict compare passes window1 window2 view

  fault_apart : (paths : List PathBytes) (header : Header) (limit : ℕ) (check : Bool) (fault : PlanFault) → IsFaultOf known paths header limit check fault
      → IsApartAnswer compare passes view.prior1 view.prior2 (unplanned_end fault)
  fault_apart paths header limit check (unplanned.OutOfSync p first second) x = λ agrees.
      not_apart compare (final_entry known x.1.names) p first second x.1.apart.apart (λ q. finals_agree known (kept compare window1 window2 keeps) x.1.names q (agrees q))
  fault_apart paths header limit check fault x = tt

  pub unplanned_apart : (listed : Compare) (one two : Rows) → compare ≡ listed → (view.prior1 ≡ one) × (view.prior2 ≡ two)
      → (paths : List PathBytes) (header : Header) (limit : ℕ) (check : Bool) (fault : PlanFault) (end : End) → end ≡ unplanned_end fault → IsFaultOf known paths header limit check fault
      → IsApartAnswer listed passes one two end
  unplanned_apart listed one two compared prior paths header limit check fault end is x =
      subst (IsApartAnswer listed passes one two) (sym is)
      (subst (λ (t : Compare × Rows × Rows). IsApartAnswer t.0 passes t.1 t.2 (unplanned_end fault)) (λ i. (compared i, prior.0 i, prior.1 i)) (fault_apart paths header limit check fault x))
