-- The ends of a run that a guard stops.
use Rattle.std.proofs.Common.{◌≡◌, ℕ, List, Option, Some, None, true, false, refl, sym, subst, inl, inr, Err}
use Rattle.std.specs.Prelude.{IsSome, IsSomeAnd}
use Rattle.bisync_tree.specs.declared.entries.Compare.{Compare}
use Rattle.bisync_tree.specs.declared.sides.Side.TheVariants.{One, Two}
use Rattle.bisync_tree.specs.declared.views.View.{View}
use Rattle.bisync_guard.specs.Order.{first_guard}
use Rattle.bisync_guard.specs.Conditions.{IsGuard, IsFirstMissing, IsNowhere}
use Rattle.bisync_guard.specs.declared.guards.Guard.{Guard}
use Rattle.bisync_guard.specs.declared.guards.Guard.TheVariants as guard
use Rattle.bisync_guard.proofs.OrderOfGuards.{answer_holds}
use Rattle.bisync_opts.specs.declared.options.Opts.{Opts}
use Rattle.bisync_report.specs.declared.ends.End.{End}
use Rattle.bisync_run.specs.Counts.{Counts, Stops, HasCauses}
use Rattle.bisync_run.specs.OrdinaryEnds.{IsUnplannedOrdinaryEnd}
use Rattle.bisync_run.specs.OrdinaryLooks.{guard_end, IsGuardEnd}
use Rattle.bisync_run.proofs.CauseLaws.{same_later, stand_still}

some_of : (o : Option (List ℕ)) (P : List ℕ → Type 0) → IsSomeAnd o P → IsSome o
some_of None P h = absurd h
some_of (Some name) P h = refl

-- what the guard's condition says is what its end says
pub guard_kind : (opts : Opts) (listed compare : Compare) (view : View) (end : End) → IsGuardEnd (first_guard opts.guard compare view) end → IsUnplannedOrdinaryEnd opts listed end
guard_kind opts listed compare view end (inl memory) = subst (IsUnplannedOrdinaryEnd opts listed) (sym memory) tt
guard_kind opts listed compare view end (inr x) = subst (IsUnplannedOrdinaryEnd opts listed) (sym x.2) (go x.0 (answer_holds opts.guard compare view x.0 x.1))
  where
    go : (g : Guard) → IsGuard opts.guard compare view g → IsUnplannedOrdinaryEnd opts listed (guard_end g)
    go (guard.CheckAccess One None) h = some_of opts.guard.check (IsNowhere view) h
    go (guard.CheckAccess Two None) h = absurd h
    go (guard.CheckAccess side (Some p)) h = some_of opts.guard.check (IsFirstMissing view side p) h
    go (guard.EmptyCurrent side) h = tt
    go (guard.TooManyDeletes side gone all) h = (h.unforced, h.over)
    go (guard.AllChanged side all) h = (h.unforced, h.some)

guard_stops : (a b : Counts) (g : Guard) → Stops a b (guard_end g)
guard_stops a b (guard.CheckAccess side path) = tt
guard_stops a b (guard.EmptyCurrent side) = tt
guard_stops a b (guard.TooManyDeletes side gone all) = tt
guard_stops a b (guard.AllChanged side all) = tt

stopped : (a b : Counts) (first : Option Guard) (end : End) → IsGuardEnd first end → Stops a b end
stopped a b first end (inl memory) = subst (Stops a b) (sym memory) tt
stopped a b first end (inr x) = subst (Stops a b) (sym x.2) (guard_stops a b x.0)

-- that a guard stops a run is no fault of a device
pub guard_caused : {T : Type 0} (a : Counts) (first : Option Guard) (end : End) → IsGuardEnd first end → HasCauses {T = T} a a (Err end)
guard_caused a first end is = record { later = same_later a; good = λ (ok : false ≡ true). cc; fault = stopped a a first end is; remotes = stand_still a end }
