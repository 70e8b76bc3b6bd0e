-- A resync never ends as a run that isn't built.
use Rattle.std.proofs.Common.{◌≡◌, ◌∙◌, ap, subst, sym, inl, inr, Result, Ok, Err}
use Rattle.std.specs.Prelude.{◌≢◌, true, IfOk, IfErr}
use Rattle.bisync_report.specs.declared.ends.End.{End}
use Rattle.bisync_report.specs.declared.ends.End.TheVariants.{NotBuilt}
use Rattle.bisync_run.specs.Closing.{ClosesWith, EndsWith}
use Rattle.bisync_run.specs.Counts.{Counts, Stops}
use Rattle.bisync_run.specs.EndKinds.{is_good, is_after_good, is_before_lock}
use Rattle.bisync_run.proofs.EndCases.{false_true}

pub unlocked_built : (end : End) → is_before_lock end ≡ true → end ≢ NotBuilt
unlocked_built end early is = false_true (sym (ap is_before_lock is) ∙ early)

pub closed_built : (old new : Counts) (ended : Result End End) (closed : End)
    → IfOk ended (λ end. is_good end ≡ true) → IfErr ended (Stops old new) → ClosesWith ended closed → closed ≢ NotBuilt
closed_built old new (Ok end) closed good stops (inl same) is = false_true (sym (ap is_good (sym same ∙ is)) ∙ good)
closed_built old new (Ok end) closed good stops (inr stays) is = false_true (sym (ap is_after_good is) ∙ ap is_after_good stays)
closed_built old new (Err end) closed good stops same is = subst (Stops old new) (sym same ∙ is) stops

pub told_built : (end last : End) → end ≢ NotBuilt → EndsWith end last → last ≢ NotBuilt
told_built end last built (inl same) is = built (sym same ∙ is)
told_built end last built (inr (was_good, failed)) is = false_true (sym (ap is_after_good is) ∙ ap is_after_good failed)
