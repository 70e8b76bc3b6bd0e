-- What a resync that holds the lock leaves, made of what its parts leave.
use Rattle.std.proofs.Common.{◌≡◌, ◌∙◌, ◌≤◌, ap, subst, sym, inl, inr, ⊎_elim, arith, ℕ, Bool, IsTrue, List, Option, Some, length, sum_by}
use Rattle.std.proofs.lemmas.Grind.{common_steps}
use Rattle.bisync_tree.specs.declared.sides.Side.{Side}
use Rattle.bisync_tree.specs.declared.sides.Side.TheVariants.{One, Two}
use Rattle.bisync_tree.specs.declared.entries.Compare.{Compare}
use Rattle.bisync_tree.specs.declared.options.Limits.{Limits}
use Rattle.bisync_tree.specs.declared.options.Prefer.{Prefer}
use Rattle.bisync_tree.specs.declared.steps.Step.{Step}
use Rattle.bisync_filter.specs.declared.rule_lists.Rule.{Rule}
use Rattle.bisync_model.specs.Trees.{by_side}
use Rattle.bisync_model.specs.Changes.{changes_of}
use Rattle.bisync_listing.specs.Spelling.{listing_text}
use Rattle.bisync_plan.specs.Faults.{most}
use Rattle.bisync_plan.specs.Plans.{IsResyncOf, header_of}
use Rattle.bisync_device.specs.Remote.{RemoteState, Unchanged}
use Rattle.bisync_device.specs.WorkFolder.{WorkFolder}
use Rattle.bisync_transfer.specs.StepTrees.{AreDone}
use Rattle.bisync_work.specs.Base.{Base, IsBase, HasBaseIn}
use Rattle.bisync_work.specs.declared.bases.Pair.TheVariants.{Current}
use Rattle.bisync_work.specs.Moves.{moved_over}
use Rattle.bisync_work.specs.Stamps.{IsNewStamp}
use Rattle.bisync_report.specs.Lines.{steps_text}
use Rattle.bisync_run.specs.CarryingOut.{AreWithin, LeavesOneBase, AreCarriedOut, AreSetAside, but_carried}
use Rattle.bisync_run.specs.Planned.{IsResyncOver}
use Rattle.bisync_run.specs.ResyncRefusals.{HasNoResyncRefusal}
use Rattle.bisync_run.specs.Resyncs.{HasOutcome, IsMadeAnew, IsResynced, LeavesBase, LeavesMix, LeavesTrees, resync_changes, resync_lines}
use Rattle.bisync_run.specs.ResyncWriting.{next_base, stored}
use Rattle.bisync_run.specs.Sides.{Sides, sides_of, resync_known, resync_paths}
use Rattle.bisync_run.specs.Stepping.{IsPartDone, FindsAll}
use Rattle.bisync_run.specs.Untouched.{Remotes, AreUntouched}
use Rattle.bisync_run.specs.declared.prepared.Prepared.{Prepared}
use Rattle.bisync_run.proofs.DoneSteps.{untouched_twice, done_since, part_since, finds_past}
use Rattle.bisync_run.proofs.MadeAnew.{all_done, all_counted, next_is, part_mixed, over_finds, counted}

pub untouched : (a b a2 b2 : RemoteState) → Unchanged a a2 → Unchanged b b2 → AreUntouched (by_side a b) (by_side a2 b2)
untouched a b a2 b2 one two One = one
untouched a b a2 b2 one two Two = two

pub same_windows : (a b a2 b2 : RemoteState) → a2.window ≡ a.window → b2.window ≡ b.window → (side : Side) → (by_side a2 b2 side).window ≡ (by_side a b side).window
same_windows a b a2 b2 one two One = one
same_windows a b a2 b2 one two Two = two

-- what was only looked at has the base that it had
pub looked_base : (mode : Prefer) (limits : Limits) (s : Sides) (f g : WorkFolder) (start now : Remotes) → g ≡ f → AreUntouched start now → LeavesBase mode limits f s start g now
looked_base mode limits s f g start now same looked base is = inl (subst (λ (h : WorkFolder). IsBase limits.listing h base) (sym same) is, looked)

within : (n limit : ℕ) → n ≤ most limit → n ≤ limit
within n limit is = grind (arith, common_steps)

pub are_within : (limits : Limits) (prepared : Prepared)
    → length (listing_text (header_of prepared.stamp prepared.compare) prepared.plan.final1) ≤ most limits.listing
    → length (listing_text (header_of prepared.stamp prepared.compare) prepared.plan.final2) ≤ most limits.listing
    → AreWithin limits.listing prepared
are_within limits prepared one two = record { one = within _ limits.listing one; two = within _ limits.listing two }

-- the names besides the base, on a folder that was only looked at before
pub aside_held : (limit : ℕ) (prepared : Prepared) (digest : Option (List ℕ)) (f f2 g : WorkFolder) → f2 ≡ f → AreCarriedOut limit prepared digest f2 g → AreSetAside digest f g
aside_held limit prepared digest f f2 g same out = record {
  one_old = out.one_old;
  two_old = out.two_old;
  one_new = out.one_new;
  two_new = out.two_new;
  one_err = out.one_err ∙ ap (λ (w : WorkFolder). moved_over w.one (moved_over w.one_old w.one_err)) same;
  two_err = out.two_err ∙ ap (λ (w : WorkFolder). moved_over w.two (moved_over w.two_old w.two_err)) same;
  stored = out.stored ∙ ap (λ (w : WorkFolder). stored digest w.filters_md5) same;
}

-- each step finds its file on the sides that were looked at, whatever they tell
pub finds_held : (tells : Side → Bool) (mode : Prefer) (compare : Compare) (rules : List Rule) (a b a2 b2 : RemoteState) (prepared : Prepared)
    → ((side : Side) → IsTrue (tells side) → (by_side a2 b2 side).tree ≡ (by_side a b side).tree) → ((side : Side) → (by_side a2 b2 side).window ≡ (by_side a b side).window)
    → IsResyncOver tells mode (sides_of compare rules a b) prepared.plan → FindsAll tells prepared.plan.steps.items (by_side a2 b2)
finds_held tells mode compare rules a b a2 b2 prepared looked windows plan =
    finds_past tells (by_side a b) (by_side a2 b2) looked windows prepared.plan.steps.items (over_finds tells mode compare rules a b prepared.plan plan)

module _ (mode : Prefer) (limits : Limits) (compare : Compare) (rules : List Rule) (a b a2 b2 : RemoteState) (f f2 : WorkFolder) (prepared : Prepared)
    (plan : IsResyncOf (resync_known mode (sides_of compare rules a b)) (resync_paths (sides_of compare rules a b)) prepared.plan)
    (looked : AreUntouched (by_side a b) (by_side a2 b2)) (windows : (side : Side) → (by_side a2 b2 side).window ≡ (by_side a b side).window)
    (same : f2 ≡ f) where
  abbrev s : Sides
  s = sides_of compare rules a b

  since : (now : Remotes) → AreDone prepared.plan.steps.items (by_side a2 b2) now → AreDone prepared.plan.steps.items (by_side a b) now
  since now done = done_since (by_side a b) (by_side a2 b2) looked windows prepared.plan.steps.items now done

  module _ (compared : prepared.compare ≡ s.compare) (new : IsNewStamp limits.listing f prepared.stamp) (g : WorkFolder) (now : Remotes) where
    made : HasNoResyncRefusal mode limits f s → IsBase limits.listing g (Some (next_base prepared)) → AreDone prepared.plan.steps.items (by_side a2 b2) now → IsMadeAnew mode limits f s g now
    made none base done = record {
      accepted = none;
      trees = all_done mode compare rules a b prepared plan now (since now done);
      stamp = prepared.stamp;
      new = new;
      base = subst (λ (x : Base). IsBase limits.listing g (Some x)) (next_is mode compare rules a b prepared plan now (since now done) compared) base;
    }

    pub base_held : HasNoResyncRefusal mode limits f s → LeavesOneBase limits.listing prepared f2 (by_side a2 b2) g now → LeavesBase mode limits f s (by_side a b) g now
    base_held accepted leaves base is =
        ⊎_elim
        (λ kept. inl (kept.0, untouched_twice looked kept.1))
        (λ other. ⊎_elim (λ none. inr (inl none)) (λ next. inr (inr (made accepted next.0 next.1))) other)
        (leaves base (subst (λ (h : WorkFolder). IsBase limits.listing h base) (sym same) is))

    pub done_held : (digest : Option (List ℕ)) → AreCarriedOut limits.listing prepared digest f2 g → but_carried g ≡ but_carried f2
        → AreDone prepared.plan.steps.items (by_side a2 b2) now → IsResynced mode limits f s digest (by_side a b) g now
    done_held digest out rest done = record {
      trees = all_done mode compare rules a b prepared plan now (since now done);
      stamp = prepared.stamp;
      new = new;
      base = subst (λ (x : Base). HasBaseIn limits.listing g Current x) (next_is mode compare rules a b prepared plan now (since now done) compared) out.base;
      one_old = out.one_old;
      two_old = out.two_old;
      one_new = out.one_new;
      two_new = out.two_new;
      one_err = out.one_err ∙ ap (λ (w : WorkFolder). moved_over w.one (moved_over w.one_old w.one_err)) same;
      two_err = out.two_err ∙ ap (λ (w : WorkFolder). moved_over w.two (moved_over w.two_old w.two_err)) same;
      stored = out.stored ∙ ap (λ (w : WorkFolder). stored digest w.filters_md5) same;
      rest = rest ∙ ap but_carried same;
      changes = all_counted mode compare rules a b prepared plan now (since now done);
    }

  pub trees_held : HasNoResyncRefusal mode limits f s → (h : WorkFolder) (now : Remotes) → IsPartDone prepared.plan.steps.items (by_side a2 b2) now → LeavesTrees mode limits f s (by_side a b) h now
  trees_held none h now part =
      let since = part_since (by_side a b) (by_side a2 b2) looked windows prepared.plan.steps.items now part in
      inr (none, part_mixed mode compare rules a b prepared plan now since, subst (λ (l : List Step). IsPartDone l (by_side a b) now) plan.steps since)

  pub mix_held : (now : Remotes) → IsPartDone prepared.plan.steps.items (by_side a2 b2) now → LeavesMix mode s (by_side a b) now
  mix_held now part = inr (part_mixed mode compare rules a b prepared plan now (part_since (by_side a b) (by_side a2 b2) looked windows prepared.plan.steps.items now part))

  pub outcome_held : (now : Remotes) → AreDone prepared.plan.steps.items (by_side a2 b2) now → HasOutcome mode s (by_side a b) now
  outcome_held now done = record { trees = all_done mode compare rules a b prepared plan now (since now done); changes = all_counted mode compare rules a b prepared plan now (since now done) }

  pub lines_held : steps_text prepared.plan.steps.items ≡ resync_lines mode s
  lines_held = ap steps_text plan.steps

  pub numbers_held : (side : Side) (n : ℕ) → n ≡ sum_by (changes_of side) prepared.plan.steps.items → n ≡ resync_changes mode s side
  numbers_held side n is = is ∙ ap (λ (l : List Step). sum_by (changes_of side) l) plan.steps ∙ counted mode s side
