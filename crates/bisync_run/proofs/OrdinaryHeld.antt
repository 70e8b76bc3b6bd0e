-- What an ordinary run that holds the lock leaves, made of what its parts leave.
use Rattle.std.proofs.Common.{◌≡◌, ◌≢◌, ◌∙◌, ◌++◌, ◌<◌, ◌^◌, ap, subst, sym, inl, inr, ⊎_elim, ℕ, Bool, IsTrue, List, Option, Some, sum_by, false}
use Rattle.bisync_tree.specs.declared.sides.Side.{Side}
use Rattle.bisync_tree.specs.declared.sides.Side.TheVariants.{One, Two}
use Rattle.bisync_tree.specs.declared.options.Limits.{Limits}
use Rattle.bisync_tree.specs.declared.steps.Step.{Step}
use Rattle.bisync_filter.specs.declared.rule_lists.Rule.{Rule}
use Rattle.bisync_model.specs.Trees.{by_side}
use Rattle.bisync_model.specs.Changes.{changes_of}
use Rattle.bisync_device.specs.Remote.{RemoteState}
use Rattle.bisync_device.specs.WorkFolder.{WorkFolder}
use Rattle.bisync_opts.specs.declared.options.CheckSync.TheVariants.{Only}
use Rattle.bisync_opts.specs.declared.options.Opts.{Opts}
use Rattle.bisync_transfer.specs.StepTrees.{AreDone}
use Rattle.bisync_work.specs.Base.{Base, HasBaseIn, IsBase}
use Rattle.bisync_work.specs.Stamps.{IsUnused}
use Rattle.bisync_work.specs.declared.bases.Pair.{Pair}
use Rattle.bisync_work.specs.declared.bases.Pair.TheVariants.{Current}
use Rattle.bisync_report.specs.Lines.{changes_text, plan_text, steps_text}
use Rattle.bisync_report.specs.declared.ends.End.TheVariants.{Done}
use Rattle.bisync_run.specs.CarryingOut.{AreWithin}
use Rattle.bisync_run.specs.Courses.{IsLook, course_changes, course_lines}
use Rattle.bisync_run.specs.Ordinary.{AreCourseLines, IsGoodOrdinaryEnd, IsMadeNext, IsOrdinaryDone, KeepsBaseOrMakesNext, LeavesOrdinaryTrees, but_ordinary}
use Rattle.bisync_run.specs.OrdinaryChanges.{IsNextSet, IsPrepared, KeepsOrSwitches}
use Rattle.bisync_run.specs.Planned.{IsPlannedOver}
use Rattle.bisync_run.specs.Resyncs.{base_of_trees}
use Rattle.bisync_run.specs.ResyncWriting.{next_base}
use Rattle.bisync_run.specs.Sides.{Sides, sides_of}
use Rattle.bisync_run.specs.Stepping.{FindsAll, IsPartDone}
use Rattle.bisync_run.specs.Untouched.{Remotes, AreUntouched}
use Rattle.bisync_run.specs.declared.looks.Look.{Look}
use Rattle.bisync_run.specs.declared.prepared.Prepared.{Prepared}
use Rattle.bisync_run.specs.declared.starting.Started.{Started}
use Rattle.bisync_run.proofs.DoneSteps.{done_since, finds_past, part_since}
use Rattle.bisync_run.proofs.OrdinaryMade.{all_counted, all_done, counted, next_is, over_finds, part_between}

-- what is about to be done, of what was looked at
abbrev pub prepared_of : ℕ → Look → Prepared
prepared_of stamp made = record { stamp = stamp; compare = made.compare; plan = made.plan }

-- each step finds its file on the sides that were looked at, whatever is told
pub planned_finds : (tells : Side → Bool) (opts : Opts) (rules : List Rule) (a b a2 b2 : RemoteState) (started : Started) (made : Look)
    → ((side : Side) → IsTrue (tells side) → (by_side a2 b2 side).tree ≡ (by_side a b side).tree) → ((side : Side) → (by_side a2 b2 side).window ≡ (by_side a b side).window)
    → IsPlannedOver tells opts (sides_of opts.compare rules a b) started made.plan → FindsAll tells made.plan.steps.items (by_side a2 b2)
planned_finds tells opts rules a b a2 b2 started made looked windows plan =
    finds_past tells (by_side a b) (by_side a2 b2) looked windows made.plan.steps.items (over_finds tells opts rules a b started made.plan plan)

module _ (opts : Opts) (limits : Limits) (rules : List Rule) (digest : Option (List ℕ)) (a b : RemoteState) (f : WorkFolder) (stamp : ℕ) (pair : Pair) (made : Look)
    (look : IsLook opts limits f (sides_of opts.compare rules a b) digest stamp pair made) where
  abbrev s : Sides
  s = sides_of opts.compare rules a b

  -- # What is said

  pub lines_held : plan_text (Some made.view) made.compare made.plan ≡ course_lines opts s look.course.base look.course.names
  lines_held = λ i. changes_text (look.compare i) (Some (look.view i)) ++ steps_text (look.steps i)

  pub told_held : (before after : List ℕ) → after ≡ before ++ plan_text (Some made.view) made.compare made.plan
      → (lines : List ℕ) × AreCourseLines opts limits f s digest lines × (after ≡ before ++ lines)
  told_held before after is = (plan_text (Some made.view) made.compare made.plan, record { course = look.course; are = lines_held }, is)

  numbered : (side : Side) (n : ℕ) → n ≡ sum_by (changes_of side) made.plan.steps.items → n ≡ course_changes opts s look.course.base side
  numbered side n is = is ∙ ap (λ (l : List Step). sum_by (changes_of side) l) look.steps ∙ counted opts s look.course.base look.course.names look.course.are side

  pub numbers_held : opts.dry_run ≡ false → opts.check_sync ≢ Only → (m n : ℕ)
      → m ≡ sum_by (changes_of One) made.plan.steps.items → n ≡ sum_by (changes_of Two) made.plan.steps.items → IsGoodOrdinaryEnd opts limits f s digest (Done m n)
  numbers_held changing more m n one two = (changing, more, (look.course, numbered One m one, numbered Two n two))

  -- # What is left

  module _ (a2 b2 : RemoteState) (looked : AreUntouched (by_side a b) (by_side a2 b2)) (windows : (side : Side) → (by_side a2 b2 side).window ≡ (by_side a b side).window) where
    pub trees_held : opts.dry_run ≡ false → (h : WorkFolder) (now : Remotes) → IsPartDone made.plan.steps.items (by_side a2 b2) now → LeavesOrdinaryTrees opts limits f s digest (by_side a b) h now
    trees_held changing h now part = inr (record {
      changing = changing;
      course = look.course;
      part = subst (λ (l : List Step). IsPartDone l (by_side a b) now) look.steps (part_since (by_side a b) (by_side a2 b2) looked windows made.plan.steps.items now part);
      between = part_between opts opts.compare rules a b look.course.base look.course.names (prepared_of stamp made) look.course.are look.steps look.finals now
          (part_since (by_side a b) (by_side a2 b2) looked windows made.plan.steps.items now part);
    })

    module _ (f2 : WorkFolder) (same : f2 ≡ f) where
      pub prepared_held : limits.listing < 2 ^ 64 → AreWithin limits.listing (prepared_of stamp made) → IsPrepared limits.listing f2 pair look.course.base (prepared_of stamp made)
      prepared_held small fits = record {
        small = small;
        is = subst (λ (x : WorkFolder × Pair). HasBaseIn limits.listing x.0 x.1 look.course.base) (λ i. (sym same i, look.pair_is i)) look.course.starts.is;
        unused = subst (λ (x : WorkFolder × ℕ). IsUnused limits.listing x.0 x.1) (λ i. (sym same i, look.stamp_is i)) look.course.new.unused;
        fits = fits;
      }

      module _ (g : WorkFolder) (now : Remotes) where
        since : AreDone made.plan.steps.items (by_side a2 b2) now → AreDone made.plan.steps.items (by_side a b) now
        since done = done_since (by_side a b) (by_side a2 b2) looked windows made.plan.steps.items now done

        next_held : AreDone made.plan.steps.items (by_side a2 b2) now → next_base (prepared_of stamp made) ≡ base_of_trees look.course.stamp s (now One).tree (now Two).tree
        next_held done =
            next_is opts opts.compare rules a b look.course.base look.course.names (prepared_of stamp made) look.course.are look.steps look.finals now (since done) look.compare
            ∙ ap (λ (n : ℕ). base_of_trees n s (now One).tree (now Two).tree) (sym look.stamp_is)

        next_made : opts.dry_run ≡ false → IsBase limits.listing g (Some (next_base (prepared_of stamp made))) → AreDone made.plan.steps.items (by_side a2 b2) now → IsMadeNext opts limits f s digest g now
        next_made changing base done = record {
          changing = changing;
          course = look.course;
          trees = all_done opts opts.compare rules a b look.course.base look.course.names (prepared_of stamp made) look.course.are look.steps look.finals now (since done);
          base = subst (λ (x : Base). IsBase limits.listing g (Some x)) (next_held done) base;
        }

        pub base_held : opts.dry_run ≡ false → KeepsOrSwitches limits.listing (prepared_of stamp made) f2 (by_side a2 b2) g now → KeepsBaseOrMakesNext opts limits f s digest g now
        base_held changing leaves base is =
            ⊎_elim (λ kept. inl kept) (λ next. inr (next_made changing next.0 next.1)) (leaves base (subst (λ (h : WorkFolder). IsBase limits.listing h base) (sym same) is))

        pub done_held : IsNextSet limits.listing look.course.base (prepared_of stamp made) g → but_ordinary g ≡ but_ordinary f2
            → AreDone made.plan.steps.items (by_side a2 b2) now → IsOrdinaryDone opts limits f s digest (by_side a b) g now
        done_held out rest done = record {
          course = look.course;
          trees = all_done opts opts.compare rules a b look.course.base look.course.names (prepared_of stamp made) look.course.are look.steps look.finals now (since done);
          base = subst (λ (x : Base). HasBaseIn limits.listing g Current x) (next_held done) out.base;
          old = out.old;
          one_new = out.one_new;
          two_new = out.two_new;
          rest = rest ∙ ap but_ordinary same;
          changes = all_counted opts opts.compare rules a b look.course.base look.course.names (prepared_of stamp made) look.course.are look.steps look.finals now (since done);
        }
