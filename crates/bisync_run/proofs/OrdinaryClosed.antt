-- What an ordinary run that held the lock leaves when it is closed, said of the folder before the lock was taken.
use Rattle.std.proofs.Common.{◌≡◌, ◌∙◌, ◌&&◌, ◌||◌, ap, subst, sym, inl, inr, ⊎_elim, Bool, true, false, refl, not, ℕ, List, Option, Some, Result, Ok, Err}
use Rattle.bisync_tree.specs.declared.sides.Side.TheVariants.{One, Two}
use Rattle.bisync_tree.specs.declared.options.Limits.{Limits}
use Rattle.bisync_device.specs.WorkFolder.{Absent, Held, WorkFolder}
use Rattle.bisync_opts.specs.declared.options.Opts.{Opts}
use Rattle.bisync_report.specs.Status.{falls_of}
use Rattle.bisync_report.specs.declared.ends.End.{End}
use Rattle.bisync_work.specs.Base.{ArePair, Base, IsBase}
use Rattle.bisync_work.specs.declared.bases.Pair.TheVariants.{Current}
use Rattle.bisync_work.specs.Locks.{ChangesLock}
use Rattle.bisync_work.proofs.BaseLaws.{same_in_pair, same_keeps}
use Rattle.bisync_run.specs.Closing.{Closes, Unlocks}
use Rattle.bisync_run.specs.EndKinds.{falls_at_close}
use Rattle.bisync_run.specs.Ordinary.{AreOnTheWay, IsMadeNext, IsOrdinaryDone, KeepsBaseOrMakesNext, LeavesOrdinaryBase, KeepsOrdinaryRest, but_ordinary, but_ordinary_or_fallen}
use Rattle.bisync_run.specs.Resyncs.{base_of_trees}
use Rattle.bisync_run.specs.Sides.{Sides}
use Rattle.bisync_run.specs.Untouched.{Remotes}
use Rattle.bisync_run.proofs.CloseLaws.{same_listings}
use Rattle.bisync_run.proofs.ClosedEnds.{falls_dry}
use Rattle.bisync_run.proofs.CoursesBefore.{course_before}
use Rattle.bisync_run.proofs.LockedFolders.{base_past}

-- # Where nothing falls

and_false : (b : Bool) → (b && false) ≡ false
and_false true = refl
and_false false = refl

pub falls_resilient : (resilient dry_run : Bool) (ended : Result End End) → (resilient || dry_run) ≡ true → falls_at_close resilient dry_run ended ≡ false
falls_resilient resilient dry_run (Ok end) is = refl
falls_resilient true dry_run (Err end) is = ap (λ (b : Bool). b && not dry_run) (and_false (falls_of end))
falls_resilient false dry_run (Err end) is = falls_dry false dry_run (Err end) is

module _ (opts : Opts) (limits : Limits) (s : Sides) (digest : Option (List ℕ)) (now : Remotes) where
  made_in : (f g h : WorkFolder) (x : IsMadeNext opts limits f s digest g now)
      → IsBase limits.listing h (Some (base_of_trees x.course.stamp s (now One).tree (now Two).tree)) → IsMadeNext opts limits f s digest h now
  made_in f g h x base = record { changing = x.changing; course = x.course; trees = x.trees; base = base }

  made_before : (f g h : WorkFolder) → ChangesLock f g → IsMadeNext opts limits g s digest h now → IsMadeNext opts limits f s digest h now
  made_before f g h changes x = record { changing = x.changing; course = course_before opts limits f g changes s digest x.course; trees = x.trees; base = x.base }

  -- # The base

  -- the base that is left, after the close
  pub run_base_closed : (f f2 g h : WorkFolder) → ChangesLock f f2 → KeepsBaseOrMakesNext opts limits f2 s digest g now → Closes g h → LeavesOrdinaryBase opts limits f s digest h now
  run_base_closed f f2 g h changes leaves closes base is =
      ⊎_elim
      (λ kept. ⊎_elim (λ same. inl same) (λ none. inr (inl none)) (closes.base limits.listing base kept))
      (λ made. ⊎_elim
      (λ same. inr (inr (made_before f f2 h changes (made_in f2 g h made same))))
      (λ none. inr (inl none))
      (closes.base limits.listing (Some (base_of_trees made.course.stamp s (now One).tree (now Two).tree)) made.base))
      (leaves base (base_past f f2 changes limits.listing base is))

  -- the same, where no listing fell
  pub base_kept : (f f2 g h : WorkFolder) → ChangesLock f f2 → KeepsBaseOrMakesNext opts limits f2 s digest g now → Unlocks g h → KeepsBaseOrMakesNext opts limits f s digest h now
  base_kept f f2 g h changes leaves unlocks base is =
      let keeps = same_keeps limits.listing g h (same_listings g h unlocks) in
      ⊎_elim
      (λ kept. inl (keeps.base base kept))
      (λ made. inr (made_before f f2 h changes (made_in f2 g h made (keeps.base (Some (base_of_trees made.course.stamp s (now One).tree (now Two).tree)) made.base))))
      (leaves base (base_past f f2 changes limits.listing base is))

  -- # The trees

  pub way_before : {start : Remotes} (f g : WorkFolder) → ChangesLock f g → AreOnTheWay opts limits g s digest start now → AreOnTheWay opts limits f s digest start now
  way_before f g changes x = record { changing = x.changing; course = course_before opts limits f g changes s digest x.course; part = x.part; between = x.between }

  -- # A run that was done

  pair_at : (base : Base) (a b c d : Held) → c ≡ a → d ≡ b → ArePair limits.listing a b base → ArePair limits.listing c d base
  pair_at base a b c d one two x =
      subst (λ (e : Held). ArePair limits.listing c e base) (sym two) (subst (λ (e : Held). ArePair limits.listing e b base) (sym one) x)

  pub run_done_closed : (start : Remotes) (f f2 g h : WorkFolder) → ChangesLock f f2 → IsOrdinaryDone opts limits f2 s digest start g now → Unlocks g h → IsOrdinaryDone opts limits f s digest start h now
  run_done_closed start f f2 g h changes x unlocks =
      let listings = same_listings g h unlocks in
      record {
        course = course_before opts limits f f2 changes s digest x.course;
        trees = x.trees;
        base = same_in_pair limits.listing g h listings Current (base_of_trees x.course.stamp s (now One).tree (now Two).tree) x.base;
        old = pair_at x.course.base g.one_old g.two_old h.one_old h.two_old listings.one_old listings.two_old x.old;
        one_new = ap (λ (w : WorkFolder). w.one_new) unlocks.rest ∙ x.one_new;
        two_new = ap (λ (w : WorkFolder). w.two_new) unlocks.rest ∙ x.two_new;
        rest = ap but_ordinary unlocks.rest ∙ x.rest ∙ ap but_ordinary changes.rest;
        changes = x.changes;
      }

-- # The other names

pub rest_locked : (falls : Bool) (f g : WorkFolder) → ChangesLock f g → KeepsOrdinaryRest falls f g
rest_locked falls f g changes = (ap but_ordinary_or_fallen changes.rest, λ stays. ap but_ordinary changes.rest)

pub rest_closed : (falls : Bool) (f f2 g h : WorkFolder) → ChangesLock f f2 → but_ordinary g ≡ but_ordinary f2 → Closes g h → (falls ≡ false → Unlocks g h) → KeepsOrdinaryRest falls f h
rest_closed falls f f2 g h changes kept closes unlocks = (
  ap but_ordinary_or_fallen closes.rest ∙ ap (λ (w : WorkFolder). record w { one_err = Absent; two_err = Absent }) kept ∙ ap but_ordinary_or_fallen changes.rest,
  λ stays. ap but_ordinary (unlocks stays).rest ∙ kept ∙ ap but_ordinary changes.rest,
)
