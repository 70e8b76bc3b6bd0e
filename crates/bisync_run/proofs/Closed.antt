-- What a resync that held the lock leaves when it is closed.
use Rattle.std.proofs.Common.{◌∙◌, ap, inl, inr, ⊎_elim, ℕ, List, Option, Some, None}
use Rattle.bisync_tree.specs.declared.sides.Side.TheVariants.{One, Two}
use Rattle.bisync_tree.specs.declared.options.Limits.{Limits}
use Rattle.bisync_tree.specs.declared.options.Prefer.{Prefer}
use Rattle.bisync_device.specs.WorkFolder.{WorkFolder}
use Rattle.bisync_work.specs.Base.{IsBase}
use Rattle.bisync_work.specs.declared.bases.Pair.TheVariants.{Current}
use Rattle.bisync_work.specs.Locks.{ChangesLock}
use Rattle.bisync_work.specs.Moves.{SameListings, moved_over}
use Rattle.bisync_work.proofs.BaseLaws.{same_in_pair}
use Rattle.bisync_run.specs.CarryingOut.{but_carried}
use Rattle.bisync_run.specs.Closing.{Closes, Unlocks}
use Rattle.bisync_run.specs.Resyncs.{IsMadeAnew, IsResynced, LeavesBase, base_of_trees}
use Rattle.bisync_run.specs.ResyncWriting.{stored}
use Rattle.bisync_run.specs.Sides.{Sides}
use Rattle.bisync_run.specs.Untouched.{Remotes}
use Rattle.bisync_run.proofs.AnswersBefore.{none_before}
use Rattle.bisync_run.proofs.LockedFolders.{base_past, stamp_before}

module _ (mode : Prefer) (limits : Limits) (s : Sides) (start now : Remotes) where
  made_of : (f g h : WorkFolder) (x : IsMadeAnew mode limits f s g now)
      → IsBase limits.listing h (Some (base_of_trees x.stamp s (now One).tree (now Two).tree)) → IsMadeAnew mode limits f s h now
  made_of f g h x base = record { accepted = x.accepted; trees = x.trees; stamp = x.stamp; new = x.new; base = base }

  -- the base that is left, after the close
  pub base_closed : (f g h : WorkFolder) → LeavesBase mode limits f s start g now → Closes g h → LeavesBase mode limits f s start h now
  base_closed f g h leaves closes base is =
      ⊎_elim
      (λ kept. ⊎_elim (λ same. inl (same, kept.1)) (λ none. inr (inl none)) (closes.base limits.listing base kept.0))
      (λ other. ⊎_elim
      (λ none. ⊎_elim (λ n. inr (inl n)) (λ n. inr (inl n)) (closes.base limits.listing None none))
      (λ made. ⊎_elim (λ same. inr (inr (made_of f g h made same))) (λ none. inr (inl none)) (closes.base limits.listing (Some (base_of_trees made.stamp s (now One).tree (now Two).tree)) made.base))
      other)
      (leaves base is)

  -- the same, said of the folder without the lock
  pub base_unlocked : (f g h : WorkFolder) → ChangesLock f g → LeavesBase mode limits g s start h now → LeavesBase mode limits f s start h now
  base_unlocked f g h changes leaves base is =
      ⊎_elim
      (λ kept. inl kept)
      (λ other. ⊎_elim
      (λ none. inr (inl none))
      (λ made. inr (inr (record { accepted = none_before mode limits f g changes s made.accepted; trees = made.trees; stamp = made.stamp; new = stamp_before f g changes limits.listing made.stamp made.new; base = made.base })))
      other)
      (leaves base (base_past f g changes limits.listing base is))

  -- a resync that was done, after the close
  pub done_closed : (digest : Option (List ℕ)) (f g h : WorkFolder) → IsResynced mode limits f s digest start g now → Unlocks g h → IsResynced mode limits f s digest start h now
  done_closed digest f g h x unlocks =
      let listings : SameListings g h = record {
        one = ap (λ (w : WorkFolder). w.one) unlocks.rest;
        two = ap (λ (w : WorkFolder). w.two) unlocks.rest;
        one_old = ap (λ (w : WorkFolder). w.one_old) unlocks.rest;
        two_old = ap (λ (w : WorkFolder). w.two_old) unlocks.rest;
      } in
      record {
        trees = x.trees;
        stamp = x.stamp;
        new = x.new;
        base = same_in_pair limits.listing g h listings Current (base_of_trees x.stamp s (now One).tree (now Two).tree) x.base;
        one_old = listings.one_old ∙ x.one_old;
        two_old = listings.two_old ∙ x.two_old;
        one_new = ap (λ (w : WorkFolder). w.one_new) unlocks.rest ∙ x.one_new;
        two_new = ap (λ (w : WorkFolder). w.two_new) unlocks.rest ∙ x.two_new;
        one_err = ap (λ (w : WorkFolder). w.one_err) unlocks.rest ∙ x.one_err;
        two_err = ap (λ (w : WorkFolder). w.two_err) unlocks.rest ∙ x.two_err;
        stored = ap (λ (w : WorkFolder). w.filters_md5) unlocks.rest ∙ x.stored;
        rest = ap but_carried unlocks.rest ∙ x.rest;
        changes = x.changes;
      }

  -- the same, said of the folder without the lock
  pub done_unlocked : (digest : Option (List ℕ)) (f g h : WorkFolder) → ChangesLock f g → IsResynced mode limits g s digest start h now → IsResynced mode limits f s digest start h now
  done_unlocked digest f g h changes x = record {
    trees = x.trees;
    stamp = x.stamp;
    new = stamp_before f g changes limits.listing x.stamp x.new;
    base = x.base;
    one_old = x.one_old;
    two_old = x.two_old;
    one_new = x.one_new;
    two_new = x.two_new;
    one_err = x.one_err ∙ ap (λ (w : WorkFolder). moved_over w.one (moved_over w.one_old w.one_err)) changes.rest;
    two_err = x.two_err ∙ ap (λ (w : WorkFolder). moved_over w.two (moved_over w.two_old w.two_err)) changes.rest;
    stored = x.stored ∙ ap (λ (w : WorkFolder). stored digest w.filters_md5) changes.rest;
    rest = x.rest ∙ ap but_carried changes.rest;
    changes = x.changes;
  }
