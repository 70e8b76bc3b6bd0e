-- What the switch leaves after the steps of a resync.
use Rattle.std.proofs.Common.{◌⊎◌, ◌∙◌, ◌<◌, ◌^◌, ap, ℕ, List, Option, Some, None}
use Rattle.bisync_device.specs.WorkFolder.{WorkFolder}
use Rattle.bisync_work.specs.Base.{Base, IsBase, HasNoBase}
use Rattle.bisync_work.specs.Locks.{ChangesLock}
use Rattle.bisync_work.specs.Moves.{IsReady, Switches, IsSwitched}
use Rattle.bisync_run.specs.CarryingOut.{AreCarriedOut}
use Rattle.bisync_run.specs.ResyncWriting.{AreRewritten, next_base}
use Rattle.bisync_run.specs.declared.prepared.Prepared.{Prepared}
use Rattle.bisync_run.proofs.LockedFolders.{no_base_past, ready_past}

-- there is no base, or the new one
pub none_or_next : (limit : ℕ) (f g h : WorkFolder) (next : Base) → limit < 2 ^ 64 → HasNoBase limit f → IsReady limit f next → ChangesLock f g → Switches g h
    → HasNoBase limit h ⊎ IsBase limit h (Some next)
none_or_next limit f g h next range none ready lock switches =
    switches.base limit next range (ready_past f g lock limit next ready) None (no_base_past f g lock limit none)

-- the new listings are the base
pub carried_out : (limit : ℕ) (prepared : Prepared) (digest : Option (List ℕ)) (f g h k : WorkFolder) → AreRewritten digest f g → ChangesLock g h → Switches h k
    → IsSwitched limit (next_base prepared) h k → AreCarriedOut limit prepared digest f k
carried_out limit prepared digest f g h k written lock switches done = record {
  base = done.base;
  one_old = ap (λ (w : WorkFolder). w.one_old) switches.rest ∙ ap (λ (w : WorkFolder). w.one_old) lock.rest ∙ written.one_old;
  two_old = ap (λ (w : WorkFolder). w.two_old) switches.rest ∙ ap (λ (w : WorkFolder). w.two_old) lock.rest ∙ written.two_old;
  one_new = done.one_new;
  two_new = done.two_new;
  one_err = ap (λ (w : WorkFolder). w.one_err) switches.rest ∙ ap (λ (w : WorkFolder). w.one_err) lock.rest ∙ written.one_err;
  two_err = ap (λ (w : WorkFolder). w.two_err) switches.rest ∙ ap (λ (w : WorkFolder). w.two_err) lock.rest ∙ written.two_err;
  stored = ap (λ (w : WorkFolder). w.filters_md5) switches.rest ∙ ap (λ (w : WorkFolder). w.filters_md5) lock.rest ∙ written.stored;
}
