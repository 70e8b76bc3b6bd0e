-- What a resync writes in the work folder before its first step.
use Rattle.std.specs.Prelude.{◌≡◌, ◌⊎◌, ℕ, List, Option, Some, None}
use Rattle.hex.specs.Hex.{encode_lower}
use Rattle.bisync_plan.specs.Plans.{header_of}
use Rattle.bisync_device.specs.WorkFolder.{Held, Absent, Kept, WorkFolder, IsSynced, IsSettled}
use Rattle.bisync_work.specs.Base.{Base, IsBase, HasNoBase}
use Rattle.bisync_work.specs.Moves.{moved_over}
use Rattle.bisync_run.specs.declared.prepared.Prepared.{Prepared}

-- the base is as before, or there is none; what was settled still is
pub record Loses (old new : WorkFolder) : Type 0 where
  pub base : (limit : ℕ) (base : Option Base) → IsBase limit old base → IsBase limit new base ⊎ HasNoBase limit new
  pub settled : IsSettled old → IsSettled new

-- all but the names of listings and of the stored digest
abbrev pub but_rewritten : WorkFolder → WorkFolder
but_rewritten f = record f {
  one = Absent;
  two = Absent;
  one_old = Absent;
  two_old = Absent;
  one_new = Absent;
  two_new = Absent;
  one_err = Absent;
  two_err = Absent;
  filters_md5 = Absent;
}

-- the digits of the digest, or what stood there where there is none
abbrev pub stored : Option (List ℕ) → Held → Held
stored None held = held
stored (Some digest) held = Kept (encode_lower digest)

-- the old listings stand under the -err names, and the digest is stored
pub record AreRewritten (digest : Option (List ℕ)) (old new : WorkFolder) : Type 0 where
  pub one : new.one ≡ Absent
  pub two : new.two ≡ Absent
  pub one_old : new.one_old ≡ Absent
  pub two_old : new.two_old ≡ Absent
  pub one_err : new.one_err ≡ moved_over old.one (moved_over old.one_old old.one_err)
  pub two_err : new.two_err ≡ moved_over old.two (moved_over old.two_old old.two_err)
  pub one_synced : IsSynced new.one_new
  pub two_synced : IsSynced new.two_new
  pub stored : new.filters_md5 ≡ stored digest old.filters_md5

-- the new listings of a plan
abbrev pub next_base : Prepared → Base
next_base prepared = record {
  header = header_of prepared.stamp prepared.compare;
  one = prepared.plan.final1;
  two = prepared.plan.final2;
}
