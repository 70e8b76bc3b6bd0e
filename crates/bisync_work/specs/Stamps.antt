-- The stamps that the listings of a work folder have.
use Rattle.std.specs.Prelude.{◌≡◌, ◌≢◌, ◌⊎◌, ◌<◌, ◌≤◌, ℕ}
use Rattle.bisync_tree.specs.Rows.{Rows}
use Rattle.bisync_listing.specs.declared.headers.Header.{Header}
use Rattle.bisync_device.specs.WorkFolder.{Held, WorkFolder}
use Rattle.bisync_work.specs.Base.{HasListing}

-- there is a listing with this stamp
abbrev pub HasStamp : ℕ → Held → ℕ → Type 0
HasStamp limit held n = (header : Header) × (rows : Rows) × HasListing limit held header rows × (header.stamp ≡ n)

abbrev pub LacksStamp : ℕ → Held → ℕ → Type 0
LacksStamp limit held n = (header : Header) (rows : Rows) → HasListing limit held header rows → header.stamp ≢ n

-- one of the four names of a base has a listing with this stamp
abbrev pub IsUsed : ℕ → WorkFolder → ℕ → Type 0
IsUsed limit f n = HasStamp limit f.one n ⊎ (HasStamp limit f.two n ⊎ (HasStamp limit f.one_old n ⊎ HasStamp limit f.two_old n))

-- none of the four names of a base has a listing with this stamp
pub record IsUnused (limit : ℕ) (f : WorkFolder) (n : ℕ) : Type 0 where
  pub one : LacksStamp limit f.one n
  pub two : LacksStamp limit f.two n
  pub one_old : LacksStamp limit f.one_old n
  pub two_old : LacksStamp limit f.two_old n

-- the least number from 1 that none of them has
pub record IsNewStamp (limit : ℕ) (f : WorkFolder) (n : ℕ) : Type 0 where
  pub low : 1 ≤ n
  pub unused : IsUnused limit f n
  pub least : (m : ℕ) → 1 ≤ m → m < n → IsUsed limit f m
