-- The listings of a base and the filters file in a work folder.
use Rattle.std.specs.Prelude.{◌≡◌}
use Rattle.bisync_device.specs.WorkFolder.{WorkFolder}

-- the same stands under the names of the listings of a base and of the filters file
pub record ReadsAlike (f g : WorkFolder) : Type 0 where
  pub one : g.one ≡ f.one
  pub two : g.two ≡ f.two
  pub one_old : g.one_old ≡ f.one_old
  pub two_old : g.two_old ≡ f.two_old
  pub filters : g.filters ≡ f.filters
