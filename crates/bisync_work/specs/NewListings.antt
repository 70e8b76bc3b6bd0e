-- What the writing of new listings leaves.
use Rattle.std.specs.Prelude.{◌≡◌}
use Rattle.bisync_tree.specs.Rows.{Rows}
use Rattle.bisync_listing.specs.Spelling.{listing_text}
use Rattle.bisync_listing.specs.declared.headers.Header.{Header}
use Rattle.bisync_device.specs.WorkFolder.{Absent, Kept, WorkFolder}

-- the texts of two listings of one header stand under the -new names, synced
pub record AreWritten (header : Header) (rows others : Rows) (f : WorkFolder) : Type 0 where
  pub one : f.one_new ≡ Kept (listing_text header rows)
  pub two : f.two_new ≡ Kept (listing_text header others)

-- all but the names of the new listings
abbrev pub but_new : WorkFolder → WorkFolder
but_new f = record f { one_new = Absent; two_new = Absent }
