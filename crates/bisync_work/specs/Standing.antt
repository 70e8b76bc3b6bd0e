-- What was read of a name, and what is kept of it.
use Rattle.std.specs.Prelude.{◌≡◌, ◌==◌, ◌||◌, ℕ, Bool, true, false, List, Option, Some, None, Result, Ok, Err}
use Rattle.bisync_listing.specs.ListingText.{IsHeader, AreListed}
use Rattle.bisync_listing.specs.FirstBadLine.{IsFirstBadLine}
use Rattle.bisync_listing.specs.declared.faults.ListingFault.{ListingFault}
use Rattle.bisync_listing.specs.declared.faults.ListingFault.TheVariants.{BadLine, OutOfMemory}
use Rattle.bisync_device.specs.WorkFolder.{Held, Absent, WorkFolder}
use Rattle.bisync_work.specs.Base.{HasListing}
use Rattle.bisync_work.specs.Stamps.{HasStamp}
use Rattle.bisync_work.specs.BadNames.{IsBad}
use Rattle.bisync_work.specs.declared.listing_reads.Standing.{Standing}
use Rattle.bisync_work.specs.declared.listing_reads.Standing.TheVariants as standing
use Rattle.bisync_work.specs.declared.listing_reads.ReadFault.{ReadFault}
use Rattle.bisync_work.specs.declared.listing_reads.ReadFault.TheVariants as fault
use Rattle.bisync_work.specs.declared.stamps.Mark.{Mark}
use Rattle.bisync_work.specs.declared.stamps.Mark.TheVariants as mark
use Rattle.bisync_work.specs.declared.stamps.Marks.{Marks}

-- this was read of what stands there
abbrev pub IsStanding : ℕ → Held → Standing → Type 0
IsStanding limit held standing.Absent = held ≡ Absent
IsStanding limit held (standing.Listed header rows) = HasListing limit held header rows
IsStanding limit held (standing.Bad line) = IsBad limit held line

-- a listing that was read has its header and digests exactly where this says
abbrev pub IsListedWell : Standing → Type 0
IsListedWell standing.Absent = Unit {0}
IsListedWell (standing.Listed header rows) = IsHeader header × AreListed header rows
IsListedWell (standing.Bad line) = Unit {0}

-- why a text gave no listing
abbrev pub IsReadFault : ℕ → List ℕ → ReadFault → Type 0
IsReadFault limit text fault.Failed = Unit {0}
IsReadFault limit text fault.OutOfMemory = Unit {0}
IsReadFault limit text (fault.Bad line) = IsFirstBadLine limit text line

-- what a reader's fault is to a name that is read
abbrev pub read_fault : ListingFault → ReadFault
read_fault (BadLine line) = fault.Bad line
read_fault OutOfMemory = fault.OutOfMemory

-- whether the device failed
abbrev pub is_read_failure : {A : Type 0} → Result A ReadFault → Bool
is_read_failure (Ok _) = false
is_read_failure (Err fault.Failed) = true
is_read_failure (Err fault.OutOfMemory) = false
is_read_failure (Err (fault.Bad line)) = false

-- what is kept of a name
abbrev pub IsMark : ℕ → Held → Mark → Type 0
IsMark limit held mark.Absent = held ≡ Absent
IsMark limit held (mark.Stamp stamp) = HasStamp limit held stamp
IsMark limit held (mark.Bad line) = IsBad limit held line

pub record AreMarks (limit : ℕ) (f : WorkFolder) (marks : Marks) : Type 0 where
  pub one : IsMark limit f.one marks.one
  pub two : IsMark limit f.two marks.two
  pub one_old : IsMark limit f.one_old marks.one_old
  pub two_old : IsMark limit f.two_old marks.two_old

abbrev pub bad_line : Mark → Option ℕ
bad_line mark.Absent = None
bad_line (mark.Stamp stamp) = None
bad_line (mark.Bad line) = Some line

abbrev pub is_stamp : ℕ → Mark → Bool
is_stamp n mark.Absent = false
is_stamp n (mark.Stamp stamp) = stamp == n
is_stamp n (mark.Bad line) = false

abbrev pub has_stamp : ℕ → Marks → Bool
has_stamp n marks = is_stamp n marks.one || (is_stamp n marks.two || (is_stamp n marks.one_old || is_stamp n marks.two_old))
