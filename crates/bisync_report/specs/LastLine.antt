-- The last line, by the end. The texts are this project's own.
use Rattle.std.specs.Prelude.{ℕ, List, [], ◌∷◌, ◌++◌, codes, Option, Some, None}
use Rattle.std.specs.Fmt.{decimal}
use Rattle.hex.specs.Hex.{encode_lower}
use Rattle.bisync_text.specs.Quote.{quoted}
use Rattle.bisync_text.specs.Time.{time_spelling}
use Rattle.bisync_tree.specs.Rows.{PathBytes}
use Rattle.bisync_tree.specs.declared.sides.Side.{Side}
use Rattle.bisync_tree.specs.declared.expiries.Until.{Until}
use Rattle.bisync_tree.specs.declared.expiries.Until.TheVariants.{Unreadable, Never, At}
use Rattle.bisync_listing.specs.Spelling.{fields_text}
use Rattle.bisync_opts.specs.declared.faults.UsageKind.{UsageKind}
use Rattle.bisync_opts.specs.declared.faults.UsageKind.TheVariants.{Command, Words, Value, Together}
use Rattle.bisync_report.specs.Names.{side_text, option_text, work_text}
use Rattle.bisync_report.specs.declared.ends.Need.{Need}
use Rattle.bisync_report.specs.declared.ends.Need.TheVariants.{NoBase, NotRecovering, FieldsChanged}
use Rattle.bisync_report.specs.declared.ends.End.{End}
use Rattle.bisync_report.specs.declared.ends.End.TheVariants.{Done, Resynced, DryRun, InSync, Demo, Usage, WorkFault, NoFilters, BadRule, Locked, FiltersChanged, BadListing, NeedResync, ListingsDiffer, EmptyPrior, RemoteFault, BadPath, TooMany, CheckAccess, EmptyCurrent, TooManyDeletes, AllChanged, NameTooLong, ListingTooLong, OutOfSync, Moved, SinkFault, LockLeft, FoldersLeft, KeepFault, Checked, NotBuilt, OutOfMemory}

abbrev pub usage_text : UsageKind → List ℕ
usage_text Command = codes "usage: no such command"
usage_text Words = codes "usage: words refused"
usage_text (Value name) = codes "usage: bad value of " ++ option_text name
usage_text Together = codes "usage: these options do not go together"

abbrev pub lock_text : Until → List ℕ
lock_text Unreadable = codes "locked, lock is unreadable"
lock_text Never = codes "locked without end"
lock_text (At moment) = codes "locked until " ++ time_spelling moment

abbrev pub need_text : Need → List ℕ
need_text NoBase = codes "no listings, run with --resync"
need_text NotRecovering = codes "last run did not end, run with --recover or --resync"
need_text (FieldsChanged stored) = codes "listings were made with " ++ (fields_text stored ++ codes ", run with --resync")

-- a digest, or `-` where there is none
abbrev pub stored_text : Option (List ℕ) → List ℕ
stored_text None = codes "-"
stored_text (Some digest) = encode_lower digest

abbrev pub check_text : Side → Option PathBytes → List ℕ
check_text side None = codes "no check file found"
check_text side (Some path) = side_text side ++ (codes ": check file " ++ (quoted path ++ codes " is missing"))

-- the numbers of changes, behind a word for the run
abbrev pub changes_of : List ℕ → ℕ → ℕ → List ℕ
changes_of word one two = word ++ (codes ", " ++ (decimal one ++ (codes " changes on path1, " ++ (decimal two ++ codes " changes on path2"))))

-- what an end says
abbrev pub end_text : End → List ℕ
end_text (Done one two) = changes_of (codes "done") one two
end_text (Resynced one two) = changes_of (codes "resync done") one two
end_text DryRun = codes "dry run, nothing was changed"
end_text InSync = codes "listings agree"
end_text Demo = []
end_text (Usage kind) = usage_text kind
end_text WorkFault = codes "work folder failed"
end_text NoFilters = codes "filters file is not there"
end_text (BadRule line) = codes "filters file: line " ++ (decimal line ++ codes " is no rule")
end_text (Locked until) = lock_text until
end_text (FiltersChanged now stored) = codes "filters file changed: " ++ (encode_lower now ++ (codes ", stored " ++ stored_text stored))
end_text (BadListing name line) = work_text name ++ (codes ": line " ++ (decimal line ++ codes " is bad"))
end_text (NeedResync need) = need_text need
end_text (ListingsDiffer path one two) = codes "listings differ at " ++ quoted path
end_text (EmptyPrior side) = side_text side ++ codes ": prior listing is empty"
end_text (RemoteFault side) = side_text side ++ codes ": remote failed"
end_text (BadPath side text) = side_text side ++ (codes ": bad path " ++ quoted text)
end_text (TooMany side files bytes) = side_text side ++ (codes ": too many files, " ++ (decimal files ++ (codes " with " ++ (decimal bytes ++ codes " bytes of names"))))
end_text (CheckAccess side path) = check_text side path
end_text (EmptyCurrent side) = side_text side ++ codes ": no files"
end_text (TooManyDeletes side gone all) = side_text side ++ (codes ": too many deletes, " ++ (decimal gone ++ (codes " of " ++ decimal all)))
end_text (AllChanged side all) = side_text side ++ (codes ": all " ++ (decimal all ++ codes " files changed"))
end_text (NameTooLong side path) = side_text side ++ (codes ": no room for a conflict name of " ++ quoted path)
end_text (ListingTooLong side bytes) = side_text side ++ (codes ": listing of " ++ (decimal bytes ++ codes " bytes is too long"))
end_text (OutOfSync path one two) = codes "out of sync at " ++ quoted path
end_text (Moved side path listed read) = side_text side ++ (codes ": " ++ (quoted path ++ codes " changed during the run"))
end_text (SinkFault done) = codes "output failed"
end_text LockLeft = codes "lock could not be removed"
end_text (FoldersLeft cause) = codes "folders were left"
end_text (KeepFault side) = side_text side ++ codes ": backup folder failed"
end_text (Checked differ) = codes "check done, " ++ (decimal differ ++ codes " differ")
end_text NotBuilt = codes "not built"
end_text OutOfMemory = codes "out of memory"

-- a line of the program, with its newline
abbrev pub named_line : List ℕ → List ℕ
named_line words = codes "bisync: " ++ (words ++ 10 ∷ [])

-- the demonstration has no last line
abbrev pub last_text : End → List ℕ
last_text Demo = []
last_text end = named_line (end_text end)
