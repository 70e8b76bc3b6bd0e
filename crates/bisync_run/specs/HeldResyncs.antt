-- What a resync that holds the lock leaves at its end, before the lock goes.
use Rattle.std.specs.Prelude.{◌≡◌, ◌⊎◌, ◌++◌, ℕ, List, Bool, true, false, Result, Ok, Err}
use Rattle.bisync_tree.specs.declared.sides.Side.TheVariants.{One, Two}
use Rattle.bisync_tree.specs.declared.options.Prefer.{Prefer}
use Rattle.bisync_report.specs.declared.ends.End.{End}
use Rattle.bisync_report.specs.declared.ends.End.TheVariants.{Resynced, DryRun}
use Rattle.bisync_run.specs.EndKinds.{may_have_changed, is_sink_fault}
use Rattle.bisync_run.specs.Resyncs.{resync_changes, resync_lines}
use Rattle.bisync_run.specs.Sides.{Sides}
use Rattle.bisync_run.specs.Untouched.{Remotes, AreUntouched}

-- the end of a course, good or not
abbrev pub end_of : Result End End → End
end_of (Ok end) = end
end_of (Err end) = end

-- the good end is that of a dry run, or tells the numbers of changes
abbrev pub IsGoodEndOf : Bool → Prefer → Sides → End → Type 0
IsGoodEndOf dry_run mode s DryRun = dry_run ≡ true
IsGoodEndOf dry_run mode s (Resynced one two) = (dry_run ≡ false) × (one ≡ resync_changes mode s One) × (two ≡ resync_changes mode s Two)
IsGoodEndOf dry_run mode s end = ⊥

-- A course that ended well was accepted, and told the lines of the plan. Any other told nothing, touched no side and kept what
-- is kept; or was accepted and told them, where it may have made changes. Of a sink that failed nothing is said here.
abbrev pub TellsPlan : Prefer → Bool → Sides → Remotes → Remotes → Type 0 → Type 0 → (End → Type 0) → List ℕ → List ℕ → Result End End → Type 0
TellsPlan mode dry_run s start now IsKept IsAccepted HasFallen before after (Ok end) = IsAccepted × (after ≡ before ++ resync_lines mode s)
TellsPlan mode dry_run s start now IsKept IsAccepted HasFallen before after (Err end) =
    (is_sink_fault end ≡ true)
    ⊎ (((after ≡ before) × AreUntouched start now × IsKept)
    ⊎ ((may_have_changed end ≡ true) × (dry_run ≡ false) × HasFallen end × IsAccepted × (after ≡ before ++ resync_lines mode s)))
