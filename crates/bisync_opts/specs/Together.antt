-- Options that don't go together.
use Rattle.std.specs.Prelude.{Bool, true, false, not, ◌&&◌, ◌||◌, List, codes, is_some}
use Rattle.clap.specs.Walk.{Row}
use Rattle.bisync_opts.specs.Reading.{is_set}
use Rattle.bisync_opts.specs.declared.options.CheckSync.{CheckSync}
use Rattle.bisync_opts.specs.declared.options.CheckSync.TheVariants.{Always, Never, Only}
use Rattle.bisync_opts.specs.declared.options.Opts.{Opts}

abbrev pub is_only : CheckSync → Bool
is_only Always = false
is_only Never = false
is_only Only = true

-- a resync with `--check-sync only`
abbrev pub resync_checks_only : Opts → Bool
resync_checks_only opts = is_some opts.resync && is_only opts.check_sync

-- both ways to treat folders without files
abbrev pub has_both_modes : List Row → Bool
has_both_modes matches = is_set matches (codes "create-empty-src-dirs") && is_set matches (codes "remove-empty-dirs")

-- `--track-renames` where `--compare` has no checksum
abbrev pub renames_without_hash : Opts → Bool
renames_without_hash opts = opts.track_renames && not opts.compare.hash

-- `--track-renames` with a backup folder
abbrev pub renames_with_backup : Opts → Bool
renames_with_backup opts = opts.track_renames && (is_some opts.backup1 || is_some opts.backup2)

abbrev pub clashes : List Row → Opts → Bool
clashes matches opts = resync_checks_only opts || has_both_modes matches || renames_without_hash opts || renames_with_backup opts
