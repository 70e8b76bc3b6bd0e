-- The options of a run, from clap's matches: each with its name, its default and the conversion of its text, in the
-- order in which they are judged.
use Rattle.std.specs.Prelude.{Bool, List, [], Option, Some, None, Result, Ok, Err, codes, if◌then◌else◌}
use Rattle.std.specs.Bool.{then_some}
use Rattle.clap.specs.Walk.{Row, first_of}
use Rattle.bisync_tree.specs.declared.entries.Compare.{Compare}
use Rattle.bisync_tree.specs.declared.options.ConflictRule.{ConflictRule}
use Rattle.bisync_tree.specs.declared.options.GuardRule.{GuardRule}
use Rattle.bisync_tree.specs.declared.options.Prefer.{Prefer}
use Rattle.bisync_tree.specs.declared.options.Prefer.TheVariants as prefer
use Rattle.bisync_opts.specs.Choices.{preference, loser, window, check_sync}
use Rattle.bisync_opts.specs.Command.{bisync_app, check_app}
use Rattle.bisync_opts.specs.Conversions.{filled, fields, suffixes, percent, one_name, max_lock}
use Rattle.bisync_opts.specs.Reading.{◌>>=◌, utf8_words, taken, text_of, is_set, value, if_given}
use Rattle.bisync_opts.specs.Texts.{Text}
use Rattle.bisync_opts.specs.Together.{clashes}
use Rattle.bisync_opts.specs.declared.faults.OptName.TheVariants as name
use Rattle.bisync_opts.specs.declared.faults.UsageKind.{UsageKind}
use Rattle.bisync_opts.specs.declared.faults.UsageKind.TheVariants.{Together}
use Rattle.bisync_opts.specs.declared.options.FolderMode.{FolderMode}
use Rattle.bisync_opts.specs.declared.options.FolderMode.TheVariants.{Create, Remove}
use Rattle.bisync_opts.specs.declared.options.Opts.{Opts}
use Rattle.bisync_opts.specs.declared.places.Places.{Places}
use Rattle.bisync_opts.specs.declared.places.Roots.{Roots}
use Rattle.bisync_opts.specs.declared.checks.CheckOpts.{CheckOpts}

-- a run is a resync where `--resync` is given or a mode is; without a mode Path1 wins
abbrev pub resync_of : Bool → Prefer → Option Prefer
resync_of given prefer.Nobody = if given then Some prefer.Path1 else None
resync_of given mode = Some mode

abbrev pub folders_of : Bool → Bool → Option FolderMode
folders_of create remove = if create then Some Create else if remove then Some Remove else None

-- what is compared, where the fields have that default
unfoldable pub compare_of : Text → List Row → Result Compare UsageKind
compare_of default matches = do
  fields ← value name.Compare (fields (text_of matches (codes "compare") default))
  window ← value name.TimeWindow (window (text_of matches (codes "time-window") (codes "1ns")))
  Ok (record fields { window = window })

unfoldable pub conflict_of : List Row → Result ConflictRule UsageKind
conflict_of matches = do
  prefer ← value name.ConflictResolve (preference (text_of matches (codes "conflict-resolve") (codes "none")))
  loser ← value name.ConflictLoser (loser (text_of matches (codes "conflict-loser") (codes "num")))
  suffixes ← value name.ConflictSuffix (suffixes (text_of matches (codes "conflict-suffix") (codes "conflict")))
  Ok (record { prefer = prefer; loser = loser; suffix1 = suffixes.0; suffix2 = suffixes.1 })

unfoldable pub guard_of : List Row → Result GuardRule UsageKind
guard_of matches = do
  max_delete ← value name.MaxDelete (percent (text_of matches (codes "max-delete") (codes "50")))
  check ← value name.CheckFilename (one_name (text_of matches (codes "check-filename") (codes "RCLONE_TEST")))
  Ok (record {
    check = then_some (is_set matches (codes "check-access")) check;
    max_delete = max_delete;
    force = is_set matches (codes "force");
  })

unfoldable pub roots_of : List Row → Result Roots UsageKind
roots_of matches = do
  root1 ← value name.Path1 (filled (text_of matches (codes "PATH1") []))
  root2 ← value name.Path2 (filled (text_of matches (codes "PATH2") []))
  Ok (record { root1 = root1; root2 = root2 })

unfoldable pub places_of : List Row → Result Places UsageKind
places_of matches = do
  filters ← if_given name.FiltersFile (first_of (codes "filters-file") matches)
  workdir ← value name.Workdir (filled (text_of matches (codes "workdir") (codes "bisync-work")))
  backup1 ← if_given name.BackupDir1 (first_of (codes "backup-dir1") matches)
  backup2 ← if_given name.BackupDir2 (first_of (codes "backup-dir2") matches)
  Ok (record { filters = filters; workdir = workdir; backup1 = backup1; backup2 = backup2 })

unfoldable pub converted : List Row → Result Opts UsageKind
converted matches = do
  roots ← roots_of matches
  mode ← value name.ResyncMode (preference (text_of matches (codes "resync-mode") (codes "none")))
  compare ← compare_of (codes "size,modtime") matches
  conflict ← conflict_of matches
  guard ← guard_of matches
  sync ← value name.CheckSync (check_sync (text_of matches (codes "check-sync") (codes "true")))
  places ← places_of matches
  lock ← value name.MaxLock (max_lock (text_of matches (codes "max-lock") (codes "0")))
  Ok (record {
    root1 = roots.root1;
    root2 = roots.root2;
    workdir = places.workdir;
    filters = places.filters;
    resync = resync_of (is_set matches (codes "resync")) mode;
    compare = compare;
    conflict = conflict;
    guard = guard;
    check_sync = sync;
    resilient = is_set matches (codes "resilient");
    recover = is_set matches (codes "recover");
    max_lock = lock;
    dry_run = is_set matches (codes "dry-run");
    folders = folders_of (is_set matches (codes "create-empty-src-dirs")) (is_set matches (codes "remove-empty-dirs"));
    backup1 = places.backup1;
    backup2 = places.backup2;
    track_renames = is_set matches (codes "track-renames");
  })

abbrev pub unless_clashing : List Row → Opts → Result Opts UsageKind
unless_clashing matches opts = if clashes matches opts then Err Together else Ok opts

unfoldable pub options_from : List Row → Result Opts UsageKind
options_from matches = do
  opts ← converted matches
  unless_clashing matches opts

-- the options that the words after `bisync` give, or their refusal
unfoldable pub options_of : List Text → Result Opts UsageKind
options_of words = do
  texts ← utf8_words words
  matches ← taken bisync_app texts
  options_from matches

unfoldable pub check_options_from : List Row → Result CheckOpts UsageKind
check_options_from matches = do
  roots ← roots_of matches
  compare ← compare_of (codes "size,checksum") matches
  Ok (record { root1 = roots.root1; root2 = roots.root2; compare = compare })

-- the options that the words after `check` give, or their refusal
unfoldable pub check_options_of : List Text → Result CheckOpts UsageKind
check_options_of words = do
  texts ← utf8_words words
  matches ← taken check_app texts
  check_options_from matches
