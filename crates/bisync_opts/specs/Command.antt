-- The commands `bisync` and `check` as clap takes them: two paths, flags and options with a text.
-- The words begin behind the command's name, and there is no help flag. Nothing else is set, so each word is read as
-- clap reads those of a simple command.
use Rattle.std.specs.Prelude.{ℕ, List, [], ◌∷◌, Some, true, codes, fold}
use Rattle.clap.specs.Walk.{Rule, Text}
use Rattle.clap.specs.Simple.{App, new_rule, new_shape, with_rule}
use Rattle.clap.specs.declared.builder.action.ArgAction.TheVariants.{Set, SetTrue}

-- a word that has to be there
abbrev pub path_rule : Text → Rule
path_rule name = record (new_rule name) { action = Some Set; required = true }

-- `--name`
abbrev pub flag_rule : Text → Rule
flag_rule name = record (new_rule name) { long = Some name; action = Some SetTrue }

-- `--name`, or `-letter`
abbrev pub short_flag_rule : Text → ℕ → Rule
short_flag_rule name letter = record (flag_rule name) { short = Some letter }

-- `--name text` or `--name=text`
abbrev pub option_rule : Text → Rule
option_rule name = record (new_rule name) { long = Some name; action = Some Set }

abbrev pub with_rules : App → List Rule → App
with_rules = fold with_rule

-- a command without options, that is given the words after its name
abbrev pub plain_app : Text → App
plain_app name = record {
  top = record (new_shape name) { no_binary_name = true; disable_help_flag = true };
  subs = [];
}

abbrev pub path_rules : List Rule
path_rules =
    path_rule (codes "PATH1")
    ∷ path_rule (codes "PATH2")
    ∷ []

abbrev pub resync_rules : List Rule
resync_rules =
    short_flag_rule (codes "resync") 49
    ∷ option_rule (codes "resync-mode")
    ∷ []

abbrev pub compare_rules : List Rule
compare_rules =
    option_rule (codes "compare")
    ∷ option_rule (codes "time-window")
    ∷ []

abbrev pub conflict_rules : List Rule
conflict_rules =
    option_rule (codes "conflict-resolve")
    ∷ option_rule (codes "conflict-loser")
    ∷ option_rule (codes "conflict-suffix")
    ∷ []

abbrev pub guard_rules : List Rule
guard_rules =
    option_rule (codes "max-delete")
    ∷ flag_rule (codes "force")
    ∷ flag_rule (codes "check-access")
    ∷ option_rule (codes "check-filename")
    ∷ option_rule (codes "check-sync")
    ∷ []

abbrev pub place_rules : List Rule
place_rules =
    option_rule (codes "filters-file")
    ∷ option_rule (codes "workdir")
    ∷ option_rule (codes "backup-dir1")
    ∷ option_rule (codes "backup-dir2")
    ∷ []

abbrev pub course_rules : List Rule
course_rules =
    flag_rule (codes "resilient")
    ∷ flag_rule (codes "recover")
    ∷ option_rule (codes "max-lock")
    ∷ short_flag_rule (codes "dry-run") 110
    ∷ flag_rule (codes "create-empty-src-dirs")
    ∷ flag_rule (codes "remove-empty-dirs")
    ∷ flag_rule (codes "track-renames")
    ∷ []

-- `bisync PATH1 PATH2` with its options
unfoldable pub bisync_app : App
bisync_app =
    let app = with_rules (plain_app (codes "bisync")) path_rules in
    let app = with_rules app resync_rules in
    let app = with_rules app compare_rules in
    let app = with_rules app conflict_rules in
    let app = with_rules app guard_rules in
    let app = with_rules app place_rules in
    with_rules app course_rules

-- `check PATH1 PATH2` with its options
unfoldable pub check_app : App
check_app = with_rules (with_rules (plain_app (codes "check")) path_rules) compare_rules
