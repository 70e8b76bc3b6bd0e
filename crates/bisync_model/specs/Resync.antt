-- A resync makes both sides hold every passing path. After `--resync` and `--resync-mode` of rclone's manual page "bisync";
-- that Path1 wins a tie is this project's own.
use Rattle.std.specs.Prelude.{ℕ, List, [], Option, Some, None, unwrap_or, flat_map, if◌then◌else◌}
use Rattle.bisync_tree.specs.Side.{other, is_side}
use Rattle.bisync_tree.specs.Rows.{PathBytes}
use Rattle.bisync_tree.specs.Same.{same}
use Rattle.bisync_tree.specs.declared.sides.Side.{Side}
use Rattle.bisync_tree.specs.declared.sides.Side.TheVariants.{One, Two}
use Rattle.bisync_tree.specs.declared.files.File.{File}
use Rattle.bisync_tree.specs.declared.entries.Entry.{Entry}
use Rattle.bisync_tree.specs.declared.steps.Step.{Step}
use Rattle.bisync_model.specs.Trees.{Trees}
use Rattle.bisync_model.specs.Policy.{Policy}
use Rattle.bisync_model.specs.Entries.{Entries}
use Rattle.bisync_model.specs.Known.{Known}
use Rattle.bisync_model.specs.Conflict.{winner}
use Rattle.bisync_model.specs.Outcome.{carried}
use Rattle.bisync_model.specs.Plan.{copied}
use Rattle.bisync_model.specs.Changes.{one_if}
use Rattle.bisync_model.specs.Finals.{carried_entry}

-- the side whose file goes to the other: the only one that has a file, or where both have one and they differ the winner
-- of the mode, which stands in place of `--conflict-resolve`, and Path1 where nobody wins
abbrev pub source : Policy → Option Entry → Option Entry → Option Side
source policy None None = None
source policy (Some one) None = Some One
source policy None (Some two) = Some Two
source policy (Some one) (Some two) =
    if same policy.compare (Some one) (Some two) then None
    else Some (unwrap_or (winner policy.prefer policy.compare.window one two) One)

-- the source of a path: none, where it doesn't pass
abbrev pub source_at : Known → PathBytes → Option Side
source_at known p = if known.policy.passes p then source known.policy (known.now One p) (known.now Two p) else None

-- the source's file, which it keeps and which is brought to the other side, or each side's own
abbrev pub brought_from : Known → Trees → Option Side → PathBytes → Side → Option File
brought_from known start None p side = start side p
brought_from known start (Some from) p side = carried known start from p side

-- what each side has after a resync
abbrev pub resync_outcome : Known → Trees → Trees
resync_outcome known start side p = brought_from known start (source_at known p) p side

-- the copy from the source, if there is one
abbrev pub resync_steps : Known → PathBytes → Option Side → List Step
resync_steps known p None = []
resync_steps known p (Some from) = copied from p (known.now from p)

-- copies, path by path
abbrev pub resync_plan : Known → List PathBytes → List Step
resync_plan known paths = flat_map (λ p. resync_steps known p (source_at known p)) paths

-- the change of that copy, on the side that gets the file
abbrev pub copy_changes : Option Side → Side → ℕ
copy_changes None side = 0
copy_changes (Some from) side = one_if (is_side side (other from))

-- the changes that a resync makes on a side for a path
abbrev pub resync_changes_at : Known → Side → PathBytes → ℕ
resync_changes_at known side p = copy_changes (source_at known p) side

-- the entry of what a source leaves on a side
abbrev pub entry_from : Known → Option Side → PathBytes → Side → Option Entry
entry_from known None p side = known.now side p
entry_from known (Some from) p side = carried_entry known from p side

-- what the final listing of a side says of a path after a resync
abbrev pub resync_entry : Known → Entries
resync_entry known side p = if known.policy.passes p then entry_from known (source_at known p) p side else None
