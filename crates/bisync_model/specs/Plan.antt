-- The steps of a run, in their order. This project's own.
use Rattle.std.specs.Prelude.{List, [], ◌∷◌, ◌++◌, Option, Some, None, flat_map, if◌then◌else◌}
use Rattle.bisync_tree.specs.Rows.{PathBytes}
use Rattle.bisync_tree.specs.declared.sides.Side.{Side}
use Rattle.bisync_tree.specs.declared.sides.Side.TheVariants.{One, Two}
use Rattle.bisync_tree.specs.declared.entries.Entry.{Entry}
use Rattle.bisync_tree.specs.declared.classes.Rule.{Rule}
use Rattle.bisync_tree.specs.declared.classes.Rule.TheVariants.{Nothing, Copy as CopyFrom, Delete as DeleteOn, Conflict}
use Rattle.bisync_tree.specs.declared.steps.Given.{Given}
use Rattle.bisync_tree.specs.declared.steps.Step.{Step}
use Rattle.bisync_tree.specs.declared.steps.Step.TheVariants.{Copy, Rename, Delete}
use Rattle.bisync_model.specs.Known.{Known}
use Rattle.bisync_model.specs.Table.{rule_at}
use Rattle.bisync_model.specs.Conflict.{winner_at, is_named_loser}
use Rattle.bisync_model.specs.Names.{name_for}

-- a listed file is copied from this side to the other
abbrev pub copied : Side → PathBytes → Option Entry → List Step
copied from p None = []
copied from p (Some listed) = Copy from p listed ∷ []

-- a listed file is deleted on this side
abbrev pub deleted : Side → PathBytes → Option Entry → List Step
deleted side p None = []
deleted side p (Some listed) = Delete side p listed ∷ []

-- a listed loser is renamed on its side, and copied under its name to the other side
abbrev pub moved : Side → PathBytes → Option PathBytes → Option Entry → List Step
moved side p (Some name) (Some listed) = Rename side p name listed ∷ Copy side name listed ∷ []
moved side p (Some name) None = []
moved side p None listed = []

-- the steps of a side's file that loses and gets a name
abbrev pub loser_steps : Known → List Given → PathBytes → Side → List Step
loser_steps known names p side =
    if is_named_loser known p side then moved side p (name_for names p side) (known.now side p) else []

-- the copy of the file that wins, if one does
abbrev pub winner_steps : Known → PathBytes → Option Side → List Step
winner_steps known p None = []
winner_steps known p (Some winner) = copied winner p (known.now winner p)

-- the deletes of a rule
abbrev pub deletes_by : Known → PathBytes → Rule → List Step
deletes_by known p (DeleteOn side) = deleted side p (known.now side p)
deletes_by known p Nothing = []
deletes_by known p (CopyFrom from) = []
deletes_by known p Conflict = []

-- the other steps of a rule; in a conflict first Path1's loser, then Path2's, then the winner
abbrev pub moves_by : Known → List Given → PathBytes → Rule → List Step
moves_by known names p (CopyFrom from) = copied from p (known.now from p)
moves_by known names p Conflict =
    loser_steps known names p One ++ loser_steps known names p Two ++ winner_steps known p (winner_at known p)
moves_by known names p Nothing = []
moves_by known names p (DeleteOn side) = []

-- first all deletes, and then the steps of all other paths, path by path
abbrev pub plan : Known → List Given → List PathBytes → List Step
plan known names paths =
    flat_map (λ p. deletes_by known p (rule_at known p)) paths ++ flat_map (λ p. moves_by known names p (rule_at known p)) paths
