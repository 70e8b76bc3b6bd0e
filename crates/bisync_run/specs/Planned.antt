-- Plans of what was seen, whatever the remotes tell: of two trees, of which a side that tells has its own.
use Rattle.std.specs.Prelude.{◌≡◌, Bool, IsTrue}
use Rattle.bisync_tree.specs.Tree.{Tree}
use Rattle.bisync_tree.specs.declared.sides.Side.{Side}
use Rattle.bisync_tree.specs.declared.sides.Side.TheVariants.{One, Two}
use Rattle.bisync_tree.specs.declared.options.Prefer.{Prefer}
use Rattle.bisync_opts.specs.declared.options.Opts.{Opts}
use Rattle.bisync_plan.specs.Plans.{IsResyncOf}
use Rattle.bisync_plan.specs.declared.plans.Plan.{Plan}
use Rattle.bisync_run.specs.OrdinaryLooks.{IsPlannedFrom}
use Rattle.bisync_run.specs.Sides.{Sides, resync_known, resync_paths}
use Rattle.bisync_run.specs.declared.starting.Started.{Started}

-- the same, but that these are the trees
abbrev pub with_trees : Sides → Tree → Tree → Sides
with_trees s one two = record s { one = one; two = two }

pub record IsPlannedOver (tells : Side → Bool) (opts : Opts) (s : Sides) (started : Started) (made : Plan) : Type 0 where
  pub one : Tree
  pub two : Tree
  pub own1 : IsTrue (tells One) → one ≡ s.one
  pub own2 : IsTrue (tells Two) → two ≡ s.two
  pub plan : IsPlannedFrom opts (with_trees s one two) started made

pub record IsResyncOver (tells : Side → Bool) (mode : Prefer) (s : Sides) (made : Plan) : Type 0 where
  pub one : Tree
  pub two : Tree
  pub own1 : IsTrue (tells One) → one ≡ s.one
  pub own2 : IsTrue (tells Two) → two ≡ s.two
  pub plan : IsResyncOf (resync_known mode (with_trees s one two)) (resync_paths (with_trees s one two)) made
