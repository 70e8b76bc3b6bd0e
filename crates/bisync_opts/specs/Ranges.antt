-- The values that the options of a command have. Those of single options stand in `bisync_tree`.
use Rattle.bisync_tree.specs.Ranges.{ComparesSome, HasSuffixes, HasPercent, IsLongEnough}
use Rattle.bisync_opts.specs.declared.checks.CheckOpts.{CheckOpts}
use Rattle.bisync_opts.specs.declared.options.Opts.{Opts}

pub record IsInRange (opts : Opts) : Type 0 where
  pub compare : ComparesSome opts.compare
  pub conflict : HasSuffixes opts.conflict
  pub guard : HasPercent opts.guard
  pub lock : IsLongEnough opts.max_lock

abbrev pub IsCheckInRange : CheckOpts → Type 0
IsCheckInRange opts = ComparesSome opts.compare
