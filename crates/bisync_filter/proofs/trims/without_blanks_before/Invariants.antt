use Rattle.std.proofs.Common.{◌≡◌, ◌≤◌, ◌+◌, ◌-◌, length, drop}
use Rattle.std.specs.List.{prefix_len}
use Rattle.bisync_filter.specs.Trimming.{is_blank}
use Rattle.bisync_filter.proofs.trims.without_blanks_before.Given as goal

abbrev pub invariant-loop-start : goal.invariant-loop-start
invariant-loop-start l = record {
  inside : l.start ≤ length l.text;
  passed : l.start + prefix_len is_blank (drop l.start l.text) ≡ prefix_len is_blank l.text;
}

abbrev pub decreases-loop-start : goal.decreases-loop-start
decreases-loop-start l = length l.text - l.start
