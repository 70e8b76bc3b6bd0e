use Rattle.std.proofs.Common.{length}
use Rattle.std.specs.List.{flat_map}
use Rattle.bisync_report.specs.Lines.{delta_lines}
use Rattle.bisync_report.proofs.LineLaws.{PutsUpTo}
use Rattle.bisync_report.proofs.delta_lines.put_cells.Given as goal

abbrev pub invariant-loop-cell : goal.invariant-loop-cell
invariant-loop-cell g l = PutsUpTo g.S.Sink.tells (flat_map (delta_lines l.compare) l.fn.walk) (flat_map (delta_lines l.compare) l.walk) l.fn.waiting (g.S.Sink.state l.fn.sink) l.waiting (g.S.Sink.state l.sink)

abbrev pub decreases-loop-cell : goal.decreases-loop-cell
decreases-loop-cell g l = length l.walk
