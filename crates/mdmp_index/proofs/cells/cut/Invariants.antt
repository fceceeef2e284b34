use Rattle.mdmp_index.specs.Cells.{AreCuts}
use Rattle.mdmp_index.proofs.cells.cut.Given as goal

abbrev pub invariant-loop-number : goal.invariant-loop-number
invariant-loop-number g l = AreCuts (g.R.Ranges.ranges l.ranges) l.number l.cells
