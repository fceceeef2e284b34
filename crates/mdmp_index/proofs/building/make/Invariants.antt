use Rattle.mdmp_index.specs.Cells.{ArePlaced, AreTaken, SkipsTaken, StartsRise}
use Rattle.mdmp_index.proofs.building.make.Given as goal

abbrev pub invariant-loop-number : goal.invariant-loop-number
invariant-loop-number g l = record {
  placed : ArePlaced (g.R.Ranges.ranges l.ranges) l.cells;
  rise : StartsRise l.cells;
  skips : SkipsTaken l.cells;
  taken : AreTaken (g.R.Ranges.ranges l.ranges) l.number l.cells;
}
