use Rattle.std.proofs.Common.{◌≡◌, ◌≤◌, ◌-◌, List, Some, length}
use Rattle.mdmp_map.specs.declared.range.Range.{Range}
use Rattle.mdmp_lister.specs.Painting.{AreCells, AreCellsTo, ArePainted}
use Rattle.mdmp_c.proofs.addressing.read_range.Given as goal

-- up to a place the range was copied
abbrev pub invariant-runs : goal.invariant-runs
invariant-runs l = record {
  within : l.from ≤ length l.out;
  painted : ArePainted l.paint l.known;
  start : l.paint.start ≡ l.initial.paint.start;
  cells : (seen : List Range) → AreCells (Some l.file) seen l.initial.paint.start l.initial.out l.initial.known
      → AreCellsTo l.from (Some l.file) seen l.range l.initial.paint.start l.out l.known;
}

abbrev pub decreases-runs : goal.decreases-runs
decreases-runs l = length l.out - l.from
