use Rattle.std.proofs.Common.{◌≡◌, ◌≤◌, ◌-◌, ◌∷◌, ◌++◌, List, None, length}
use Rattle.mdmp_map.specs.declared.range.Range.{Range}
use Rattle.mdmp_lister.specs.Fault.{IsCaused}
use Rattle.mdmp_lister.specs.Painting.{AreCells, AreCellsTo, ArePainted, BooksNewly, FetchesBegun}
use Rattle.mdmp_lister.proofs.Begun.{IsPassedAt}
use Rattle.mdmp_lister.proofs.addressing.read_range.Given as goal

-- up to a place the range was read
abbrev pub invariant-runs : goal.invariant-runs
invariant-runs g l = record {
  within : l.from ≤ length l.out;
  painted : ArePainted l.paint l.known;
  start : l.paint.start ≡ l.initial.paint.start;
  cells : (seen : List Range) → AreCells l.initial.meter.source.store.content seen l.initial.paint.start l.initial.out l.initial.known
      → AreCellsTo l.from l.initial.meter.source.store.content seen l.range l.initial.paint.start l.out l.known;
  edge : IsPassedAt l.paint l.range l.from;
  books : BooksNewly l.initial.known l.known l.initial.meter l.meter;
  calls : (seen rest : List Range) → AreCells l.initial.meter.source.store.content seen l.initial.paint.start l.initial.out l.initial.known
      → FetchesBegun (seen ++ l.range ∷ rest) l.initial.paint.start l.initial.known l.known l.initial.meter l.meter;
  caused : IsCaused None l.initial.meter.source l.meter.source;
}

abbrev pub decreases-runs : goal.decreases-runs
decreases-runs g l = length l.out - l.from
