use Rattle.std.proofs.Common.{◌≡◌, ◌+◌, None, length, take}
use Rattle.mdmp_lister.specs.Addressing.{FetchesAside}
use Rattle.mdmp_lister.specs.Fault.{IsCaused}
use Rattle.mdmp_lister.specs.Meter.{BooksAside, counts_of}
use Rattle.mdmp_lister.specs.Painting.{AreCells, ArePainted, count_begun, count_known}
use Rattle.mdmp_lister.proofs.addressing.read_block.Given as goal

-- the first ranges were read
abbrev pub invariant-loop-number : goal.invariant-loop-number
invariant-loop-number g l = record {
  painted : ArePainted l.paint l.known;
  start : l.paint.start ≡ l.address;
  cells : AreCells l.initial.meter.source.store.content (take l.number l.map.ranges) l.address l.out l.known;
  books : BooksAside (count_known l.known) (count_known l.known) l.initial.meter l.meter;
  calls : FetchesAside (count_begun l.map.ranges l.address l.known (length l.known)) l.initial.meter.source l.meter.source (counts_of l.initial.meter) (counts_of l.meter);
  caused : IsCaused None l.initial.meter.source l.meter.source;
  looks : l.steps ≡ l.initial.steps + l.number;
}
