use Rattle.std.proofs.Common.{◌≡◌, ◌≤◌, ◌<◌, ◌+◌, ◌-◌, ◌*◌, ◌/◌, ◌%◌, None, length, take}
use Rattle.mdmp_lister.specs.Addressing.{FetchesAside, ReadsCells, stretches_at}
use Rattle.mdmp_lister.specs.Meter.{BooksAside, counts_of}
use Rattle.mdmp_lister.specs.Fault.{IsCaused}
use Rattle.mdmp_lister.proofs.addressing.read_blocks.Given as goal

-- the first cells were read, whole blocks of them or all
abbrev pub invariant-loop-done : goal.invariant-loop-done
invariant-loop-done g l = record {
  within : l.done ≤ length l.initial.out;
  whole : l.done < length l.initial.out → l.done % 32768 ≡ 0;
  read : ReadsCells l.initial.meter.source.store.content l.map.ranges l.address (take l.done l.out) (take l.done l.known);
  books : BooksAside l.done l.done l.initial.meter l.meter;
  calls : FetchesAside (stretches_at l.map.ranges l.address l.done + (l.done - 1) / 32768) l.initial.meter.source l.meter.source (counts_of l.initial.meter) (counts_of l.meter);
  caused : IsCaused None l.initial.meter.source l.meter.source;
  looks : l.steps ≤ l.initial.steps + length l.map.ranges * ((l.done + 32767) / 32768);
}

abbrev pub decreases-loop-done : goal.decreases-loop-done
decreases-loop-done g l = length l.out - l.done
