use Rattle.std.proofs.Common.{◌≡◌, ◌≤◌, ◌<◌, ◌+◌, ◌-◌, None, false, length, take}
use Rattle.mdmp_lister.specs.Addressing.{FetchesAside, HalvesAtMost, ReadsCells, is_same_range, stretches_at}
use Rattle.mdmp_lister.specs.Meter.{BooksAside, counts_of}
use Rattle.mdmp_map.specs.Ranges.{first_range}
use Rattle.mdmp_lister.specs.Fault.{IsCaused}
use Rattle.mdmp_lister.proofs.addressing.read_stretches.Given as goal

-- the first cells were read
abbrev pub invariant-loop-done : goal.invariant-loop-done
invariant-loop-done g l = record {
  within : l.done ≤ length l.initial.out;
  read : ReadsCells l.initial.meter.source.store.content l.map.ranges l.address (take l.done l.out) (take l.done l.known);
  calls : FetchesAside (stretches_at l.map.ranges l.address l.done) l.initial.meter.source l.meter.source (counts_of l.initial.meter) (counts_of l.meter);
  edge : 0 < l.done → l.done < length l.initial.out → is_same_range (first_range l.map.ranges (l.address + (l.done - 1))) (first_range l.map.ranges (l.address + l.done)) ≡ false;
  books : BooksAside l.done l.done l.initial.meter l.meter;
  caused : IsCaused None l.initial.meter.source l.meter.source;
  looks : HalvesAtMost (length l.map.ranges) l.done l.initial.steps l.steps;
}

abbrev pub decreases-loop-done : goal.decreases-loop-done
decreases-loop-done g l = length l.out - l.done
