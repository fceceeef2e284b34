use Rattle.std.proofs.Common.{◌≤◌, ◌-◌, List, length}
use Rattle.std.specs.Prelude.{All}
use Rattle.mdmp_map.specs.declared.range.Range.{Range}
use Rattle.mdmp_map.specs.Ranges.{IsWithin}
use Rattle.mdmp_index.specs.Index.{IsIndexOf}
use Rattle.mdmp_index.specs.Reading.{AreSomeBytesOf}
use Rattle.mdmp_index.proofs.BySlots.{IsReadTo}
use Rattle.mdmp_index.proofs.reading.read.Given as goal

abbrev pub invariant-loop-done : goal.invariant-loop-done
invariant-loop-done l = record {
  within : l.done ≤ length l.out;
  index : (ranges : List Range) → IsIndexOf ranges l.slots → All (IsWithin (length l.file)) ranges → IsReadTo l.file ranges l.slots l.address l.done l.number l.out l.known;
  of_file : AreSomeBytesOf l.file l.out l.known;
}

abbrev pub decreases-loop-done : goal.decreases-loop-done
decreases-loop-done l = length l.slots - l.number
