use Rattle.std.proofs.Common.{◌≡◌, ◌≤◌, ◌<◌, ◌-◌, ℕ, length, slice_get, slice_index_or}
use Rattle.mdmp_map.specs.declared.range.Range.{Range}
use Rattle.mdmp_map.specs.Ranges.{range_end}
use Rattle.mdmp_map.proofs.Halving.{IsHalvedTo}
use Rattle.mdmp_map.proofs.halves.first_past.Given as goal

abbrev pub invariant-loop-low : goal.invariant-loop-low
invariant-loop-low g l = record {
  order : l.low ≤ l.high;
  within : l.high ≤ length l.ranges;
  behind : (k : ℕ) → (d : Range) → k < l.low → range_end (slice_index_or l.ranges k d) ≤ l.address;
  past : l.high < length l.ranges → (d : Range) → l.address < range_end (slice_index_or l.ranges l.high d);
  next : l.next ≡ slice_get l.ranges l.high;
  count : IsHalvedTo (length l.ranges) (l.high - l.low) l.initial.steps l.steps;
}

abbrev pub decreases-loop-low : goal.decreases-loop-low
decreases-loop-low g l = l.high - l.low
