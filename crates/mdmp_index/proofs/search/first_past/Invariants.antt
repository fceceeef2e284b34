use Rattle.std.proofs.Common.{◌-◌, ◌≤◌, ◌<◌, ℕ, length}
use Rattle.mdmp_index.specs.Index.{AreApart}
use Rattle.mdmp_index.specs.Slots.{index_slot, slot_end}
use Rattle.mdmp_index.proofs.search.first_past.Given as goal

abbrev pub invariant-loop-low : goal.invariant-loop-low
invariant-loop-low l = record {
  order : l.low ≤ l.high;
  within : l.high ≤ length l.slots;
  behind : AreApart l.slots → (k : ℕ) → k < l.low → slot_end (index_slot l.slots k) ≤ l.address;
  past : l.high < length l.slots → l.address < slot_end (index_slot l.slots l.high);
}

abbrev pub decreases-loop-low : goal.decreases-loop-low
decreases-loop-low l = l.high - l.low
