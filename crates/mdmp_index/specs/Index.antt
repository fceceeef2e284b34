-- An index of ranges: sorted slots, each of which belongs to the first range that holds its addresses.
use Rattle.std.specs.Prelude.{◌≡◌, ◌≤◌, ◌<◌, ◌+◌, ◌^◌, ◌-◌, ℕ, List, true, false, length}
use Rattle.mdmp_map.specs.declared.range.Range.{Range}
use Rattle.mdmp_map.specs.Ranges.{address_end, holds}
use Rattle.mdmp_index.specs.declared.slot.IndexSlot.{IndexSlot}
use Rattle.mdmp_index.specs.Slots.{covers, range_at, index_slot, slot_end}

-- of some ranges, the one with this number is the first in listing order that holds the address
pub record IsFirstToHold (ranges : List Range) (address number : ℕ) : Type 0 where
  pub within : number < length ranges
  pub held : holds address (range_at ranges number) ≡ true
  pub first : (k : ℕ) → k < number → holds address (range_at ranges k) ≡ false

-- none of the ranges holds the address
abbrev pub IsHeldByNone : List Range → ℕ → Type 0
IsHeldByNone ranges address = (k : ℕ) → k < length ranges → holds address (range_at ranges k) ≡ false

-- none of the slots holds the address
abbrev pub IsInNoSlot : List IndexSlot → ℕ → Type 0
IsInNoSlot slots address = (k : ℕ) → k < length slots → covers address (index_slot slots k) ≡ false

-- a slot before another ends where that one begins, or before
abbrev pub AreApart : List IndexSlot → Type 0
AreApart slots = (k n : ℕ) → k < n → n < length slots → slot_end (index_slot slots k) ≤ (index_slot slots n).start

-- a slot has addresses, all below an edge; its owner is the first of the ranges to hold each of them; and the byte of
-- its first address is in the file where its owner has it
pub record IsSlotOf (ranges : List Range) (edge : ℕ) (s : IndexSlot) : Type 0 where
  pub some : 0 < s.length
  pub below : slot_end s ≤ edge
  pub first : (address : ℕ) → covers address s ≡ true → IsFirstToHold ranges address s.owner
  pub offset : s.offset + (range_at ranges s.owner).start ≡ (range_at ranges s.owner).offset + s.start

-- the slots are an index of the ranges for all addresses below an edge
pub record IsIndexTo (ranges : List Range) (edge : ℕ) (slots : List IndexSlot) : Type 0 where
  pub apart : AreApart slots
  pub each : (k : ℕ) → k < length slots → IsSlotOf ranges edge (index_slot slots k)
  -- an address that no slot holds is held by no range
  pub none : (address : ℕ) → address < edge → IsInNoSlot slots address → IsHeldByNone ranges address

-- the slots are an index of the ranges
abbrev pub IsIndexOf : List Range → List IndexSlot → Type 0
IsIndexOf ranges slots = IsIndexTo ranges address_end slots

-- the range's bytes are at offsets that fit; it may have no bytes
abbrev pub OffsetsFit : Range → Type 0
OffsetsFit r = r.offset + r.length ≤ 2 ^ 64 - 1
