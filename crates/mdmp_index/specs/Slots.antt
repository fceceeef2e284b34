-- Slots, and the addresses that one holds.
use Rattle.std.specs.Prelude.{◌+◌, ℕ, List, Bool, ◌&&◌, nat_le, nat_lt, slice_index_or}
use Rattle.mdmp_map.specs.declared.range.Range.{Range}
use Rattle.mdmp_index.specs.declared.slot.IndexSlot.{IndexSlot}

-- the address after its last one
abbrev pub slot_end : IndexSlot → ℕ
slot_end s = s.start + s.length

-- the slot holds the address
abbrev pub covers : ℕ → IndexSlot → Bool
covers address s = nat_le s.start address && nat_lt address (slot_end s)

abbrev pub no_slot : IndexSlot
no_slot = record { start = 0; length = 0; offset = 0; owner = 0 }

-- the slot with this number
abbrev pub index_slot : List IndexSlot → ℕ → IndexSlot
index_slot slots number = slice_index_or slots number no_slot

abbrev pub no_range : Range
no_range = record { start = 0; length = 0; offset = 0 }

-- the range with this number
abbrev pub range_at : List Range → ℕ → Range
range_at ranges number = slice_index_or ranges number no_range
