-- Which ranges hold an address, and which cells have it.
use Rattle.std.proofs.Common.{◌≡◌, ◌≤◌, ◌<◌, ◌+◌, ◌*◌, ◌∙◌, ℕ, List, true, false, sym, arith, length, inl, inr}
use Rattle.std.proofs.lemmas.Bool.{cases_lt, cases_Bool}
use Rattle.std.proofs.lemmas.Bool.Decides.{nat_tests}
use Rattle.mdmp_map.specs.declared.range.Range.{Range}
use Rattle.mdmp_map.specs.RangeLaws.{holds_parts}
use Rattle.mdmp_map.specs.Ranges.{address_end, holds, range_end}
use Rattle.mdmp_index.specs.declared.slot.IndexSlot.{IndexSlot}
use Rattle.mdmp_index.specs.Cells.{ArePlaced, StartsRise, cell_of, edge_at, start_at}
use Rattle.mdmp_index.specs.Index.{IsFirstToHold, IsHeldByNone}
use Rattle.mdmp_index.specs.Slots.{covers, range_at, index_slot, slot_end}

pub held : (a : ℕ) (r : Range) → a < address_end → r.start ≤ a → a < range_end r → holds a r ≡ true
held a r below from to = grind (arith, nat_tests)

pub begins_behind : (a : ℕ) (r : Range) → a < r.start → holds a r ≡ false
begins_behind a r lt = grind (arith, nat_tests)

pub ends_before : (a : ℕ) (r : Range) → range_end r ≤ a → holds a r ≡ false
ends_before a r le = grind (arith, nat_tests)

pub covered : (a : ℕ) (s : IndexSlot) → s.start ≤ a → a < slot_end s → covers a s ≡ true
covered a s from to = grind (arith, nat_tests)

pub cover_parts : (a : ℕ) (s : IndexSlot) → covers a s ≡ true → (s.start ≤ a) × (a < slot_end s)
cover_parts a s is = grind (arith, nat_tests)

-- ---- where cells end

pub edge_within : (cells : List IndexSlot) (k : ℕ) → k < length cells → edge_at cells k ≡ start_at cells k
edge_within cells k within = grind (arith, nat_tests)

pub edge_past : (cells : List IndexSlot) (k : ℕ) → length cells ≤ k → edge_at cells k ≡ address_end
edge_past cells k past = grind (arith, nat_tests)

pub edge_rises : (cells : List IndexSlot) (k : ℕ) → StartsRise cells → k < length cells → edge_at cells k ≤ address_end → edge_at cells k ≤ edge_at cells (k + 1)
edge_rises cells k rise within below = elim (cases_lt (k + 1) (length cells)) [
  | inl lt ↦ omega (arith, edge_within cells k within, edge_within cells (k + 1) lt, rise k (k + 1) (omega arith) lt)
  | inr past ↦ omega (arith, below, edge_past cells (k + 1) past)
]

pub same_edge_at : (old new : List IndexSlot) (k : ℕ) → length new ≡ length old → index_slot new k ≡ index_slot old k → edge_at new k ≡ edge_at old k
same_edge_at old new k count same = cc (count, same)

-- a cell that begins behind another begins at its end, or behind it
pub edge_before : (cells : List IndexSlot) (k n : ℕ) → StartsRise cells → k < n → n < length cells → edge_at cells (k + 1) ≤ start_at cells n
edge_before cells k n rise lt within =
    omega (arith, edge_within cells (k + 1) (omega (arith, lt, within)), rise (k + 1) n (omega (arith, lt)) within)

-- ---- a range holds a cell wholly, or not at all

begun : (ranges : List Range) (cells : List IndexSlot) (k address n : ℕ) → ArePlaced ranges cells → StartsRise cells → k < length cells → address < edge_at cells (k + 1)
    → n < length ranges → (range_at ranges n).start ≤ address → (range_at ranges n).start ≤ start_at cells k
begun ranges cells k address n placed rise within before in_n from =
    let at = placed.starts n in_n in
    elim (cases_lt k (cell_of cells (2 * n))) [
      | inl lt ↦ absurd (omega (arith, at.start, edge_before cells k (cell_of cells (2 * n)) rise lt at.within, before, from))
      | inr le ↦ omega (arith, at.start, rise (cell_of cells (2 * n)) k le within)
    ]

not_ended : (ranges : List Range) (cells : List IndexSlot) (k address n : ℕ) → ArePlaced ranges cells → StartsRise cells → k < length cells → address < edge_at cells (k + 1)
    → address < address_end → n < length ranges → start_at cells k < range_end (range_at ranges n) → address < range_end (range_at ranges n)
not_ended ranges cells k address n placed rise within before below in_n to =
    elim (cases_lt (range_end (range_at ranges n)) address_end) [
      | inl lt ↦
          let at = placed.ends n in_n lt in
          elim (cases_lt k (cell_of cells (2 * n + 1))) [
            | inl past ↦ omega (arith, at.start, edge_before cells k (cell_of cells (2 * n + 1)) rise past at.within, before)
            | inr le ↦ absurd (omega (arith, at.start, rise (cell_of cells (2 * n + 1)) k le within, to))
          ]
      | inr le ↦ omega (arith, le, below)
    ]

pub cell_is_whole : (ranges : List Range) (cells : List IndexSlot) (k address n : ℕ) → ArePlaced ranges cells → StartsRise cells → k < length cells → start_at cells k ≤ address
    → address < edge_at cells (k + 1) → address < address_end → n < length ranges → holds address (range_at ranges n) ≡ holds (start_at cells k) (range_at ranges n)
cell_is_whole ranges cells k address n placed rise within from before below in_n =
    let r : Range = range_at ranges n in
    elim (cases_Bool (holds (start_at cells k) r)) [
      | inl is ↦
          let parts = holds_parts (start_at cells k) r is in
          held address r below (omega (arith, parts.1, from)) (not_ended ranges cells k address n placed rise within before below in_n parts.2) ∙ sym is
      | inr not ↦
          elim (cases_Bool (holds address r)) [
            | inl is ↦
                let parts = holds_parts address r is in
                let start : r.start ≤ start_at cells k = begun ranges cells k address n placed rise within before in_n parts.1 in
                is ∙ sym (held (start_at cells k) r (omega (arith, from, below)) start (omega (arith, from, parts.2)))
            | inr other ↦ other ∙ sym not
          ]
    ]

-- so the first to hold a cell's first address is the first to hold each of its addresses
pub first_of_cell : (ranges : List Range) (cells : List IndexSlot) (k address n : ℕ) → ArePlaced ranges cells → StartsRise cells → k < length cells → start_at cells k ≤ address
    → address < edge_at cells (k + 1) → address < address_end → IsFirstToHold ranges (start_at cells k) n → IsFirstToHold ranges address n
first_of_cell ranges cells k address n placed rise within from before below first = record {
  within = first.within;
  held = cell_is_whole ranges cells k address n placed rise within from before below first.within ∙ first.held;
  first = λ m lt. cell_is_whole ranges cells k address m placed rise within from before below (omega (arith, lt, first.within)) ∙ first.first m lt;
}

pub none_in_cell : (ranges : List Range) (cells : List IndexSlot) (k address : ℕ) → ArePlaced ranges cells → StartsRise cells → k < length cells → start_at cells k ≤ address
    → address < edge_at cells (k + 1) → address < address_end → IsHeldByNone ranges (start_at cells k) → IsHeldByNone ranges address
none_in_cell ranges cells k address placed rise within from before below none n in_n =
    cell_is_whole ranges cells k address n placed rise within from before below in_n ∙ none n in_n

-- and no range holds an address before the first cell
pub none_before : (ranges : List Range) (cells : List IndexSlot) (address : ℕ) → ArePlaced ranges cells → StartsRise cells → address < edge_at cells 0 → IsHeldByNone ranges address
none_before ranges cells address placed rise before n in_n =
    let at = placed.starts n in_n in
    begins_behind address (range_at ranges n)
    (omega (arith, at.start, edge_within cells 0 (omega (arith, at.within)), rise 0 (cell_of cells (2 * n)) (omega arith) at.within, before))
