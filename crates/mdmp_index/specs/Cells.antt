-- The cells that an index is made from: the addresses from one cut up to the next. A range has two cuts: 2n is where range n
-- begins, and 2n + 1 where it ends.
--
-- While an index is made, a slot is a cell. Its length is its own number, if no range took it, else the number of a later
-- cell up to which all cells are taken. Its owner is the number of the range that took it. The
-- offset of cell k is the number of the cell that begins at cut k.
use Rattle.std.specs.Prelude.{◌≡◌, ◌≤◌, ◌<◌, ◌+◌, ◌*◌, ℕ, List, Bool, true, false, if◌then◌else◌, length, nat_lt}
use Rattle.mdmp_map.specs.declared.range.Range.{Range}
use Rattle.mdmp_map.specs.Ranges.{address_end, holds, range_end}
use Rattle.mdmp_index.specs.declared.slot.IndexSlot.{IndexSlot}
use Rattle.mdmp_index.specs.Index.{IsFirstToHold}
use Rattle.mdmp_index.specs.Slots.{range_at, index_slot}

-- ---- where cells begin and end

-- the first address of a cell
abbrev pub start_at : List IndexSlot → ℕ → ℕ
start_at cells k = (index_slot cells k).start

-- the owner of a cell
abbrev pub owner_at : List IndexSlot → ℕ → ℕ
owner_at cells k = (index_slot cells k).owner

-- the cell that begins at a cut
abbrev pub cell_of : List IndexSlot → ℕ → ℕ
cell_of cells cut = (index_slot cells cut).offset

-- the first address of a cell, or after the last cell the end of all addresses
abbrev pub edge_at : List IndexSlot → ℕ → ℕ
edge_at cells k = if nat_lt k (length cells) then start_at cells k else address_end

-- the cell has an address
abbrev pub HasAddress : List IndexSlot → ℕ → Type 0
HasAddress cells k = (start_at cells k < edge_at cells (k + 1)) × (start_at cells k < address_end)

-- cells begin in order
abbrev pub StartsRise : List IndexSlot → Type 0
StartsRise cells = (k n : ℕ) → k ≤ n → n < length cells → start_at cells k ≤ start_at cells n

-- the cells of the first ranges begin at their cuts, in the order of the ranges, and know their number
pub record AreCuts (ranges : List Range) (count : ℕ) (cells : List IndexSlot) : Type 0 where
  pub starts : (n : ℕ) → n < count → start_at cells (2 * n) ≡ (range_at ranges n).start
  pub ends : (n : ℕ) → n < count → range_end (range_at ranges n) < address_end → start_at cells (2 * n + 1) ≡ range_end (range_at ranges n)
  pub numbers : (k : ℕ) → k < 2 * count → owner_at cells k ≡ k

-- a cell begins at the cut, at this address
pub record IsCellOfCut (cells : List IndexSlot) (cut address : ℕ) : Type 0 where
  pub within : cell_of cells cut < length cells
  pub start : start_at cells (cell_of cells cut) ≡ address

-- a cell begins where a range does, and where it ends
pub record ArePlaced (ranges : List Range) (cells : List IndexSlot) : Type 0 where
  pub starts : (n : ℕ) → n < length ranges → IsCellOfCut cells (2 * n) (range_at ranges n).start
  pub ends : (n : ℕ) → n < length ranges → range_end (range_at ranges n) < address_end → IsCellOfCut cells (2 * n + 1) (range_end (range_at ranges n))

-- ---- which cells are taken

abbrev pub next_at : List IndexSlot → ℕ → ℕ
next_at cells k = (index_slot cells k).length

abbrev pub is_taken : List IndexSlot → ℕ → Bool
is_taken cells k = nat_lt k (next_at cells k)

pub record SkipsTaken (cells : List IndexSlot) : Type 0 where
  pub ahead : (k : ℕ) → k < length cells → k ≤ next_at cells k
  pub within : (k : ℕ) → k < length cells → next_at cells k ≤ length cells
  pub taken : (k n : ℕ) → k < length cells → k ≤ n → n < next_at cells k → n < next_at cells n

-- the cells from low on, up to high, are taken: by this owner, if they were not taken before
pub record TakesCells (low high owner : ℕ) (old new : List IndexSlot) : Type 0 where
  pub taken : (k : ℕ) → low ≤ k → k < high → is_taken new k ≡ true
  pub newly : (k : ℕ) → low ≤ k → k < high → is_taken old k ≡ false → owner_at new k ≡ owner
  pub before : (k : ℕ) → is_taken old k ≡ true → owner_at new k ≡ owner_at old k
  pub below : (k : ℕ) → k < low → is_taken new k ≡ is_taken old k
  pub behind : (k : ℕ) → high ≤ k → is_taken new k ≡ is_taken old k

-- where cells begin stays, and which begin at the cuts
pub record KeepsCells (old new : List IndexSlot) : Type 0 where
  pub starts : (k : ℕ) → start_at new k ≡ start_at old k
  pub cells : (k : ℕ) → cell_of new k ≡ cell_of old k

-- the first ranges took each cell that one of them holds, and each is of the first that holds it
pub record AreTaken (ranges : List Range) (count : ℕ) (cells : List IndexSlot) : Type 0 where
  pub taken : (k : ℕ) → k < length cells → HasAddress cells k → is_taken cells k ≡ true → IsFirstToHold ranges (start_at cells k) (owner_at cells k)
  pub free : (k n : ℕ) → k < length cells → HasAddress cells k → is_taken cells k ≡ false → n < count → holds (start_at cells k) (range_at ranges n) ≡ false
