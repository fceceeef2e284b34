-- Ranges that are painted onto the places of a block of addresses, one behind the other.
use Rattle.std.specs.Prelude.{◌≡◌, ◌≤◌, ◌<◌, ◌+◌, ◌++◌, ◌∷◌, [], ℕ, Bool, true, false, List, Some, get_or, is_some, length, map, nat_lt, slice_index}
use Rattle.std.specs.List.{range_with_len}
use Rattle.mdmp_map.specs.declared.range.Range.{Range}
use Rattle.mdmp_map.specs.declared.paint.PaintedRun.{PaintedRun}
use Rattle.mdmp_map.specs.Ranges.{address_end, first_range, holds}

pub record PaintState : Type 0 where
  -- the address of the first place
  pub start : ℕ
  -- how many places there are
  pub count : ℕ
  -- for each, whether it is painted
  pub painted : List Bool

-- the place is painted
abbrev pub is_painted : PaintState → ℕ → Bool
is_painted s place = get_or s.painted place false

-- each place is
abbrev pub IsFull : PaintState → Type 0
IsFull s = (place : ℕ) → place < s.count → is_painted s place ≡ true

-- the range holds the address of the place
abbrev pub is_held_at : PaintState → Range → ℕ → Bool
is_held_at s r place = holds (s.start + place) r

-- the places are painted whose address some range of these holds
abbrev pub IsPaintOf : List Range → PaintState → Type 0
IsPaintOf ranges s = (place : ℕ) → place < s.count → is_painted s place ≡ is_some (first_range ranges (s.start + place))

-- the same, where the last range was painted up to a place alone
pub record IsPaintTo (from : ℕ) (seen : List Range) (r : Range) (s : PaintState) : Type 0 where
  pub before : (place : ℕ) → place < from → place < s.count → is_painted s place ≡ is_some (first_range (seen ++ r ∷ []) (s.start + place))
  pub behind : (place : ℕ) → from ≤ place → place < s.count → is_painted s place ≡ is_some (first_range seen (s.start + place))

-- a range is the first to hold each address of a run, whatever ranges follow
abbrev pub HoldsFirst : ℕ → List Range → Range → PaintedRun → Type 0
HoldsFirst start seen r run = (rest : List Range) (place : ℕ) → run.first ≤ place → place < run.end → first_range (seen ++ r ∷ rest) (start + place) ≡ Some r

-- from one place on, those that the range holds are painted, up to another
abbrev pub IsPassed : PaintState → Range → ℕ → ℕ → Type 0
IsPassed s r from to = (place : ℕ) → from ≤ place → place < to → is_held_at s r place ≡ true → is_painted s place ≡ true

-- the first places from one on that the range holds and that are not painted, as far as they go
pub record IsRun (s : PaintState) (r : Range) (from : ℕ) (run : PaintedRun) : Type 0 where
  pub order : from ≤ run.first
  pub some : run.first < run.end
  pub within : run.end ≤ s.count
  pub passed : IsPassed s r from run.first
  pub held : (place : ℕ) → run.first ≤ place → place < run.end → is_held_at s r place ≡ true
  pub free : (place : ℕ) → run.first ≤ place → place < run.end → is_painted s place ≡ false
  -- no more of them follow
  pub whole : run.end < s.count → is_held_at s r run.end ≡ true → is_painted s run.end ≡ true
  -- its bytes stand in the file from here on
  pub offset : run.offset + r.start ≡ r.offset + s.start + run.first

-- the places from first on, up to end, were painted
pub record Paints (first end : ℕ) (old new : PaintState) : Type 0 where
  pub painted : (place : ℕ) → first ≤ place → place < end → is_painted new place ≡ true
  pub below : (place : ℕ) → place < first → is_painted new place ≡ is_painted old place
  pub behind : (place : ℕ) → end ≤ place → is_painted new place ≡ is_painted old place

-- so many numbers from one on lie between these two, as far as they are addresses
pub record IsAround (first last start count : ℕ) : Type 0 where
  pub low : first ≤ start
  pub high : (address : ℕ) → start ≤ address → address < start + count → address < address_end → address ≤ last

-- ---- how places that are painted are passed

-- for each place one at or behind it, before which all from it on are painted
abbrev pub is_marked : List ℕ → ℕ → Bool
is_marked next place = nat_lt place (slice_index next place)

pub record Skips (next : List ℕ) : Type 0 where
  pub ahead : (place : ℕ) → place < length next → place ≤ slice_index next place
  pub within : (place : ℕ) → place < length next → slice_index next place < length next
  pub marked : (place k : ℕ) → place < length next → place ≤ k → k < slice_index next place → k < slice_index next k

-- for each of so many places, whether it is marked
abbrev pub marks : List ℕ → ℕ → List Bool
marks next count = map (is_marked next) (range_with_len 0 count)
