-- What a search among ranges finds.
use Rattle.std.specs.Prelude.{◌≡◌, ◌≤◌, ◌<◌, ◌+◌, ◌-◌, ◌*◌, ◌^◌, ℕ, min, List, Some, None, All, length, slice_index_or}
use Rattle.mdmp_map.specs.declared.range.Range.{Range}
use Rattle.mdmp_map.specs.declared.place.Place.{Place}
use Rattle.mdmp_map.specs.declared.found.Found.{Found}
use Rattle.mdmp_map.specs.declared.found.Found.TheVariants.{Held, Gap}
use Rattle.mdmp_map.specs.Ranges.{AreSorted, IsGap, IsGreatestLeft, IsWithin, first_range, place_of, range_end, ranges_before}

-- the place of an address in a range, where from limit on another comes first
abbrev pub place_in : ℕ → ℕ → Range → Place
place_in limit address r = record { offset = r.offset + (address - r.start); left = min (range_end r) limit - address }

-- the place of the address, or how far no range holds one
abbrev pub IsFound : List Range → ℕ → Found → Type 0
IsFound ranges address (Held place) = Some place ≡ place_of ranges address
IsFound ranges address (Gap count) = (None ≡ place_of ranges address) × IsGap ranges address count

-- what holds of the place, where a range holds the address
abbrev pub IfHeld : Found → (Place → Type 0) → Type 0
IfHeld (Held place) P = P place
IfHeld (Gap count) P = Unit {0}

-- what is left at the place of an address: the greatest count of addresses that the same range is the first to hold, and
-- at least one; it lies in a file of any size in which the bytes of each range lie
pub record HasReach (ranges : List Range) (address : ℕ) (place : Place) : Type 0 where
  pub left : (r : Range) → first_range ranges address ≡ Some r → IsGreatestLeft ranges address r place.left
  pub some : 0 < place.left
  pub within : (size : ℕ) → All (IsWithin size) ranges → place.offset + place.left ≤ size

-- i is the number of the first range that ends past the address, or how many there are where none does
pub record IsFirstPast (ranges : List Range) (address i : ℕ) : Type 0 where
  pub within : i ≤ length ranges
  pub behind : (k : ℕ) (d : Range) → k < i → range_end (slice_index_or ranges k d) ≤ address
  pub past : i < length ranges → (d : Range) → address < range_end (slice_index_or ranges i d)

-- n ranges were halved to none: by as many looks as n has binary digits, or one fewer
pub record IsHalved (n old new : ℕ) : Type 0 where
  pub more : old ≤ new
  pub least : n + 2 ≤ 2 * 2 ^ (new - old)
  pub most : 2 ^ (new - old) ≤ 2 * n + 1

-- how many ranges a scan looks at: up to the first that holds the address, or all
abbrev pub scan_len : List Range → ℕ → ℕ
scan_len ranges address = min (length ranges) (length (ranges_before ranges address) + 1)

-- a search among these ranges looked at so many of them
pub record LooksAt (ranges : List Range) (address old new : ℕ) : Type 0 where
  pub by_halves : AreSorted ranges → IsHalved (length ranges) old new
  pub one_by_one : (AreSorted ranges → ⊥) → new ≡ old + scan_len ranges address
