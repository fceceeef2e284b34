-- Worked reads of addresses, computed by the definitions.
use Rattle.std.proofs.Common.{◌≡◌, ℕ, true, false, List, [], ◌∷◌, Some, None, refl}
use Rattle.mdmp_map.specs.declared.range.Range.{Range}
use Rattle.mdmp_lister.specs.Addressing.{cells, cells_at, held_at, stretches_at}

abbrev range_of : ℕ → ℕ → ℕ → Range
range_of start length offset = record { start = start; length = length; offset = offset }

abbrev file : List ℕ
file = 10 ∷ 11 ∷ 12 ∷ 13 ∷ 14 ∷ 15 ∷ []

-- the second overlaps the first
abbrev overlapping : List Range
overlapping = range_of 0x1000 2 0 ∷ range_of 0x1001 3 3 ∷ []

overlapping-cells : cells_at file overlapping 0xfff 6 ≡ None ∷ Some 10 ∷ Some 11 ∷ Some 14 ∷ Some 15 ∷ None ∷ []
overlapping-cells = refl

overlapping-known : held_at overlapping 0xfff 6 ≡ false ∷ true ∷ true ∷ true ∷ true ∷ false ∷ []
overlapping-known = refl

-- one that passes the last address, and one of the first addresses
abbrev at_the_end : List Range
at_the_end = range_of 0xFFFFFFFFFFFFFFFE 4 1 ∷ range_of 0 2 0 ∷ []

at_the_end-cells : cells_at file at_the_end 0xFFFFFFFFFFFFFFFD 5 ≡ None ∷ Some 11 ∷ Some 12 ∷ None ∷ None ∷ []
at_the_end-cells = refl

none-cells : cells_at file at_the_end 0xFFFFFFFFFFFFFFFD 0 ≡ []
none-cells = refl

known_bytes : cells (0 ∷ 11 ∷ []) (false ∷ true ∷ []) ≡ None ∷ Some 11 ∷ []
known_bytes = refl

-- ---- stretches

overlapping-stretches : stretches_at overlapping 0xfff 6 ≡ 2
unfolding stretches_at
overlapping-stretches = refl

-- a range is listed before one that goes on behind it: that one has a stretch on either side. A third has no address of its own
abbrev around : List Range
around = range_of 0x1002 2 0 ∷ range_of 0x1000 6 2 ∷ range_of 0x1001 4 0 ∷ []

around-stretches : stretches_at around 0x1000 6 ≡ 3
unfolding stretches_at
around-stretches = refl

-- from an address inside a range on
around-later : stretches_at around 0x1003 2 ≡ 2
unfolding stretches_at
around-later = refl

-- ranges whose bytes follow each other are a stretch each, and addresses that none holds are no stretch
abbrev touching : List Range
touching = range_of 0x1000 2 0 ∷ range_of 0x1002 2 2 ∷ range_of 0x1006 2 4 ∷ []

touching-stretches : stretches_at touching 0xfff 8 ≡ 3
unfolding stretches_at
touching-stretches = refl

gap-stretches : stretches_at touching 0x1004 2 ≡ 0
unfolding stretches_at
gap-stretches = refl
