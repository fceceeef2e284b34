-- Where a part of a file is said to stand, 8 bytes: MINIDUMP_LOCATION_DESCRIPTOR.
use Rattle.std.specs.Prelude.{◌≡◌, ◌≤◌, ℕ, ◌+◌, List, ◌++◌, take, drop}
use Rattle.std.proofs.Common.{arith}
use Rattle.mdmp_source.specs.declared.location.Location.{Location}
use Rattle.mdmp_wire.specs.Number.{number_at, le}
use Rattle.mdmp_wire.specs.NumberLaws.{number_at-within}

-- the location whose structure stands at o in F
abbrev pub location_at : List ℕ → ℕ → Location
location_at F o = record {
  size = number_at F o 4;
  rva = number_at F (o + 4) 4;
}

-- its bytes
abbrev pub location_bytes : Location → List ℕ
location_bytes x =
    le 4 x.size ++ le 4 x.rva

-- it is read of its own 8 bytes alone
pub location_at-part : (n o : ℕ) (F : List ℕ) → 8 ≤ n → location_at (take n (drop o F)) 0 ≡ location_at F o
location_at-part n o F room = grind (arith, number_at-within)
