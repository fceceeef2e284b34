-- An entry of the directory, 12 bytes: MINIDUMP_DIRECTORY.
use Rattle.std.specs.Prelude.{◌≡◌, ◌≤◌, ℕ, ◌+◌, List, ◌++◌, take, drop}
use Rattle.std.proofs.Common.{arith}
use Rattle.mdmp_wire.specs.declared.entry.Entry.{Entry}
use Rattle.mdmp_wire.specs.Number.{number_at, le}
use Rattle.mdmp_wire.specs.NumberLaws.{number_at-within}
use Rattle.mdmp_wire.specs.Location.{location_at, location_bytes}

-- how many bytes it has
abbrev pub entry_size : ℕ
entry_size = 12

-- the entry whose structure stands at o in F
abbrev pub entry_at : List ℕ → ℕ → Entry
entry_at F o = record {
  stream_type = number_at F o 4;
  location = location_at F (o + 4);
}

-- its bytes
abbrev pub entry_bytes : Entry → List ℕ
entry_bytes x =
    le 4 x.stream_type ++ location_bytes x.location

-- it is read of its own 12 bytes alone
pub entry_at-part : (n o : ℕ) (F : List ℕ) → entry_size ≤ n → entry_at (take n (drop o F)) 0 ≡ entry_at F o
entry_at-part n o F room = grind (arith, number_at-within)
