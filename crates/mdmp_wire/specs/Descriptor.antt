-- A range of the dumped process's memory, and where its bytes stand, 16 bytes: MINIDUMP_MEMORY_DESCRIPTOR.
use Rattle.std.specs.Prelude.{◌≡◌, ◌≤◌, ℕ, ◌+◌, List, ◌++◌, take, drop}
use Rattle.std.proofs.Common.{arith}
use Rattle.mdmp_wire.specs.declared.descriptor.Descriptor.{Descriptor}
use Rattle.mdmp_wire.specs.Number.{number_at, le}
use Rattle.mdmp_wire.specs.NumberLaws.{number_at-within}
use Rattle.mdmp_wire.specs.Location.{location_at, location_bytes}

-- how many bytes it has
abbrev pub descriptor_size : ℕ
descriptor_size = 16

-- the descriptor whose structure stands at o in F
abbrev pub descriptor_at : List ℕ → ℕ → Descriptor
descriptor_at F o = record {
  start_of_memory_range = number_at F o 8;
  memory = location_at F (o + 8);
}

-- its bytes
abbrev pub descriptor_bytes : Descriptor → List ℕ
descriptor_bytes x =
    le 8 x.start_of_memory_range ++ location_bytes x.memory

-- it is read of its own 16 bytes alone
pub descriptor_at-part : (n o : ℕ) (F : List ℕ) → descriptor_size ≤ n → descriptor_at (take n (drop o F)) 0 ≡ descriptor_at F o
descriptor_at-part n o F room = grind (arith, number_at-within)
