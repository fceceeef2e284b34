-- A range of the dumped process's memory whose bytes follow those of the ranges before it, 16 bytes: MINIDUMP_MEMORY_DESCRIPTOR64.
use Rattle.std.specs.Prelude.{◌≡◌, ◌≤◌, ℕ, ◌+◌, List, ◌++◌, take, drop}
use Rattle.std.proofs.Common.{arith}
use Rattle.mdmp_wire.specs.declared.descriptor64.Descriptor64.{Descriptor64}
use Rattle.mdmp_wire.specs.Number.{number_at, le}
use Rattle.mdmp_wire.specs.NumberLaws.{number_at-within}

-- how many bytes it has
abbrev pub descriptor64_size : ℕ
descriptor64_size = 16

-- the descriptor whose structure stands at o in F
abbrev pub descriptor64_at : List ℕ → ℕ → Descriptor64
descriptor64_at F o = record {
  start_of_memory_range = number_at F o 8;
  data_size = number_at F (o + 8) 8;
}

-- its bytes
abbrev pub descriptor64_bytes : Descriptor64 → List ℕ
descriptor64_bytes x =
    le 8 x.start_of_memory_range ++ le 8 x.data_size

-- it is read of its own 16 bytes alone
pub descriptor64_at-part : (n o : ℕ) (F : List ℕ) → descriptor64_size ≤ n → descriptor64_at (take n (drop o F)) 0 ≡ descriptor64_at F o
descriptor64_at-part n o F room = grind (arith, number_at-within)
