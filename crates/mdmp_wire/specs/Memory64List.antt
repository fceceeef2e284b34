-- The head of a list of ranges of memory whose bytes follow each other, 16 bytes: MINIDUMP_MEMORY64_LIST.
use Rattle.std.specs.Prelude.{◌≡◌, ◌≤◌, ℕ, ◌+◌, List, ◌++◌, take, drop}
use Rattle.std.proofs.Common.{arith}
use Rattle.mdmp_wire.specs.declared.memory64_list.Memory64List.{Memory64List}
use Rattle.mdmp_wire.specs.Number.{number_at, le}
use Rattle.mdmp_wire.specs.NumberLaws.{number_at-within}

-- how many bytes it has
abbrev pub memory64_list_size : ℕ
memory64_list_size = 16

-- the head whose structure stands at o in F
abbrev pub memory64_list_at : List ℕ → ℕ → Memory64List
memory64_list_at F o = record {
  number_of_memory_ranges = number_at F o 8;
  base_rva = number_at F (o + 8) 8;
}

-- its bytes
abbrev pub memory64_list_bytes : Memory64List → List ℕ
memory64_list_bytes x =
    le 8 x.number_of_memory_ranges ++ le 8 x.base_rva

-- it is read of its own 16 bytes alone
pub memory64_list_at-part : (n o : ℕ) (F : List ℕ) → memory64_list_size ≤ n → memory64_list_at (take n (drop o F)) 0 ≡ memory64_list_at F o
memory64_list_at-part n o F room = grind (arith, number_at-within)
