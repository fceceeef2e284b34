-- The head of a list of regions of memory, 16 bytes: MINIDUMP_MEMORY_INFO_LIST.
use Rattle.std.specs.Prelude.{◌≡◌, ◌≤◌, ℕ, ◌+◌, List, ◌++◌, take, drop}
use Rattle.std.proofs.Common.{arith}
use Rattle.mdmp_wire.specs.declared.memory_info_list.MemoryInfoList.{MemoryInfoList}
use Rattle.mdmp_wire.specs.Number.{number_at, le}
use Rattle.mdmp_wire.specs.NumberLaws.{number_at-within}

-- how many bytes it has
abbrev pub memory_info_list_size : ℕ
memory_info_list_size = 16

-- the head whose structure stands at o in F
abbrev pub memory_info_list_at : List ℕ → ℕ → MemoryInfoList
memory_info_list_at F o = record {
  size_of_header = number_at F o 4;
  size_of_entry = number_at F (o + 4) 4;
  number_of_entries = number_at F (o + 8) 8;
}

-- its bytes
abbrev pub memory_info_list_bytes : MemoryInfoList → List ℕ
memory_info_list_bytes x =
    le 4 x.size_of_header ++ le 4 x.size_of_entry ++ le 8 x.number_of_entries

-- it is read of its own 16 bytes alone
pub memory_info_list_at-part : (n o : ℕ) (F : List ℕ) → memory_info_list_size ≤ n → memory_info_list_at (take n (drop o F)) 0 ≡ memory_info_list_at F o
memory_info_list_at-part n o F room = grind (arith, number_at-within)
