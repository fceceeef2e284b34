-- A region of the dumped process's memory, 48 bytes: MINIDUMP_MEMORY_INFO.
use Rattle.std.specs.Prelude.{◌≡◌, ◌≤◌, ℕ, ◌+◌, List, ◌++◌, take, drop}
use Rattle.std.proofs.Common.{arith}
use Rattle.mdmp_wire.specs.declared.memory_info.MemoryInfoRecord.{MemoryInfoRecord}
use Rattle.mdmp_wire.specs.Number.{number_at, le, zeros}
use Rattle.mdmp_wire.specs.NumberLaws.{number_at-within}

-- how many bytes it has
abbrev pub memory_info_size : ℕ
memory_info_size = 48

-- the memory info whose structure stands at o in F. Bytes 20 to 23 and 44 to 47 are of no use.
abbrev pub memory_info_at : List ℕ → ℕ → MemoryInfoRecord
memory_info_at F o = record {
  base_address = number_at F o 8;
  allocation_base = number_at F (o + 8) 8;
  allocation_protect = number_at F (o + 16) 4;
  region_size = number_at F (o + 24) 8;
  state = number_at F (o + 32) 4;
  protect = number_at F (o + 36) 4;
  memory_type = number_at F (o + 40) 4;
}

-- its bytes, with zeros where it has no field
abbrev pub memory_info_bytes : MemoryInfoRecord → List ℕ
memory_info_bytes x =
    le 8 x.base_address ++ le 8 x.allocation_base ++ le 4 x.allocation_protect ++ zeros 4
    ++ le 8 x.region_size ++ le 4 x.state ++ le 4 x.protect ++ le 4 x.memory_type ++ zeros 4

-- it is read of its own 48 bytes alone
pub memory_info_at-part : (n o : ℕ) (F : List ℕ) → memory_info_size ≤ n → memory_info_at (take n (drop o F)) 0 ≡ memory_info_at F o
memory_info_at-part n o F room = grind (arith, number_at-within)
