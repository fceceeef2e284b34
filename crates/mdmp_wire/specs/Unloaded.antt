-- A module that the dumped process had unloaded, 24 bytes: MINIDUMP_UNLOADED_MODULE.
use Rattle.std.specs.Prelude.{◌≡◌, ◌≤◌, ℕ, ◌+◌, List, ◌++◌, take, drop}
use Rattle.std.proofs.Common.{arith}
use Rattle.mdmp_wire.specs.declared.unloaded.UnloadedRecord.{UnloadedRecord}
use Rattle.mdmp_wire.specs.Number.{number_at, le}
use Rattle.mdmp_wire.specs.NumberLaws.{number_at-within}

-- how many bytes it has
abbrev pub unloaded_size : ℕ
unloaded_size = 24

-- the unloaded module whose structure stands at o in F
abbrev pub unloaded_at : List ℕ → ℕ → UnloadedRecord
unloaded_at F o = record {
  base_of_image = number_at F o 8;
  size_of_image = number_at F (o + 8) 4;
  checksum = number_at F (o + 12) 4;
  time_date_stamp = number_at F (o + 16) 4;
  module_name_rva = number_at F (o + 20) 4;
}

-- its bytes
abbrev pub unloaded_bytes : UnloadedRecord → List ℕ
unloaded_bytes x =
    le 8 x.base_of_image ++ le 4 x.size_of_image ++ le 4 x.checksum ++ le 4 x.time_date_stamp
    ++ le 4 x.module_name_rva

-- it is read of its own 24 bytes alone
pub unloaded_at-part : (n o : ℕ) (F : List ℕ) → unloaded_size ≤ n → unloaded_at (take n (drop o F)) 0 ≡ unloaded_at F o
unloaded_at-part n o F room = grind (arith, number_at-within)
