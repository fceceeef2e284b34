-- A module of the dumped process, 108 bytes: MINIDUMP_MODULE.
use Rattle.std.specs.Prelude.{◌≡◌, ◌≤◌, ℕ, ◌+◌, List, ◌++◌, take, drop}
use Rattle.std.proofs.Common.{arith}
use Rattle.mdmp_wire.specs.declared.module.ModuleRecord.{ModuleRecord}
use Rattle.mdmp_wire.specs.Number.{number_at, le}
use Rattle.mdmp_wire.specs.NumberLaws.{number_at-within}
use Rattle.mdmp_wire.specs.Location.{location_at, location_bytes}
use Rattle.mdmp_wire.specs.Version.{version_at, version_bytes}

-- how many bytes it has
abbrev pub module_size : ℕ
module_size = 108

-- the module whose structure stands at o in F
abbrev pub module_at : List ℕ → ℕ → ModuleRecord
module_at F o = record {
  base_of_image = number_at F o 8;
  size_of_image = number_at F (o + 8) 4;
  checksum = number_at F (o + 12) 4;
  time_date_stamp = number_at F (o + 16) 4;
  module_name_rva = number_at F (o + 20) 4;
  version_info = version_at F (o + 24);
  cv_record = location_at F (o + 76);
  misc_record = location_at F (o + 84);
  reserved0 = number_at F (o + 92) 8;
  reserved1 = number_at F (o + 100) 8;
}

-- its bytes
abbrev pub module_bytes : ModuleRecord → List ℕ
module_bytes x =
    le 8 x.base_of_image ++ le 4 x.size_of_image ++ le 4 x.checksum ++ le 4 x.time_date_stamp
    ++ le 4 x.module_name_rva ++ version_bytes x.version_info ++ location_bytes x.cv_record
    ++ location_bytes x.misc_record ++ le 8 x.reserved0 ++ le 8 x.reserved1

-- it is read of its own 108 bytes alone
pub module_at-part : (n o : ℕ) (F : List ℕ) → module_size ≤ n → module_at (take n (drop o F)) 0 ≡ module_at F o
module_at-part n o F room = grind (arith, number_at-within)
