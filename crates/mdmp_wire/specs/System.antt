-- The system that the dumped process ran on, 56 bytes: MINIDUMP_SYSTEM_INFO.
use Rattle.std.specs.Prelude.{◌≡◌, ◌≤◌, ℕ, ◌+◌, List, ◌++◌, take, drop}
use Rattle.std.proofs.Common.{arith}
use Rattle.mdmp_wire.specs.declared.system.SystemRecord.{SystemRecord}
use Rattle.mdmp_wire.specs.Number.{number_at, array_at, le}
use Rattle.mdmp_wire.specs.NumberLaws.{number_at-within, array_at-within}

-- how many bytes it has
abbrev pub system_size : ℕ
system_size = 56

-- the system whose structure stands at o in F
abbrev pub system_at : List ℕ → ℕ → SystemRecord
system_at F o = record {
  processor_architecture = number_at F o 2;
  processor_level = number_at F (o + 2) 2;
  processor_revision = number_at F (o + 4) 2;
  number_of_processors = number_at F (o + 6) 1;
  product_type = number_at F (o + 7) 1;
  major_version = number_at F (o + 8) 4;
  minor_version = number_at F (o + 12) 4;
  build_number = number_at F (o + 16) 4;
  platform_id = number_at F (o + 20) 4;
  csd_version_rva = number_at F (o + 24) 4;
  suite_mask = number_at F (o + 28) 2;
  reserved2 = number_at F (o + 30) 2;
  cpu = array_at F (o + 32) 24;
}

-- its bytes
abbrev pub system_bytes : SystemRecord → List ℕ
system_bytes x =
    le 2 x.processor_architecture ++ le 2 x.processor_level ++ le 2 x.processor_revision
    ++ le 1 x.number_of_processors ++ le 1 x.product_type ++ le 4 x.major_version ++ le 4 x.minor_version
    ++ le 4 x.build_number ++ le 4 x.platform_id ++ le 4 x.csd_version_rva ++ le 2 x.suite_mask
    ++ le 2 x.reserved2 ++ x.cpu

-- it is read of its own 56 bytes alone
pub system_at-part : (n o : ℕ) (F : List ℕ) → system_size ≤ n → system_at (take n (drop o F)) 0 ≡ system_at F o
system_at-part n o F room = grind (arith, number_at-within, array_at-within)
