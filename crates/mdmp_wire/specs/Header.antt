-- The head of a file, 32 bytes: MINIDUMP_HEADER.
use Rattle.std.specs.Prelude.{◌≡◌, ◌≤◌, ℕ, ◌+◌, List, ◌++◌, take, drop}
use Rattle.std.proofs.Common.{arith}
use Rattle.mdmp_wire.specs.declared.header.Header.{Header}
use Rattle.mdmp_wire.specs.Number.{number_at, le}
use Rattle.mdmp_wire.specs.NumberLaws.{number_at-within}

-- the header whose structure stands at o in F
abbrev pub header_at : List ℕ → ℕ → Header
header_at F o = record {
  signature = number_at F o 4;
  version = number_at F (o + 4) 4;
  number_of_streams = number_at F (o + 8) 4;
  stream_directory_rva = number_at F (o + 12) 4;
  checksum = number_at F (o + 16) 4;
  time_date_stamp = number_at F (o + 20) 4;
  flags = number_at F (o + 24) 8;
}

-- its bytes
abbrev pub header_bytes : Header → List ℕ
header_bytes x =
    le 4 x.signature ++ le 4 x.version ++ le 4 x.number_of_streams ++ le 4 x.stream_directory_rva
    ++ le 4 x.checksum ++ le 4 x.time_date_stamp ++ le 8 x.flags

-- it is read of its own 32 bytes alone
pub header_at-part : (n o : ℕ) (F : List ℕ) → 32 ≤ n → header_at (take n (drop o F)) 0 ≡ header_at F o
header_at-part n o F room = grind (arith, number_at-within)
