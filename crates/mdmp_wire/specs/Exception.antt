-- An exception of the dumped process, 168 bytes: MINIDUMP_EXCEPTION_STREAM, with the MINIDUMP_EXCEPTION inside it.
use Rattle.std.specs.Prelude.{◌≡◌, ◌≤◌, ℕ, ◌+◌, List, ◌++◌, take, drop}
use Rattle.std.proofs.Common.{arith}
use Rattle.mdmp_wire.specs.declared.exception.ExceptionRecord.{ExceptionRecord}
use Rattle.mdmp_wire.specs.Number.{number_at, numbers_at, le, les, zeros}
use Rattle.mdmp_wire.specs.NumberLaws.{number_at-within, numbers_at-within}
use Rattle.mdmp_wire.specs.Location.{location_at, location_bytes}

-- how many bytes it has
abbrev pub exception_size : ℕ
exception_size = 168

-- the exception whose structure stands at o in F. Bytes 4 to 7 and 36 to 39 are of no use.
abbrev pub exception_at : List ℕ → ℕ → ExceptionRecord
exception_at F o = record {
  thread_id = number_at F o 4;
  exception_code = number_at F (o + 8) 4;
  exception_flags = number_at F (o + 12) 4;
  exception_record = number_at F (o + 16) 8;
  exception_address = number_at F (o + 24) 8;
  number_parameters = number_at F (o + 32) 4;
  exception_information = numbers_at F (o + 40) 8 15;
  thread_context = location_at F (o + 160);
}

-- its bytes, with zeros where it has no field
abbrev pub exception_bytes : ExceptionRecord → List ℕ
exception_bytes x =
    le 4 x.thread_id ++ zeros 4 ++ le 4 x.exception_code ++ le 4 x.exception_flags
    ++ le 8 x.exception_record ++ le 8 x.exception_address ++ le 4 x.number_parameters ++ zeros 4
    ++ les 8 x.exception_information ++ location_bytes x.thread_context

-- it is read of its own 168 bytes alone
pub exception_at-part : (n o : ℕ) (F : List ℕ) → exception_size ≤ n → exception_at (take n (drop o F)) 0 ≡ exception_at F o
exception_at-part n o F room = grind (arith, number_at-within, numbers_at-within)
