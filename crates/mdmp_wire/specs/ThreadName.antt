-- The name of a thread, 12 bytes: MINIDUMP_THREAD_NAME.
use Rattle.std.specs.Prelude.{◌≡◌, ◌≤◌, ℕ, ◌+◌, List, ◌++◌, take, drop}
use Rattle.std.proofs.Common.{arith}
use Rattle.mdmp_wire.specs.declared.thread_name.ThreadNameRecord.{ThreadNameRecord}
use Rattle.mdmp_wire.specs.Number.{number_at, le}
use Rattle.mdmp_wire.specs.NumberLaws.{number_at-within}

-- how many bytes it has
abbrev pub thread_name_size : ℕ
thread_name_size = 12

-- the name of a thread whose structure stands at o in F
abbrev pub thread_name_at : List ℕ → ℕ → ThreadNameRecord
thread_name_at F o = record { thread_id = number_at F o 4; rva_of_thread_name = number_at F (o + 4) 8 }

-- its bytes
abbrev pub thread_name_bytes : ThreadNameRecord → List ℕ
thread_name_bytes x = le 4 x.thread_id ++ le 8 x.rva_of_thread_name

-- it is read of its own 12 bytes alone
pub thread_name_at-part : (n o : ℕ) (F : List ℕ) → thread_name_size ≤ n → thread_name_at (take n (drop o F)) 0 ≡ thread_name_at F o
thread_name_at-part n o F room = grind (arith, number_at-within)
