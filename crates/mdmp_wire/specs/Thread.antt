-- A thread of the dumped process, 48 bytes: MINIDUMP_THREAD.
use Rattle.std.specs.Prelude.{◌≡◌, ◌≤◌, ℕ, ◌+◌, List, ◌++◌, take, drop}
use Rattle.std.proofs.Common.{arith}
use Rattle.mdmp_wire.specs.declared.thread.ThreadRecord.{ThreadRecord}
use Rattle.mdmp_wire.specs.Number.{number_at, le}
use Rattle.mdmp_wire.specs.NumberLaws.{number_at-within}
use Rattle.mdmp_wire.specs.Location.{location_at, location_bytes}
use Rattle.mdmp_wire.specs.Descriptor.{descriptor_at, descriptor_bytes}

-- how many bytes it has
abbrev pub thread_size : ℕ
thread_size = 48

-- the thread whose structure stands at o in F
abbrev pub thread_at : List ℕ → ℕ → ThreadRecord
thread_at F o = record {
  thread_id = number_at F o 4;
  suspend_count = number_at F (o + 4) 4;
  priority_class = number_at F (o + 8) 4;
  priority = number_at F (o + 12) 4;
  teb = number_at F (o + 16) 8;
  stack = descriptor_at F (o + 24);
  thread_context = location_at F (o + 40);
}

-- its bytes
abbrev pub thread_bytes : ThreadRecord → List ℕ
thread_bytes x =
    le 4 x.thread_id ++ le 4 x.suspend_count ++ le 4 x.priority_class ++ le 4 x.priority ++ le 8 x.teb
    ++ descriptor_bytes x.stack ++ location_bytes x.thread_context

-- it is read of its own 48 bytes alone
pub thread_at-part : (n o : ℕ) (F : List ℕ) → thread_size ≤ n → thread_at (take n (drop o F)) 0 ≡ thread_at F o
thread_at-part n o F room = grind (arith, number_at-within)
