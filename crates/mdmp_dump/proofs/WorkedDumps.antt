-- The values of worked files.
use Rattle.std.specs.Prelude.{List, [], ◌∷◌, codes, replicate}
use Rattle.mdmp_dump.specs.declared.part.Part.TheVariants.{Bytes, Absent}
use Rattle.mdmp_dump.specs.declared.thread.Thread.{Thread}
use Rattle.mdmp_dump.specs.declared.exception.Exception.{Exception}
use Rattle.mdmp_dump.specs.declared.dump.Stream.{Stream}
use Rattle.mdmp_dump.specs.declared.dump.Stream.TheVariants as streams
use Rattle.mdmp_dump.specs.declared.dump.Dump.{Dump}

module _ {Z : Type 0} where
  -- a dump whose header has 0 in each field that a dump keeps
  abbrev pub dump_of : List (Stream Z) → Dump Z
  dump_of streams = record { version_high = 0; checksum = 0; time = 0; flags = 0; streams = streams }

  abbrev pub crash_thread : Thread Z
  crash_thread = record {
    thread_id = 7;
    suspend_count = 0;
    priority_class = 32;
    priority = 0;
    teb = 0x5000;
    stack_start = 0x7000;
    stack = Bytes (codes "STAK");
    context = Bytes (1 ∷ 2 ∷ 3 ∷ 4 ∷ 5 ∷ 6 ∷ []);
  }

  abbrev pub crash : Exception Z
  crash = record {
    thread_id = 7;
    exception_code = 0xC0000005;
    exception_flags = 0;
    exception_record = 0;
    exception_address = 0x401000;
    number_parameters = 2;
    exception_information = 1 ∷ 16 ∷ replicate 13 0;
    context = Bytes (0xAA ∷ 0xBB ∷ 0xCC ∷ 0xDD ∷ []);
  }

  -- a thread with a stack, and an exception
  abbrev pub crash_dump : Dump Z
  crash_dump = dump_of (streams.Threads (crash_thread ∷ []) ∷ streams.Exception crash ∷ [])

  -- a thread whose stack was not kept
  abbrev pub absent_stack : Stream Z
  absent_stack = streams.Threads (record {
    thread_id = 7;
    suspend_count = 0;
    priority_class = 0;
    priority = 0;
    teb = 0;
    stack_start = 0x7000;
    stack = Absent 256;
    context = Bytes (0xAA ∷ []);
  } ∷ [])
