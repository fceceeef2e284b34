-- A thread of a dump: MINIDUMP_THREAD.
-- Made by bindings/generate from bindings/kinds.toml.
use Rattle.std.specs.Prelude.{◌≡◌, ℕ, List, ◌<◌, ◌^◌, [], ◌∷◌}
use Rattle.mdmp_source.specs.declared.location.Location.{Location}
use Rattle.mdmp_wire.specs.declared.thread.ThreadRecord.{ThreadRecord}
use Rattle.mdmp_wire.specs.Thread.{thread_at}
use Rattle.mdmp_dump.specs.declared.thread.Thread.{Thread}
use Rattle.mdmp_dump.specs.Part.{IsPart, PartFits}
use Rattle.mdmp_wire.specs.declared.any_record.AnyRecord.TheVariants as any
use Rattle.mdmp_dump.specs.Seen.{Seen, seen, nowhere, size_of, bytes_of}
use Rattle.mdmp_dump.specs.declared.view.PartSize.TheVariants.{NoPart}

module _ {Z : Type 0} where
  -- its record in a file, with the locations of its stack and its context
  abbrev pub thread_record : Thread Z → Location → Location → ThreadRecord
  thread_record x stack context = record {
    thread_id = x.thread_id;
    suspend_count = x.suspend_count;
    priority_class = x.priority_class;
    priority = x.priority;
    teb = x.teb;
    stack = record { start_of_memory_range = x.stack_start; memory = stack };
    thread_context = context;
  }

  -- x is the thread of the record at o: its stack and context are where that record says
  pub record IsThread (F : List ℕ) (o : ℕ) (x : Thread Z) : Type 0 where
    pub fields : thread_at F o ≡ thread_record x (thread_at F o).stack.memory (thread_at F o).thread_context
    pub stack : IsPart F (thread_at F o).stack.memory x.stack
    pub context : IsPart F (thread_at F o).thread_context x.context

  -- as a view gives it
  abbrev pub thread_seen : Thread Z → Seen
  thread_seen x =
      seen (any.Thread (thread_record x nowhere nowhere)) (size_of x.stack ∷ size_of x.context ∷ NoPart ∷ [])
      (bytes_of x.stack ∷ bytes_of x.context ∷ [] ∷ [])

  -- its numbers fit their fields
  pub record ThreadFits (x : Thread Z) : Type 0 where
    pub thread_id : x.thread_id < 2 ^ 32
    pub suspend_count : x.suspend_count < 2 ^ 32
    pub priority_class : x.priority_class < 2 ^ 32
    pub priority : x.priority < 2 ^ 32
    pub teb : x.teb < 2 ^ 64
    pub stack_start : x.stack_start < 2 ^ 64
    pub stack : PartFits x.stack
    pub context : PartFits x.context
