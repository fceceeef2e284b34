-- The name of a thread of a dump: MINIDUMP_THREAD_NAME.
-- Made by bindings/generate from bindings/kinds.toml.
use Rattle.std.specs.Prelude.{◌≡◌, ℕ, List, ◌<◌, ◌^◌, [], ◌∷◌}
use Rattle.mdmp_wire.specs.declared.thread_name.ThreadNameRecord.{ThreadNameRecord}
use Rattle.mdmp_wire.specs.ThreadName.{thread_name_at}
use Rattle.mdmp_dump.specs.declared.thread_name.ThreadName.{ThreadName}
use Rattle.mdmp_dump.specs.Name.{IsName, NameFits}
use Rattle.mdmp_wire.specs.declared.any_record.AnyRecord.TheVariants as any
use Rattle.mdmp_dump.specs.Seen.{Seen, seen, name_size, unit_bytes}
use Rattle.mdmp_dump.specs.declared.view.PartSize.TheVariants.{NoPart}

module _ {Z : Type 0} where
  -- its record in a file, with the RVA of its name
  abbrev pub thread_name_record : ThreadName Z → ℕ → ThreadNameRecord
  thread_name_record x name = record {
    thread_id = x.thread_id;
    rva_of_thread_name = name;
  }

  -- x is the thread of the record at o: its name is where that record says
  pub record IsThreadName (F : List ℕ) (o : ℕ) (x : ThreadName Z) : Type 0 where
    pub fields : thread_name_at F o ≡ thread_name_record x (thread_name_at F o).rva_of_thread_name
    pub name : IsName F (thread_name_at F o).rva_of_thread_name x.name

  -- as a view gives it
  abbrev pub thread_name_seen : ThreadName Z → Seen
  thread_name_seen x =
      seen (any.ThreadName (thread_name_record x 0)) (name_size x.name ∷ NoPart ∷ NoPart ∷ [])
      (unit_bytes x.name ∷ [] ∷ [] ∷ [])

  -- its numbers fit their fields
  pub record ThreadNameFits (x : ThreadName Z) : Type 0 where
    pub thread_id : x.thread_id < 2 ^ 32
    pub name : NameFits x.name
