-- A range of memory of a dump: MINIDUMP_MEMORY_DESCRIPTOR.
-- Made by bindings/generate from bindings/kinds.toml.
use Rattle.std.specs.Prelude.{◌≡◌, ℕ, List, ◌<◌, ◌^◌, [], ◌∷◌}
use Rattle.mdmp_source.specs.declared.location.Location.{Location}
use Rattle.mdmp_wire.specs.declared.descriptor.Descriptor.{Descriptor}
use Rattle.mdmp_wire.specs.Descriptor.{descriptor_at}
use Rattle.mdmp_dump.specs.declared.memory.MemoryRange.{MemoryRange}
use Rattle.mdmp_dump.specs.Part.{IsPart, PartFits}
use Rattle.mdmp_wire.specs.declared.any_record.AnyRecord.TheVariants as any
use Rattle.mdmp_dump.specs.Seen.{Seen, seen, nowhere, size_of, bytes_of}
use Rattle.mdmp_dump.specs.declared.view.PartSize.TheVariants.{NoPart}

module _ {Z : Type 0} where
  -- its record in a file, with the location of its bytes
  abbrev pub memory_record : MemoryRange Z → Location → Descriptor
  memory_record x bytes = record {
    start_of_memory_range = x.start;
    memory = bytes;
  }

  -- x is the range of the record at o: its bytes are where that record says
  pub record IsMemory (F : List ℕ) (o : ℕ) (x : MemoryRange Z) : Type 0 where
    pub fields : descriptor_at F o ≡ memory_record x (descriptor_at F o).memory
    pub bytes : IsPart F (descriptor_at F o).memory x.bytes

  -- as a view gives it
  abbrev pub memory_seen : MemoryRange Z → Seen
  memory_seen x =
      seen (any.Memory (memory_record x nowhere)) (size_of x.bytes ∷ NoPart ∷ NoPart ∷ [])
      (bytes_of x.bytes ∷ [] ∷ [] ∷ [])

  -- its numbers fit their fields
  pub record MemoryFits (x : MemoryRange Z) : Type 0 where
    pub start : x.start < 2 ^ 64
    pub bytes : PartFits x.bytes
