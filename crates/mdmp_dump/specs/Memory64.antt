-- A range of a 64-bit memory list of a dump: MINIDUMP_MEMORY_DESCRIPTOR64.
use Rattle.std.specs.Prelude.{◌≡◌, ℕ, List, length, IsTrue, ◌<◌, ◌^◌, [], ◌∷◌}
use Rattle.mdmp_source.specs.Range.{is_inside}
use Rattle.mdmp_wire.specs.Number.{array_at}
use Rattle.mdmp_wire.specs.declared.descriptor64.Descriptor64.{Descriptor64}
use Rattle.mdmp_wire.specs.Descriptor64.{descriptor64_at}
use Rattle.mdmp_lister.specs.Format.Item.{range_offset}
use Rattle.mdmp_dump.specs.declared.memory64.Memory64Range.{Memory64Range}
use Rattle.mdmp_wire.specs.declared.any_record.AnyRecord.TheVariants as any
use Rattle.mdmp_dump.specs.Seen.{Seen, seen}
use Rattle.mdmp_dump.specs.declared.view.PartSize.TheVariants.{NoPart, Size}

module _ {Z : Type 0} where
  -- its record in a file
  abbrev pub memory64_record : Memory64Range Z → Descriptor64
  memory64_record x = record { start_of_memory_range = x.start; data_size = length x.bytes }

  -- the record at o is that of range k of the 64-bit memory list at `at`, whose bytes stand behind those of the ranges
  -- before it
  pub record IsMemory64 (F : List ℕ) (at k o : ℕ) (x : Memory64Range Z) : Type 0 where
    pub fields : descriptor64_at F o ≡ memory64_record x
    pub inside : IsTrue (is_inside (range_offset F at k) (length x.bytes) (length F))
    pub bytes : array_at F (range_offset F at k) (length x.bytes) ≡ x.bytes

  -- as a view gives it
  abbrev pub memory64_seen : Memory64Range Z → Seen
  memory64_seen x = seen (any.Memory64 (memory64_record x)) (Size (length x.bytes) ∷ NoPart ∷ NoPart ∷ []) (x.bytes ∷ [] ∷ [] ∷ [])

  -- its start fits its field
  abbrev pub Memory64Fits : Memory64Range Z → Type 0
  Memory64Fits x = x.start < 2 ^ 64
