-- A region of memory of a dump: MINIDUMP_MEMORY_INFO.
-- Made by bindings/generate from bindings/kinds.toml.
use Rattle.std.specs.Prelude.{◌<◌, ◌^◌, [], ◌∷◌}
use Rattle.mdmp_wire.specs.declared.memory_info.MemoryInfoRecord.{MemoryInfoRecord}
use Rattle.mdmp_wire.specs.declared.any_record.AnyRecord.TheVariants as any
use Rattle.mdmp_dump.specs.Seen.{Seen, seen}
use Rattle.mdmp_dump.specs.declared.view.PartSize.TheVariants.{NoPart}

-- as a view gives it
abbrev pub memory_info_seen : MemoryInfoRecord → Seen
memory_info_seen x =
    seen (any.MemoryInfo x) (NoPart ∷ NoPart ∷ NoPart ∷ [])
    ([] ∷ [] ∷ [] ∷ [])

-- its numbers fit their fields
pub record MemoryInfoFits (x : MemoryInfoRecord) : Type 0 where
  pub base_address : x.base_address < 2 ^ 64
  pub allocation_base : x.allocation_base < 2 ^ 64
  pub allocation_protect : x.allocation_protect < 2 ^ 32
  pub region_size : x.region_size < 2 ^ 64
  pub state : x.state < 2 ^ 32
  pub protect : x.protect < 2 ^ 32
  pub memory_type : x.memory_type < 2 ^ 32
