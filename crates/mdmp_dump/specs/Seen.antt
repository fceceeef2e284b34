-- A record as a view gives it: its fields, and the bytes of its name and parts.
use Rattle.std.specs.Prelude.{ℕ, ◌*◌, List, [], length, Option, Some, None}
use Rattle.mdmp_source.specs.declared.location.Location.{Location}
use Rattle.mdmp_wire.specs.declared.any_record.AnyRecord.{AnyRecord}
use Rattle.mdmp_wire.specs.declared.any_record.AnyRecord.TheVariants as any
use Rattle.mdmp_wire.specs.Number.{les}
use Rattle.mdmp_dump.specs.declared.part.Part.{Part}
use Rattle.mdmp_dump.specs.declared.part.Part.TheVariants as parts
use Rattle.mdmp_dump.specs.declared.view.Fields.{Fields}
use Rattle.mdmp_dump.specs.declared.view.PartSize.{PartSize}
use Rattle.mdmp_dump.specs.declared.view.PartSize.TheVariants.{NoPart, Size, Absent}

-- its fields, and the bytes of its three parts, a name's being its units: none where it has none
pub record Seen : Type 0 where
  pub fields : Fields
  pub parts : List (List ℕ)

abbrev pub seen : AnyRecord → List PartSize → List (List ℕ) → Seen
seen wire sizes bytes = record { fields = record { wire = wire; parts = sizes }; parts = bytes }

-- no record
abbrev pub nothing_seen : Seen
nothing_seen = seen (any.Memory64 (record { start_of_memory_range = 0; data_size = 0 })) [] []

-- a record's fields are given with this location for each of its own, and with the RVA 0 for that of its name
abbrev pub nowhere : Location
nowhere = record { size = 0; rva = 0 }

-- the size and the bytes of a name, or that there is none
abbrev pub name_size : Option (List ℕ) → PartSize
name_size None = NoPart
name_size (Some units) = Size (2 * length units)

abbrev pub unit_bytes : Option (List ℕ) → List ℕ
unit_bytes None = []
unit_bytes (Some units) = les 2 units

module _ {Z : Type 0} where
  -- the size and the bytes of a part
  abbrev pub size_of : Part Z → PartSize
  size_of (parts.Bytes bytes) = Size (length bytes)
  size_of (parts.Absent size) = Absent size

  abbrev pub bytes_of : Part Z → List ℕ
  bytes_of (parts.Bytes bytes) = bytes
  bytes_of (parts.Absent size) = []
