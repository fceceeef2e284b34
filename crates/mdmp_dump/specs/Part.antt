-- The part of a record that a location names.
use Rattle.std.specs.Prelude.{◌≡◌, ℕ, List, [], length, Option, Some, None, ◌<◌, ◌^◌}
use Rattle.mdmp_source.specs.Extent.{extent_of}
use Rattle.mdmp_source.specs.declared.location.Location.{Location}
use Rattle.mdmp_source.specs.declared.location.Extent.{Extent}
use Rattle.mdmp_source.specs.declared.location.Extent.TheVariants as classes
use Rattle.mdmp_wire.specs.Number.{array_at}
use Rattle.mdmp_dump.specs.declared.part.Part.{Part}
use Rattle.mdmp_dump.specs.declared.part.Part.TheVariants as parts

module _ {Z : Type 0} where
  -- the part that a location of this class names; none where it lies outside
  abbrev pub part_in : List ℕ → Location → Extent → Option (Part Z)
  part_in F at classes.Empty = Some (parts.Bytes [])
  part_in F at classes.Absent = Some (parts.Absent at.size)
  part_in F at classes.Inside = Some (parts.Bytes (array_at F at.rva at.size))
  part_in F at classes.Outside = None

  -- the location names the part
  abbrev pub IsPart : List ℕ → Location → Part Z → Type 0
  IsPart F at part = part_in F at (extent_of at (length F)) ≡ Some part

  -- the size of an absent part is over 0, and has 32 bits
  abbrev pub PartFits : Part Z → Type 0
  PartFits (parts.Bytes bytes) = Unit {0}
  PartFits (parts.Absent size) = (0 < size) × (size < 2 ^ 32)
