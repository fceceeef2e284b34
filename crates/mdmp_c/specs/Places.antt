-- Places in the file, as plain numbers.
use Rattle.std.specs.Prelude.{ℕ, ◌%◌, ◌^◌, length}
use Rattle.mdmp_c.specs.declared.parts.PartPlace.{PartPlace}
use Rattle.mdmp_c.specs.declared.parts.NamePlace.{NamePlace}
use Rattle.mdmp_source.specs.declared.location.Location.{Location}
use Rattle.mdmp_source.specs.declared.location.Extent.{Extent}
use Rattle.mdmp_source.specs.declared.location.Extent.TheVariants.{Empty, Absent, Inside, Outside}
use Rattle.mdmp_lister.specs.declared.name.Name.{Name}
use Rattle.mdmp_lister.specs.declared.name.Name.TheVariants as names
use Rattle.mdmp_wire.specs.Number.{les}
use Rattle.mdmp_wire.specs.Units.{units_in}

abbrev pub extent_number : Extent → ℕ
extent_number Empty = 0
extent_number Absent = 1
extent_number Inside = 2
extent_number Outside = 3

abbrev pub part_place : Location → Extent → PartPlace
part_place at extent = record { size = at.size; rva = at.rva; extent = extent_number extent; reserved = 0 }

abbrev pub name_place : ℕ → Name → NamePlace
name_place rva names.None = record { rva = rva; size = 0; state = 0 }
name_place rva (names.Units u) = record { rva = rva; size = length (les 2 (units_in u)) % 2 ^ 32; state = 1 }
name_place rva (names.Long length) = record { rva = rva; size = length; state = 2 }
