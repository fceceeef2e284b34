-- The name of a record, as its units.
use Rattle.std.specs.Prelude.{◌≡◌, ℕ, List, length, Option, Some, None, Ok, ◌<◌, ◌^◌, slice_index}
use Rattle.std.specs.Result.{result_map_both}
use Rattle.mdmp_wire.specs.Units.{units_in}
use Rattle.mdmp_lister.specs.declared.name.Name.{Name}
use Rattle.mdmp_lister.specs.declared.name.Name.TheVariants as names
use Rattle.mdmp_lister.specs.Format.Name.{name_at}

-- the units of a name, or that there is none; nothing of a long one
abbrev pub name_told : Name → Option (Option (List ℕ))
name_told names.None = Some None
name_told (names.Units units) = Some (Some (units_in units))
name_told (names.Long size) = None

-- the name, or none, stands at rva: none in F has more bytes than F
abbrev pub IsName : List ℕ → ℕ → Option (List ℕ) → Type 0
IsName F rva name = result_map_both name_told (λ fault. fault) (name_at F rva (length F)) ≡ Ok (Some name)

-- each unit has 16 bits
abbrev pub NameFits : Option (List ℕ) → Type 0
NameFits None = Unit {0}
NameFits (Some units) = (i : ℕ) → slice_index units i < 2 ^ 16
