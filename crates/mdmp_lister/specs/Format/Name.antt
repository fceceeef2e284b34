-- The name that stands at an offset of a file.
use Rattle.std.specs.Prelude.{ℕ, ◌+◌, ◌%◌, List, length, Result, Ok, Err, not, ◌==◌, nat_lt, if◌then◌else◌}
use Rattle.mdmp_source.specs.Range.{is_inside}
use Rattle.mdmp_wire.specs.Number.{number_at, array_at}
use Rattle.mdmp_wire.specs.Units.{units_over}
use Rattle.mdmp_lister.specs.declared.name.Name.{Name}
use Rattle.mdmp_lister.specs.declared.name.Name.TheVariants.{Units, Long}
use Rattle.mdmp_lister.specs.declared.name.Name.TheVariants as names
use Rattle.mdmp_lister.specs.declared.fault.Fault.{Fault}
use Rattle.mdmp_lister.specs.declared.fault.FaultKind.TheVariants.{NameLengthOutside, NameOdd, NameUnitsOutside}

-- a name, whatever place its units are lent from
abbrev pub plain_name : Name → Name
plain_name (Units u) = Units (units_over u.bytes.now)
plain_name n = n

-- the name at rva in the file F, where one of more than `limit` bytes is told by its length. Behind the length, in
-- bytes, stand the units
unfoldable pub name_at : List ℕ → ℕ → ℕ → Result Name Fault
name_at F rva limit =
    let size = length F in
    let bytes = number_at F rva 4 in
    if rva == 0 then Ok names.None
    else if not (is_inside rva 4 size) then Err (record { kind = NameLengthOutside; offset = rva; size = 4 })
    else if bytes % 2 == 1 then Err (record { kind = NameOdd; offset = rva; size = bytes })
    else if not (is_inside (rva + 4) bytes size) then Err (record { kind = NameUnitsOutside; offset = rva + 4; size = bytes })
    else if nat_lt limit bytes then Ok (Long bytes)
    else Ok (Units (units_over (array_at F (rva + 4) bytes)))
