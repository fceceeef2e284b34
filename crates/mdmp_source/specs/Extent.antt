-- What a location names in a file.
use Rattle.std.specs.Prelude.{◌==◌, ℕ, if◌then◌else◌}
use Rattle.mdmp_source.specs.declared.location.Location.{Location}
use Rattle.mdmp_source.specs.declared.location.Extent.{Extent}
use Rattle.mdmp_source.specs.declared.location.Extent.TheVariants.{Empty, Absent, Inside, Outside}
use Rattle.mdmp_source.specs.Range.{is_inside}

-- the extent of a location in a file of `size` bytes: the first of these that fits
abbrev pub extent_of : Location → ℕ → Extent
extent_of at size =
    if at.size == 0 then Empty
    else if at.rva == 0 then Absent
    else if is_inside at.rva at.size size then Inside
    else Outside
