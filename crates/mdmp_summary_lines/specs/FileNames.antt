-- The names of modules as a summary prints them: the file's, without its folder.
use Rattle.std.specs.Prelude.{ℕ, List, [], ◌∷◌, Bool, ◌==◌, ◌||◌, if◌then◌else◌, codes}
use Rattle.std.specs.List.{concat}
use Rattle.std.specs.Fmt.{decimal}
use Rattle.mdmp_lister.specs.declared.name.Name.{Name}
use Rattle.mdmp_lister.specs.declared.name.Name.TheVariants.{Units, Long}
use Rattle.mdmp_lister.specs.declared.name.Name.TheVariants as names
use Rattle.mdmp_wire.specs.Escape.{escaped}
use Rattle.mdmp_wire.specs.Units.{units_in}

-- a slash or a backslash
abbrev pub is_separator : ℕ → Bool
is_separator unit = unit == 0x2f || unit == 0x5c

-- what follows the last separator of some units, or `part` if they have none
abbrev pub behind_last : (part units : List ℕ) → List ℕ
behind_last part [] = part
behind_last part (unit ∷ more) = behind_last (if is_separator unit then more else part) more

-- what follows the last separator of a path: all of it if there is none
abbrev pub file_part : List ℕ → List ℕ
file_part path = behind_last path path

-- the escaped units of the file's name, or why they are not known
abbrev pub file_text : Name → List ℕ
file_text names.None = codes "(no name)"
file_text (Units path) = escaped (file_part (units_in path))
file_text (Long length) = concat (codes "(name of " ∷ decimal length ∷ codes " bytes)" ∷ [])
