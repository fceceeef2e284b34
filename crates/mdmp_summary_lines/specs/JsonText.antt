-- Texts and names in the object of a summary.
use Rattle.std.specs.Prelude.{ℕ, List, Option, Some, None, codes}
use Rattle.std.specs.Fmt.{decimal}
use Rattle.std.specs.Str.Lossy.{utf8_lossy}
use Rattle.json.specs.Print.{escape}
use Rattle.mdmp_lister.specs.declared.name.Name.{Name}
use Rattle.mdmp_lister.specs.declared.name.Name.TheVariants.{Units, Long}
use Rattle.mdmp_lister.specs.declared.name.Name.TheVariants as names
use Rattle.mdmp_print.specs.Json.{prefixed_hex}
use Rattle.mdmp_print.specs.Shown.{in_quotes}
use Rattle.mdmp_wire.specs.Units.{units_in, utf8_of}
use Rattle.mdmp_summary_lines.specs.FileNames.{file_part}

-- a text as a string
abbrev pub string_text : List ℕ → List ℕ
string_text s = in_quotes (escape s)

-- bytes as a string, with U+FFFD for each part that is no UTF-8
abbrev pub bytes_string : List ℕ → List ℕ
bytes_string bytes = string_text (utf8_lossy bytes)

-- units as a string, with U+FFFD for each lone surrogate
abbrev pub units_string : List ℕ → List ℕ
units_string units = string_text (utf8_of units)

-- a name that was read, as a string; there is none if the file has none, or if it is too long
abbrev pub name_string : Name → List ℕ
name_string (Units units) = units_string (units_in units)
name_string names.None = codes "null"
name_string (Long length) = codes "null"

-- the part of a name that follows its folders, in the same way
abbrev pub file_string : Name → List ℕ
file_string (Units path) = units_string (file_part (units_in path))
file_string names.None = codes "null"
file_string (Long length) = codes "null"

-- a word of this program as a string, if there is one
abbrev pub word_or_null : Option (List ℕ) → List ℕ
word_or_null (Some word) = in_quotes word
word_or_null None = codes "null"

-- `0x` and k hexadecimal digits as a string, and decimal digits as one
abbrev pub prefixed_string : ℕ → ℕ → List ℕ
prefixed_string k n = in_quotes (prefixed_hex k n)

abbrev pub decimal_string : ℕ → List ℕ
decimal_string n = in_quotes (decimal n)

-- an index, if there is one
abbrev pub index_or_null : Option ℕ → List ℕ
index_or_null (Some index) = decimal index
index_or_null None = codes "null"
