-- Texts of members and values between the fixed parts of a line of JSON. What they are as tokens is in Json.
use Rattle.std.specs.Prelude.{ℕ, ◌∷◌, [], ◌++◌, List, Bool, true, false, not, Option, Some, None, min, take, codes}
use Rattle.std.specs.List.{concat, flat_map}
use Rattle.std.specs.Fmt.{decimal}
use Rattle.std.specs.Char.Utf16.{has_unpaired_surrogate}
use Rattle.std.specs.Str.{is_utf8}
use Rattle.std.specs.Str.Lossy.{utf8_lossy}
use Rattle.json.specs.Print.{escape}
use Rattle.mdmp_source.specs.declared.location.Extent.{Extent}
use Rattle.mdmp_source.specs.declared.location.Extent.TheVariants.{Empty, Absent, Inside, Outside}
use Rattle.mdmp_wire.specs.Digits.{hex}
use Rattle.mdmp_wire.specs.Units.{units_in, utf8_of}
use Rattle.mdmp_lister.specs.declared.name.Name.{Name}
use Rattle.mdmp_lister.specs.declared.name.Name.TheVariants.{Units, Long}
use Rattle.mdmp_lister.specs.declared.name.Name.TheVariants as names

-- a number behind a text and between two quotes, which are empty where it stands as a number
abbrev pub number_text : List ℕ → List ℕ → ℕ → List ℕ
number_text first quote n = concat (first ∷ quote ∷ decimal n ∷ quote ∷ [])

-- behind others, the member that tells where something stands
abbrev pub offset_member_text : List ℕ → ℕ → List ℕ
offset_member_text quote offset = number_text (codes ",\"offset\":") quote offset

-- a size behind a text, and where something stands
abbrev pub size_and_offset_text : List ℕ → List ℕ → ℕ → ℕ → List ℕ
size_and_offset_text first quote size offset = number_text first quote size ++ offset_member_text quote offset

-- the members of a part
abbrev pub placed_text : List ℕ → Extent → ℕ → ℕ → List ℕ
placed_text quote Empty size offset = codes "\"class\":\"empty\""
placed_text quote Absent size offset = number_text (codes "\"class\":\"absent\",\"size\":") quote size
placed_text quote Inside size offset = size_and_offset_text (codes "\"class\":\"inside\",\"size\":") quote size offset
placed_text quote Outside size offset = size_and_offset_text (codes "\"class\":\"outside\",\"size\":") quote size offset

-- what stands behind a string that is not what was read
abbrev pub lossy_text : Bool → List ℕ
lossy_text true = codes ",\"lossy\":true"
lossy_text false = []

-- a text as a string, and whether it is not what was read
abbrev pub spelled_text : List ℕ → Bool → List ℕ
spelled_text s is_lossy = codes "\"" ++ (escape s ++ (codes "\"" ++ lossy_text is_lossy))

-- the length of a name that is too long to be read
abbrev pub length_text : ℕ → List ℕ
length_text length = concat (codes "{\"long\":" ∷ decimal length ∷ codes "}" ∷ [])

abbrev pub name_value_text : Name → List ℕ
name_value_text names.None = codes "null"
name_value_text (Units units) = spelled_text (utf8_of (units_in units)) (has_unpaired_surrogate (units_in units))
name_value_text (Long length) = length_text length

-- a text as a string, or the word null if there is none
abbrev pub text_or_null_text : Option (List ℕ) → List ℕ
text_or_null_text None = codes "null"
text_or_null_text (Some s) = codes "\"" ++ (s ++ codes "\"")

abbrev pub bytes_value_text : List ℕ → List ℕ
bytes_value_text bytes = spelled_text (utf8_lossy bytes) (not (is_utf8 bytes))

abbrev pub hex_value_text : ℕ → List ℕ
hex_value_text n = concat (codes "\"0x" ∷ hex 16 n ∷ codes "\"" ∷ [])

-- the same behind a comma
abbrev pub next_value_text : ℕ → List ℕ
next_value_text n = codes "," ++ hex_value_text n

abbrev pub next_values_text : List ℕ → List ℕ
next_values_text values = flat_map next_value_text values

-- with commas between them
abbrev pub all_values_text : List ℕ → List ℕ
all_values_text [] = []
all_values_text (v ∷ vs) = hex_value_text v ++ next_values_text vs

abbrev pub hex_strings_text : ℕ → List ℕ → List ℕ
hex_strings_text count values = all_values_text (take (min count 15) values)

abbrev pub record_member_text : Option ℕ → List ℕ
record_member_text None = []
record_member_text (Some k) = number_text (codes ",\"item\":") (codes "\"") k

abbrev pub bool_text : Bool → List ℕ
bool_text true = codes "true"
bool_text false = codes "false"
