-- Objects of JSON as their tokens, and the line of one.
use Rattle.std.specs.Prelude.{ℕ, Bool, true, false, not, min, Option, Some, None, List, [], ◌∷◌, ◌++◌, take, map, codes}
use Rattle.std.specs.Fmt.{decimal}
use Rattle.std.specs.Char.Utf16.{has_unpaired_surrogate}
use Rattle.std.specs.Str.Lossy.{utf8_lossy}
use Rattle.std.specs.Str.{is_utf8}
use Rattle.json.specs.Token.{Token, begin_object, end_object, key, string, number, boolean, null}
use Rattle.json.specs.Print.{print}
use Rattle.mdmp_source.specs.declared.location.Extent.{Extent}
use Rattle.mdmp_source.specs.declared.location.Extent.TheVariants.{Empty, Absent, Inside, Outside}
use Rattle.mdmp_wire.specs.Digits.{hex}
use Rattle.mdmp_wire.specs.Units.{units_in, utf8_of}
use Rattle.mdmp_lister.specs.declared.name.Name.{Name}
use Rattle.mdmp_lister.specs.declared.name.Name.TheVariants.{Units, Long}
use Rattle.mdmp_lister.specs.declared.name.Name.TheVariants as names

-- ---- members

-- a number of at most 32 bits, or the number of an entry or a record
abbrev pub of_number : List ℕ → ℕ → List Token
of_number name n = key name ∷ number (decimal n) ∷ []

-- a wider number, as a string of its digits
abbrev pub of_wide : List ℕ → ℕ → List Token
of_wide name n = key name ∷ string (decimal n) ∷ []

abbrev pub of_text : List ℕ → List ℕ → List Token
of_text name s = key name ∷ string s ∷ []

-- `0x` and k hexadecimal digits
abbrev pub prefixed_hex : ℕ → ℕ → List ℕ
prefixed_hex k n = codes "0x" ++ hex k n

abbrev pub of_hex : List ℕ → ℕ → ℕ → List Token
of_hex name k n = of_text name (prefixed_hex k n)

-- members, one behind the other
abbrev pub joined_members : List (List Token) → List Token
joined_members [] = []
joined_members (x ∷ xs) = x ++ joined_members xs

-- members in braces
abbrev pub object : List (List Token) → List Token
object members = begin_object ∷ (joined_members members ++ end_object ∷ [])

abbrev pub of_object : List ℕ → List (List Token) → List Token
of_object name members = key name ∷ object members

-- ---- parts

-- a class, and the size and the offset where it has such; `of` gives a member of a number
abbrev pub part_members : (List ℕ → ℕ → List Token) → Extent → ℕ → ℕ → List Token
part_members of Empty size offset = of_text (codes "class") (codes "empty")
part_members of Absent size offset = of_text (codes "class") (codes "absent") ++ of (codes "size") size
part_members of Inside size offset = of_text (codes "class") (codes "inside") ++ (of (codes "size") size ++ of (codes "offset") offset)
part_members of Outside size offset = of_text (codes "class") (codes "outside") ++ (of (codes "size") size ++ of (codes "offset") offset)

-- ---- names

-- behind a text that is not what was read, that it isn't
abbrev pub lossy_member : Bool → List Token
lossy_member true = key (codes "lossy") ∷ boolean true ∷ []
lossy_member false = []

-- a text, and behind it whether it is not what was read
abbrev pub spelled : List ℕ → Bool → List Token
spelled s is_lossy = string s ∷ lossy_member is_lossy

-- a name: null, its length where it is too long, or its units as text
abbrev pub name_value : Name → List Token
name_value names.None = null ∷ []
name_value (Units units) = spelled (utf8_of (units_in units)) (has_unpaired_surrogate (units_in units))
name_value (Long length) = object (of_number (codes "long") length ∷ [])

-- a text, or null if there is none
abbrev pub text_or_null : Option (List ℕ) → List Token
text_or_null None = null ∷ []
text_or_null (Some s) = string s ∷ []

-- bytes of a file name
abbrev pub bytes_value : List ℕ → List Token
bytes_value bytes = spelled (utf8_lossy bytes) (not (is_utf8 bytes))

-- ---- values

abbrev pub hex_string : ℕ → Token
hex_string n = string (prefixed_hex 16 n)

-- as many of the values of an exception as it is said to have, at most fifteen
abbrev pub values_of : ℕ → List ℕ → List Token
values_of count values = map hex_string (take (min count 15) values)

-- ---- lines

-- an object, and a line feed
abbrev pub object_line : List Token → List ℕ
object_line tokens = print tokens ++ codes "\n"
