-- Words, and names of files, as they are told. Each is the list of its bytes.
use Rattle.std.specs.Prelude.{ℕ, Bool, ◌==◌, ◌||◌, nat_lt, if◌then◌else◌, List, [], ◌∷◌, ◌++◌, codes}
use Rattle.std.specs.List.{flat_map}
use Rattle.mdmp_wire.specs.Digits.{hex}

-- a control character of ASCII
abbrev pub is_control : ℕ → Bool
is_control byte = nat_lt byte 32 || byte == 127

-- a control character is told as `\u00` and two digits, any other byte as it is
abbrev pub shown_byte : ℕ → List ℕ
shown_byte byte = if is_control byte then codes "\\u00" ++ hex 2 byte else byte ∷ []

abbrev pub shown : List ℕ → List ℕ
shown bytes = flat_map shown_byte bytes
