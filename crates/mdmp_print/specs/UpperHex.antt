-- Hexadecimal digits in upper case.
use Rattle.std.specs.Prelude.{ℕ, zero, suc, ◌/◌, ◌%◌, List, [], ◌∷◌, ◌++◌, true}
use Rattle.std.specs.Fmt.{digit_glyph}

-- the last k hexadecimal digits of n, in upper case
unfoldable pub upper_hex : ℕ → ℕ → List ℕ
upper_hex zero n = []
upper_hex (suc k) n = upper_hex k (n / 16) ++ digit_glyph true (n % 16) ∷ []
