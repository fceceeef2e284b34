-- Tables of names, and the search in them.
use Rattle.std.specs.Prelude.{ℕ, Bool, true, nat_le, ◌==◌, ◌&&◌, if◌then◌else◌, List, [], ◌∷◌, length, map, Option, Some, None}
use Rattle.std.specs.Borrow.{Bor}

-- a number, and its name
abbrev pub NamedNumber : Type 0
NamedNumber = ℕ × List ℕ

-- the code of an exception, flags, and their name for this code
abbrev pub NamedFlags : Type 0
NamedFlags = ℕ × ℕ × List ℕ

-- the rows of a table, as the code has them
abbrev pub number_rows : List (ℕ × Bor (List ℕ)) → List NamedNumber
number_rows = map (λ row. (row.0, row.1.now))

abbrev pub flag_rows : List (ℕ × ℕ × Bor (List ℕ)) → List NamedFlags
flag_rows = map (λ row. (row.0, row.1, row.2.now))

-- the name of the first row that has this number
abbrev pub name_among : List NamedNumber → ℕ → Option (List ℕ)
name_among [] number = None
name_among (row ∷ rows) number = if row.0 == number then Some row.1 else name_among rows number

-- the name of the first row that has this code and these flags
abbrev pub flags_among : List NamedFlags → (code flags : ℕ) → Option (List ℕ)
flags_among [] code flags = None
flags_among (row ∷ rows) code flags = if row.0 == code && row.1 == flags then Some row.2 else flags_among rows code flags

-- each name has at most 64 bytes
abbrev pub are_short : List NamedNumber → Bool
are_short [] = true
are_short (row ∷ rows) = nat_le (length row.1) 64 && are_short rows

abbrev pub are_short_flags : List NamedFlags → Bool
are_short_flags [] = true
are_short_flags (row ∷ rows) = nat_le (length row.2) 64 && are_short_flags rows
