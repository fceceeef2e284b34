-- Units of UTF-16 in bytes, the lower byte first.
use Rattle.std.specs.Prelude.{ℕ, ◌/◌, List, length}
use Rattle.std.specs.List.{flat_map}
use Rattle.std.specs.Str.{chars, encode_utf8_all}
use Rattle.std.specs.Char.Escape.{encode_utf16}
use Rattle.std.specs.Char.Utf16.{utf16_lossy_chars}
use Rattle.mdmp_wire.specs.declared.units_ref.UnitsRef.{UnitsRef}
use Rattle.mdmp_wire.specs.Number.{numbers_at}

-- the units that stand in these bytes
abbrev pub units_of : List ℕ → List ℕ
units_of bytes = numbers_at bytes 0 2 (length bytes / 2)

-- the units that are lent
abbrev pub units_in : UnitsRef → List ℕ
units_in units = units_of units.bytes.now

-- units over these bytes, lent from nowhere
abbrev pub units_over : List ℕ → UnitsRef
units_over bytes = record { bytes = record { ref_ptr = (0, 0); now = bytes } }

-- the same units, with the place that they are lent from forgotten
abbrev pub plain_units : UnitsRef → UnitsRef
plain_units units = units_over units.bytes.now

-- the units of a text
abbrev pub utf16_of : List ℕ → List ℕ
utf16_of text = flat_map encode_utf16 (chars text)

-- the text of units, with U+FFFD for each lone surrogate
abbrev pub utf8_of : List ℕ → List ℕ
utf8_of units = encode_utf8_all (utf16_lossy_chars units)
