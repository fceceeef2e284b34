-- What `hex` prints. A cell is the byte of an address, or none where no range holds the address. `<x16>` is `0x` and 16
-- lower-case hexadecimal digits.
use Rattle.std.specs.Prelude.{ℕ, ◌+◌, ◌*◌, List, [], ◌∷◌, Option, Some, None, take, drop, length, codes}
use Rattle.std.specs.List.{concat, flat_map, range_with_len}
use Rattle.std.specs.Int.{div_ceil}
use Rattle.mdmp_wire.specs.Digits.{hex}
use Rattle.mdmp_map.specs.declared.range.Range.{Range}
use Rattle.mdmp_lister.specs.Addressing.{cells_at}

-- how many bytes can be asked for
abbrev pub length_limit : ℕ
length_limit = 1048576

-- ` ` and two lower-case digits, or ` ??`
abbrev pub cell_text : Option ℕ → List ℕ
cell_text None = codes " ??"
cell_text (Some byte) = concat (codes " " ∷ hex 2 byte ∷ [])

-- `<x16>:`
abbrev pub address_text : ℕ → List ℕ
address_text address = concat (codes "0x" ∷ hex 16 address ∷ codes ":" ∷ [])

-- a line: the address of its first cell, and its cells
abbrev pub hex_line : ℕ → List (Option ℕ) → List ℕ
hex_line address line = concat (address_text address ∷ flat_map cell_text line ∷ codes "\n" ∷ [])

-- the line of number k, which has the cells from 16 k up to 16 k + 15
abbrev pub line_text : ℕ → List (Option ℕ) → ℕ → List ℕ
line_text address all k = hex_line (address + 16 * k) (take 16 (drop (16 * k) all))

-- the numbers of the lines of so many cells: sixteen cells a line, and what is left on the last one
abbrev pub line_numbers : ℕ → List ℕ
line_numbers count = range_with_len 0 (div_ceil count 16)

-- the lines of some cells, the first of which stands at the address
abbrev pub cells_text : ℕ → List (Option ℕ) → List ℕ
cells_text address all = flat_map (line_text address all) (line_numbers (length all))

-- the bytes of F at so many addresses, from this one on
abbrev pub hex_text : List ℕ → List Range → ℕ → ℕ → List ℕ
hex_text F ranges address length =
    cells_text address (cells_at F ranges address length)
