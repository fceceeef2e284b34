-- What `hex` prints of some addresses, computed by the definitions.
use Rattle.std.proofs.Common.{◌≡◌, ℕ, List, [], ◌∷◌, ◌++◌, true, false, refl}
use Rattle.std.specs.Prelude.{codes, replicate}
use Rattle.std.specs.List.{concat}
use Rattle.mdmp_wire.specs.Digits.{hex}
use Rattle.mdmp_map.specs.declared.range.Range.{Range}
use Rattle.mdmp_lister.specs.Addressing.{cells}
use Rattle.mdmp_print.specs.HexText.{cells_text, hex_text}

abbrev range_of : ℕ → ℕ → ℕ → Range
range_of start length offset = record { start = start; length = length; offset = offset }

abbrev file : List ℕ
file = replicate 80 0 ++ codes "ABCDwxyz"

-- two ranges that overlap, and the addresses on both sides of them
overlapping-text : hex_text file (range_of 0x1000 4 80 ∷ range_of 0x1002 4 84 ∷ []) 0xfff 8
    ≡ codes "0x0000000000000fff: ?? 41 42 43 44 79 7a ??\n"
unfolding hex
overlapping-text = refl

-- the first range that holds an address gives its byte
exchanged-text : hex_text file (range_of 0x1002 4 84 ∷ range_of 0x1000 4 80 ∷ []) 0xfff 8
    ≡ codes "0x0000000000000fff: ?? 41 42 77 78 79 7a ??\n"
unfolding hex
exchanged-text = refl

no_bytes-text : hex_text file (range_of 0x1000 4 80 ∷ []) 0x1000 0 ≡ []
no_bytes-text = refl

-- where no range holds an address, a line of sixteen and one of what is left
unknown-text : hex_text file [] 0x10 17
    ≡ concat (codes "0x0000000000000010:" ∷ concat (replicate 16 (codes " ??")) ∷ codes "\n0x0000000000000020: ??\n" ∷ [])
unfolding hex
unknown-text = refl

-- sixteen bytes fill one line, which begins at its address
one_line-text : hex_text file (range_of 0x1009 16 72 ∷ []) 0x1009 16
    ≡ codes "0x0000000000001009: 00 00 00 00 00 00 00 00 41 42 43 44 77 78 79 7a\n"
unfolding hex
one_line-text = refl

-- up to the last address
last_address-text : hex_text file (range_of 0xffffffffffffffff 8 80 ∷ []) 0xfffffffffffffffe 2
    ≡ codes "0xfffffffffffffffe: ?? 41\n"
unfolding hex
last_address-text = refl

-- a byte counts only where it is known
known-text : cells_text 0xa (cells (0 ∷ 255 ∷ 16 ∷ []) (true ∷ false ∷ true ∷ [])) ≡ codes "0x000000000000000a: 00 ?? 10\n"
unfolding hex
known-text = refl
