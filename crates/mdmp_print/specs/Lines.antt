-- The lines that are printed. `<n>` is a decimal number.
use Rattle.std.specs.Prelude.{ℕ, ◌/◌, List, [], ◌∷◌, codes}
use Rattle.std.specs.List.{concat}
use Rattle.std.specs.Fmt.{decimal}
use Rattle.mdmp_wire.specs.declared.header.Header.{Header}
use Rattle.mdmp_wire.specs.Digits.{hex}

-- `dump version 0x<4 digits> streams <n> directory <n> checksum <n> time <n> flags 0x<16 digits>`: the version's high half
abbrev pub dump_line : Header → List ℕ
dump_line h = concat (codes "dump version 0x" ∷ hex 4 (h.version / 65536) ∷ codes " streams " ∷ decimal h.number_of_streams
    ∷ codes " directory " ∷ decimal h.stream_directory_rva ∷ codes " checksum " ∷ decimal h.checksum ∷ codes " time " ∷ decimal h.time_date_stamp
    ∷ codes " flags 0x" ∷ hex 16 h.flags ∷ codes "\n" ∷ [])

-- `mdmp: ` and what a fault says: a line of standard error
abbrev pub error_line : List ℕ → List ℕ
error_line text = concat (codes "mdmp: " ∷ text ∷ codes "\n" ∷ [])
