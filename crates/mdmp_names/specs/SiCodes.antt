-- Codes of any signal. Made by bindings/generate from bindings/names.toml.
use Rattle.std.specs.Prelude.{ℕ, List, [], ◌∷◌, Option, codes}
use Rattle.mdmp_names.specs.Table.{NamedNumber, name_among}

abbrev pub si_codes : List NamedNumber
si_codes =
    (0x00000000, codes "SI_USER")
    ∷ (0x00000080, codes "SI_KERNEL")
    ∷ (0xFFFFFFC4, codes "SI_ASYNCNL")
    ∷ (0xFFFFFFF9, codes "SI_DETHREAD")
    ∷ (0xFFFFFFFA, codes "SI_TKILL")
    ∷ (0xFFFFFFFB, codes "SI_SIGIO")
    ∷ (0xFFFFFFFC, codes "SI_ASYNCIO")
    ∷ (0xFFFFFFFD, codes "SI_MESGQ")
    ∷ (0xFFFFFFFE, codes "SI_TIMER")
    ∷ (0xFFFFFFFF, codes "SI_QUEUE")
    ∷ []

abbrev pub signal_code : ℕ → Option (List ℕ)
signal_code = name_among si_codes
