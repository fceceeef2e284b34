-- Platforms. Made by bindings/generate from bindings/names.toml.
use Rattle.std.specs.Prelude.{ℕ, List, [], ◌∷◌, Option, codes}
use Rattle.mdmp_names.specs.Table.{NamedNumber, name_among}

abbrev pub platforms : List NamedNumber
platforms =
    (0, codes "Win32s")
    ∷ (1, codes "Windows 95 to Me")
    ∷ (2, codes "Windows")
    ∷ (0x0003, codes "Windows CE")
    ∷ (0x8000, codes "Unix")
    ∷ (0x8101, codes "macOS")
    ∷ (0x8102, codes "iOS")
    ∷ (0x8201, codes "Linux")
    ∷ (0x8202, codes "Solaris")
    ∷ (0x8203, codes "Android")
    ∷ (0x8204, codes "PS3")
    ∷ (0x8205, codes "NaCl")
    ∷ (0x8206, codes "Fuchsia")
    ∷ []

abbrev pub platform_words : ℕ → Option (List ℕ)
platform_words = name_among platforms
