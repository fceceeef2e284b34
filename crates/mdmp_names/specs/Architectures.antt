-- Processor architectures. Made by bindings/generate from bindings/names.toml.
use Rattle.std.specs.Prelude.{ℕ, List, [], ◌∷◌, Option, codes}
use Rattle.mdmp_names.specs.Table.{NamedNumber, name_among}

abbrev pub architectures : List NamedNumber
architectures =
    (0, codes "x86")
    ∷ (1, codes "MIPS")
    ∷ (2, codes "Alpha")
    ∷ (3, codes "PowerPC")
    ∷ (4, codes "SuperH")
    ∷ (5, codes "ARM")
    ∷ (6, codes "IA-64")
    ∷ (7, codes "64-bit Alpha")
    ∷ (8, codes "MSIL")
    ∷ (9, codes "x64")
    ∷ (10, codes "x86 on x64")
    ∷ (11, codes "any processor")
    ∷ (12, codes "ARM64")
    ∷ (13, codes "ARM on 64-bit Windows")
    ∷ (14, codes "x86 on ARM64")
    ∷ (0x8001, codes "SPARC")
    ∷ (0x8002, codes "64-bit PowerPC")
    ∷ (0x8003, codes "ARM64")
    ∷ (0x8004, codes "64-bit MIPS")
    ∷ (0x8005, codes "RISC-V")
    ∷ (0x8006, codes "64-bit RISC-V")
    ∷ (0xFFFF, codes "unknown processor")
    ∷ []

abbrev pub architecture_words : ℕ → Option (List ℕ)
architecture_words = name_among architectures
