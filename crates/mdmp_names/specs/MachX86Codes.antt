-- Codes of one Mach exception, on x86 and x64. Made by bindings/generate from bindings/names.toml.
use Rattle.std.specs.Prelude.{ℕ, List, [], ◌∷◌, Option, codes}
use Rattle.mdmp_names.specs.Table.{NamedFlags, flags_among}

abbrev pub mach_x86_codes : List NamedFlags
mach_x86_codes =
    (1, 13, codes "EXC_I386_GPFLT")
    ∷ (2, 1, codes "EXC_I386_INVOP")
    ∷ (2, 10, codes "EXC_I386_INVTSSFLT")
    ∷ (2, 11, codes "EXC_I386_SEGNPFLT")
    ∷ (2, 12, codes "EXC_I386_STKFLT")
    ∷ (3, 1, codes "EXC_I386_DIV")
    ∷ (3, 2, codes "EXC_I386_INTO")
    ∷ (3, 3, codes "EXC_I386_NOEXT")
    ∷ (3, 4, codes "EXC_I386_EXTOVR")
    ∷ (3, 5, codes "EXC_I386_EXTERR")
    ∷ (3, 6, codes "EXC_I386_EMERR")
    ∷ (3, 7, codes "EXC_I386_BOUND")
    ∷ (3, 8, codes "EXC_I386_SSEEXTERR")
    ∷ (6, 1, codes "EXC_I386_SGL")
    ∷ (6, 2, codes "EXC_I386_BPT")
    ∷ []

abbrev pub mach_x86_code : (code flags : ℕ) → Option (List ℕ)
mach_x86_code = flags_among mach_x86_codes
