-- Codes of one Mach exception. Made by bindings/generate from bindings/names.toml.
use Rattle.std.specs.Prelude.{ℕ, List, [], ◌∷◌, Option, codes}
use Rattle.mdmp_names.specs.Table.{NamedFlags, flags_among}

abbrev pub mach_codes : List NamedFlags
mach_codes =
    (1, 0x00001, codes "KERN_INVALID_ADDRESS")
    ∷ (1, 0x00002, codes "KERN_PROTECTION_FAILURE")
    ∷ (1, 0x00008, codes "KERN_NO_ACCESS")
    ∷ (1, 0x00009, codes "KERN_MEMORY_FAILURE")
    ∷ (1, 0x0000A, codes "KERN_MEMORY_ERROR")
    ∷ (1, 0x00032, codes "KERN_CODESIGN_ERROR")
    ∷ (5, 0x10000, codes "EXC_UNIX_BAD_SYSCALL")
    ∷ (5, 0x10001, codes "EXC_UNIX_BAD_PIPE")
    ∷ (5, 0x10002, codes "EXC_UNIX_ABORT")
    ∷ (5, 0x10003, codes "EXC_SOFT_SIGNAL")
    ∷ []

abbrev pub mach_code : (code flags : ℕ) → Option (List ℕ)
mach_code = flags_among mach_codes
