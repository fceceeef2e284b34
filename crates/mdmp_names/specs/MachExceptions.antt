-- Mach exceptions. Made by bindings/generate from bindings/names.toml.
use Rattle.std.specs.Prelude.{ℕ, List, [], ◌∷◌, Option, codes}
use Rattle.mdmp_names.specs.Table.{NamedNumber, name_among}

abbrev pub mach_exceptions : List NamedNumber
mach_exceptions =
    (1, codes "EXC_BAD_ACCESS")
    ∷ (2, codes "EXC_BAD_INSTRUCTION")
    ∷ (3, codes "EXC_ARITHMETIC")
    ∷ (4, codes "EXC_EMULATION")
    ∷ (5, codes "EXC_SOFTWARE")
    ∷ (6, codes "EXC_BREAKPOINT")
    ∷ (7, codes "EXC_SYSCALL")
    ∷ (8, codes "EXC_MACH_SYSCALL")
    ∷ (9, codes "EXC_RPC_ALERT")
    ∷ (10, codes "EXC_CRASH")
    ∷ (11, codes "EXC_RESOURCE")
    ∷ (12, codes "EXC_GUARD")
    ∷ (13, codes "EXC_CORPSE_NOTIFY")
    ∷ (0x43506E78, codes "kMachExceptionFromNSException")
    ∷ (0x43507378, codes "kMachExceptionSimulated")
    ∷ []

abbrev pub mach_exception : ℕ → Option (List ℕ)
mach_exception = name_among mach_exceptions
