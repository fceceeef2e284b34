-- Codes of one Mach exception, on ARM and ARM64. Made by bindings/generate from bindings/names.toml.
use Rattle.std.specs.Prelude.{ℕ, List, [], ◌∷◌, Option, codes}
use Rattle.mdmp_names.specs.Table.{NamedFlags, flags_among}

abbrev pub mach_arm_codes : List NamedFlags
mach_arm_codes =
    (1, 0x101, codes "EXC_ARM_DA_ALIGN")
    ∷ (1, 0x102, codes "EXC_ARM_DA_DEBUG")
    ∷ (1, 0x103, codes "EXC_ARM_SP_ALIGN")
    ∷ (1, 0x104, codes "EXC_ARM_SWP")
    ∷ (1, 0x105, codes "EXC_ARM_PAC_FAIL")
    ∷ (2, 0x001, codes "EXC_ARM_UNDEFINED")
    ∷ (3, 0x001, codes "EXC_ARM_FP_IO")
    ∷ (3, 0x002, codes "EXC_ARM_FP_DZ")
    ∷ (3, 0x003, codes "EXC_ARM_FP_OF")
    ∷ (3, 0x004, codes "EXC_ARM_FP_UF")
    ∷ (3, 0x005, codes "EXC_ARM_FP_IX")
    ∷ (3, 0x006, codes "EXC_ARM_FP_ID")
    ∷ (6, 0x001, codes "EXC_ARM_BREAKPOINT")
    ∷ []

abbrev pub mach_arm_code : (code flags : ℕ) → Option (List ℕ)
mach_arm_code = flags_among mach_arm_codes
