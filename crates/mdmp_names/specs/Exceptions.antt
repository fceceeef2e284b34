-- The names of exceptions, by the platform of a dump and its processor architecture.
use Rattle.std.specs.Prelude.{ℕ, Bool, nat_le, ◌==◌, ◌||◌, if◌then◌else◌, List, Option, None}
use Rattle.std.specs.Option.{option_or}
use Rattle.mdmp_names.specs.LinuxCodes.{linux_code}
use Rattle.mdmp_names.specs.LinuxSignals.{linux_signal}
use Rattle.mdmp_names.specs.MachArmCodes.{mach_arm_code}
use Rattle.mdmp_names.specs.MachCodes.{mach_code}
use Rattle.mdmp_names.specs.MachExceptions.{mach_exception}
use Rattle.mdmp_names.specs.MachX86Codes.{mach_x86_code}
use Rattle.mdmp_names.specs.SiCodes.{signal_code}
use Rattle.mdmp_names.specs.WindowsExceptions.{windows_exception}

-- a PlatformId of Windows, of Linux and Android, and of macOS and iOS
abbrev pub is_windows : ℕ → Bool
is_windows platform = nat_le platform 3

abbrev pub is_linux : ℕ → Bool
is_linux platform = platform == 0x8201 || platform == 0x8203

abbrev pub is_apple : ℕ → Bool
is_apple platform = platform == 0x8101 || platform == 0x8102

-- the name of an exception code, of a dump with this PlatformId
abbrev pub exception_name : (platform code : ℕ) → Option (List ℕ)
exception_name platform code =
    if is_windows platform then windows_exception code
    else if is_linux platform then linux_signal code
    else if is_apple platform then mach_exception code
    else None

-- a ProcessorArchitecture that is x86 or x64, and one that is ARM or ARM64
abbrev pub is_x86 : ℕ → Bool
is_x86 architecture = architecture == 0 || architecture == 9

abbrev pub is_arm : ℕ → Bool
is_arm architecture = architecture == 5 || architecture == 12 || architecture == 0x8003

-- the name of the flags of a Mach exception, on a processor
abbrev pub mach_flags : (architecture code flags : ℕ) → Option (List ℕ)
mach_flags architecture code flags =
    if is_x86 architecture then option_or (mach_code code flags) (mach_x86_code code flags)
    else if is_arm architecture then option_or (mach_code code flags) (mach_arm_code code flags)
    else mach_code code flags

-- the name of the flags of an exception record. On Windows flags have no names, and elsewhere flags of 0 have none: they are also
-- written if the flags are not known
abbrev pub flags_name : (platform architecture code flags : ℕ) → Option (List ℕ)
flags_name platform architecture code flags =
    if flags == 0 then None
    else if is_linux platform then option_or (linux_code code flags) (signal_code flags)
    else if is_apple platform then mach_flags architecture code flags
    else None
