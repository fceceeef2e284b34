-- Worked lists of exceptions, and which is the crash.
use Rattle.std.proofs.Common.{◌≡◌, ℕ, List, [], ◌∷◌, Some, None, refl}
use Rattle.std.specs.Prelude.{map, replicate}
use Rattle.mdmp_source.specs.declared.location.Extent.TheVariants.{Empty}
use Rattle.mdmp_lister.specs.declared.item.ExceptionItem.{ExceptionItem}
use Rattle.mdmp_wire.specs.declared.exception.ExceptionRecord.{ExceptionRecord}
use Rattle.mdmp_summary.specs.Crash.{crash_on, platform_of}
use Rattle.mdmp_summary.specs.Reach.{reached_on}
use Rattle.mdmp_summary.specs.declared.reach.AccessKind.TheVariants.{Execute, Unknown, Write}
use Rattle.mdmp_summary.specs.declared.crash.Platform.TheVariants.{Apple, Linux, Other, Windows}

-- an exception with this code
abbrev exception : ℕ → ExceptionItem
exception code = record {
  entry = 0;
  index = 0;
  fields = record {
    thread_id = 7;
    exception_code = code;
    exception_flags = 0;
    exception_record = 0;
    exception_address = 0;
    number_parameters = 0;
    exception_information = replicate 15 0;
    thread_context = record { size = 0; rva = 0 };
  };
  context = Empty;
}

abbrev all_of : List ℕ → List ExceptionItem
all_of codes = map exception codes

-- SIGSTOP, SIGCHLD and SIGWINCH stop threads; SIGSEGV is the crash, and the next one is none
linux : crash_on Linux (all_of (19 ∷ 17 ∷ 28 ∷ 11 ∷ 6 ∷ [])) ≡ Some (exception 11)
linux = refl

-- 16 and 24 are crashes
linux-bounds : crash_on Linux (all_of (17 ∷ 23 ∷ 24 ∷ 16 ∷ [])) ≡ Some (exception 24)
linux-bounds = refl

linux-asked : crash_on Linux (all_of (0xFFFFFFFF ∷ [])) ≡ None
linux-asked = refl

linux-stopped : crash_on Linux (all_of (replicate 25 19)) ≡ None
linux-stopped = refl

-- a breakpoint of one thread, and a fault of another
windows : crash_on Windows (all_of (0x80000003 ∷ 0x80000004 ∷ 0xC0000005 ∷ [])) ≡ Some (exception 0xC0000005)
windows = refl

-- where all are breakpoints the first is the crash
windows-break : crash_on Windows (all_of (0x80000003 ∷ 0x80000004 ∷ [])) ≡ Some (exception 0x80000003)
windows-break = refl

-- codes are signals on Linux alone
windows-signals : crash_on Windows (all_of (19 ∷ [])) ≡ Some (exception 19)
windows-signals = refl

mac : crash_on Apple (all_of (19 ∷ 0x80000003 ∷ [])) ≡ Some (exception 19)
mac = refl

none : crash_on Windows [] ≡ None
none = refl

windows_nt : platform_of 2 ≡ Windows
windows_nt = refl

linux-id : platform_of 0x8201 ≡ Linux
linux-id = refl

android : platform_of 0x8203 ≡ Linux
android = refl

mac-id : platform_of 0x8101 ≡ Apple
mac-id = refl

solaris : platform_of 0x8202 ≡ Other
solaris = refl

-- ---- what was reached for

-- an exception with this code and these parameters
abbrev reaching : ℕ → ℕ → ℕ → ℕ → ExceptionRecord
reaching code n how address = record (exception code).fields { exception_address = 5; number_parameters = n; exception_information = how ∷ address ∷ replicate 13 0 }

written : reached_on Windows (reaching 0xC0000005 2 1 16) ≡ Some (record { address = 16; access = Write })
written = refl

run : reached_on Windows (reaching 0xC0000006 3 8 16) ≡ Some (record { address = 16; access = Execute })
run = refl

-- a record with too few parameters, and one of another code
unsaid : reached_on Windows (reaching 0xC0000005 1 1 16) ≡ None
unsaid = refl

unread : reached_on Windows (reaching 0x80000003 2 1 16) ≡ None
unread = refl

segv : reached_on Linux (reaching 11 2 1 16) ≡ Some (record { address = 5; access = Unknown })
segv = refl

-- SIGABRT reaches for nothing
abort : reached_on Linux (reaching 6 2 1 16) ≡ None
abort = refl

bad_access : reached_on Apple (reaching 1 2 13 16) ≡ Some (record { address = 5; access = Unknown })
bad_access = refl
