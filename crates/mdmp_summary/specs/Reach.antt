-- The address that a crashing thread tried to reach, and how.
use Rattle.std.specs.Prelude.{ℕ, Bool, Option, Some, None, nat_le, slice_index, ◌==◌, ◌||◌, ◌&&◌, if◌then◌else◌}
use Rattle.mdmp_wire.specs.declared.exception.ExceptionRecord.{ExceptionRecord}
use Rattle.mdmp_summary.specs.declared.crash.Platform.{Platform}
use Rattle.mdmp_summary.specs.declared.crash.Platform.TheVariants.{Apple, Linux, Other, Windows}
use Rattle.mdmp_summary.specs.declared.reach.AccessKind.{AccessKind}
use Rattle.mdmp_summary.specs.declared.reach.AccessKind.TheVariants.{Execute, Read, Unknown, Write}
use Rattle.mdmp_summary.specs.declared.reach.Reached.{Reached}

-- EXCEPTION_ACCESS_VIOLATION, or EXCEPTION_IN_PAGE_ERROR: the first parameter tells the access, and the second the address
abbrev pub is_access_fault : ℕ → Bool
is_access_fault code = code == 0xC0000005 || code == 0xC0000006

abbrev pub access_of : ℕ → AccessKind
access_of parameter =
    if parameter == 0 then Read
    else if parameter == 1 then Write
    else if parameter == 8 then Execute
    else Unknown

-- a signal of Linux that has an address: SIGILL, SIGTRAP, SIGBUS, SIGFPE, SIGSEGV
abbrev pub has_address : ℕ → Bool
has_address code = code == 4 || code == 5 || code == 7 || code == 8 || code == 11

-- the address is ExceptionAddress, and the access is not known
abbrev pub reached_plainly : Bool → ExceptionRecord → Option Reached
reached_plainly says x = if says then Some (record { address = x.exception_address; access = Unknown }) else None

-- what the thread of an exception tried to reach, if the code tells: 1 is EXC_BAD_ACCESS of Apple's systems
abbrev pub reached_on : Platform → ExceptionRecord → Option Reached
reached_on Windows x =
    if is_access_fault x.exception_code && nat_le 2 x.number_parameters
    then Some (record { address = slice_index x.exception_information 1; access = access_of (slice_index x.exception_information 0) })
    else None
reached_on Linux x = reached_plainly (has_address x.exception_code) x
reached_on Apple x = reached_plainly (x.exception_code == 1) x
reached_on Other x = None
