-- Which exception of a dump is the crash.
use Rattle.std.specs.Prelude.{ℕ, List, Option, Bool, not, filter, nat_le, ◌==◌, ◌||◌, ◌&&◌, if◌then◌else◌}
use Rattle.std.specs.Option.{option_or}
use Rattle.mdmp_lister.specs.declared.item.ExceptionItem.{ExceptionItem}
use Rattle.mdmp_summary.specs.Keeping.{first, kept}
use Rattle.mdmp_summary.specs.declared.crash.Exceptions.{Exceptions}
use Rattle.mdmp_summary.specs.declared.crash.Platform.{Platform}
use Rattle.mdmp_summary.specs.declared.crash.Platform.TheVariants.{Apple, Linux, Other, Windows}

-- the platform of a PlatformId: 0 to 3 are Windows, 0x8201 Linux, 0x8203 Android, 0x8101 macOS and 0x8102 iOS
abbrev pub platform_of : ℕ → Platform
platform_of id =
    if nat_le id 3 then Windows
    else if id == 0x8201 || id == 0x8203 then Linux
    else if id == 0x8101 || id == 0x8102 then Apple
    else Other

-- a signal of Linux by which a thread was stopped or went on (SIGCHLD to SIGURG, SIGWINCH), or the code of a requested dump
abbrev pub is_stop : ℕ → Bool
is_stop code = (nat_le 17 code && nat_le code 23) || code == 28 || code == 0xFFFFFFFF

-- a breakpoint of Windows, or a single step
abbrev pub is_break : ℕ → Bool
is_break code = code == 0x80000003 || code == 0x80000004

abbrev pub stops_nothing : ExceptionItem → Bool
stops_nothing x = not (is_stop x.fields.exception_code)

abbrev pub breaks_nothing : ExceptionItem → Bool
breaks_nothing x = not (is_break x.fields.exception_code)

-- the crash among the exceptions of a dump: on Linux the first one that is no stop; on Windows the first one that is no
-- breakpoint, or the first one if all are breakpoints; on other systems the first one
abbrev pub crash_on : Platform → List ExceptionItem → Option ExceptionItem
crash_on Windows xs = option_or (first (filter breaks_nothing xs)) (first xs)
crash_on Linux xs = first (filter stops_nothing xs)
crash_on Apple xs = first xs
crash_on Other xs = first xs

-- ---- an exception at a time

-- after these exceptions
abbrev pub exceptions_seen : Exceptions → List ExceptionItem → Exceptions
exceptions_seen old xs = record {
  first = kept old.first xs;
  unbroken = kept old.unbroken (filter breaks_nothing xs);
  unstopped = kept old.unstopped (filter stops_nothing xs);
}

abbrev pub crash_among : Exceptions → Platform → Option ExceptionItem
crash_among seen Windows = option_or seen.unbroken seen.first
crash_among seen Linux = seen.unstopped
crash_among seen Apple = seen.first
crash_among seen Other = seen.first
