-- What a dump tells of a crash and of itself, by the items of all its entries.
use Rattle.std.specs.Prelude.{ℕ, ◌-◌, List, length, flat_map, filter, min, sum, Option, Some, None}
use Rattle.std.specs.Option.{option_map}
use Rattle.mdmp_source.specs.Extent.{extent_of}
use Rattle.mdmp_source.specs.Range.{bytes_at}
use Rattle.mdmp_source.specs.declared.location.Extent.{Extent}
use Rattle.mdmp_source.specs.declared.location.Extent.TheVariants.{Empty, Absent, Inside, Outside}
use Rattle.mdmp_source.specs.declared.location.Location.{Location}
use Rattle.mdmp_wire.specs.Header.{header_at}
use Rattle.mdmp_wire.specs.declared.module.ModuleRecord.{ModuleRecord}
use Rattle.mdmp_wire.specs.declared.system.SystemRecord.{SystemRecord}
use Rattle.mdmp_wire.specs.declared.thread_name.ThreadNameRecord.{ThreadNameRecord}
use Rattle.mdmp_lister.specs.declared.item.ExceptionItem.{ExceptionItem}
use Rattle.mdmp_lister.specs.declared.item.Item.{Item}
use Rattle.mdmp_summary.specs.BadEntries.{all_items, entry_faults, told_bad}
use Rattle.mdmp_summary.specs.Context.{registers_at}
use Rattle.mdmp_summary.specs.Crash.{crash_on, platform_of}
use Rattle.mdmp_summary.specs.Gathering.{exceptions_given, memory_given, modules_given, ranges_given, streams_given, systems_given, thread_names_given, threads_given}
use Rattle.mdmp_summary.specs.Keeping.{capped, first}
use Rattle.mdmp_summary.specs.Part.{parts_outside}
use Rattle.mdmp_summary.specs.Reach.{reached_on}
use Rattle.mdmp_summary.specs.Search.{holds_address, is_name_of, nearest_below}
use Rattle.mdmp_summary.specs.declared.context.Registers.{Registers}
use Rattle.mdmp_summary.specs.declared.crash.Platform.{Platform}
use Rattle.mdmp_summary.specs.declared.crash.Platform.TheVariants.{Apple, Linux, Other, Windows}
use Rattle.mdmp_summary.specs.declared.gathering.ItemCounts.{ItemCounts}
use Rattle.mdmp_summary.specs.declared.part.PartOutside.{PartOutside}
use Rattle.mdmp_summary.specs.declared.part.PartsOutside.{PartsOutside}
use Rattle.mdmp_summary.specs.declared.summary.Crash.{Crash}
use Rattle.mdmp_summary.specs.declared.summary.PlaceInModule.{PlaceInModule}
use Rattle.mdmp_summary.specs.declared.summary.FileSummary.{FileSummary}

-- ---- the items, kind by kind

abbrev pub systems : List Item → List SystemRecord
systems items = flat_map systems_given items

abbrev pub modules : List Item → List ModuleRecord
modules items = flat_map modules_given items

abbrev pub exceptions : List Item → List ExceptionItem
exceptions items = flat_map exceptions_given items

abbrev pub thread_names : List Item → List ThreadNameRecord
thread_names items = flat_map thread_names_given items

abbrev pub outside : List Item → List PartOutside
outside items = flat_map parts_outside items

-- how many of each kind, and how many bytes of memory lie inside the file
abbrev pub item_counts : List Item → ItemCounts
item_counts items = record {
  streams = capped (length (flat_map streams_given items));
  threads = capped (length (flat_map threads_given items));
  modules = capped (length (modules items));
  exceptions = capped (length (exceptions items));
  ranges = capped (length (flat_map ranges_given items));
  memory = capped (sum (flat_map memory_given items));
}

-- how many parts lie outside the file, and the first of them
abbrev pub told_outside : List PartOutside → PartsOutside
told_outside parts = record { count = capped (length parts); first = first parts }

-- ---- where the thread was

-- so many bytes of a context are read at most; the three registers of each known layout are among them
abbrev pub context_room : ℕ
context_room = 272

-- the registers in a context at a location of this extent, of a system with this ProcessorArchitecture
abbrev pub registers_inside : List ℕ → ℕ → Location → Extent → Option Registers
registers_inside F architecture at Inside = registers_at architecture (bytes_at F at.rva (min at.size context_room))
registers_inside F architecture at Empty = None
registers_inside F architecture at Absent = None
registers_inside F architecture at Outside = None

-- the registers in the context at a location, if the system is known
abbrev pub registers_of : List ℕ → Option SystemRecord → Location → Option Registers
registers_of F (Some system) at = registers_inside F system.processor_architecture at (extent_of at (length F))
registers_of F None at = None

abbrev pub platform_in : Option SystemRecord → Platform
platform_in (Some system) = platform_of system.platform_id
platform_in None = Other

-- the address that ran: on Windows ExceptionAddress, on other systems the instruction pointer, or ExceptionAddress if there
-- are no registers
abbrev pub address_ran : Platform → ℕ → Option Registers → ℕ
address_ran Windows address registers = address
address_ran Linux address (Some r) = r.instruction
address_ran Apple address (Some r) = r.instruction
address_ran Other address (Some r) = r.instruction
address_ran Linux address None = address
address_ran Apple address None = address
address_ran Other address None = address

-- ---- the crash

-- a module, and how far an address is above its base
abbrev pub place_in_module : ℕ → ModuleRecord → PlaceInModule
place_in_module address m = record { fields = m; offset = address - m.base_of_image }

-- the nearest module, if no module holds the address
abbrev pub near_of : Option ModuleRecord → Option ModuleRecord → Option ModuleRecord
near_of (Some holder) nearest = None
near_of None nearest = nearest

-- what is told of the exception that is the crash, of a dump of this system
abbrev pub crash_told : List ℕ → List Item → Option SystemRecord → ExceptionItem → Crash
crash_told F items system x =
    let registers = registers_of F system x.fields.thread_context in
    let address = address_ran (platform_in system) x.fields.exception_address registers in
    let holder = first (filter (holds_address address) (modules items)) in
    record {
      exception = x;
      registers = registers;
      address = address;
      reached = reached_on (platform_in system) x.fields;
      holder = option_map (place_in_module address) holder;
      near = option_map (place_in_module address) (near_of holder (nearest_below address (modules items)));
      thread_name = first (filter (is_name_of x.fields.thread_id) (thread_names items));
    }

-- ---- a whole file

-- the summary of a file that can be listed, where a name of more than `limit` bytes is told by its length
abbrev pub file_summary : List ℕ → ℕ → FileSummary
file_summary F limit =
    let items = all_items F limit in
    let system = first (systems items) in
    record {
      header = header_at F 0;
      system = system;
      program = first (modules items);
      crash = option_map (crash_told F items system) (crash_on (platform_in system) (exceptions items));
      counts = item_counts items;
      outside = told_outside (outside items);
      bad = told_bad (entry_faults F limit);
    }
