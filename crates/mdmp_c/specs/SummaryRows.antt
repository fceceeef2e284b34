-- A summary as a plain structure.
use Rattle.std.specs.Prelude.{ℕ, ◌/◌, ◌%◌, ◌^◌, Bool, List, Option, Some, None, is_some, replicate, if◌then◌else◌}
use Rattle.mdmp_wire.specs.declared.thread_name.ThreadNameRecord.{ThreadNameRecord}
use Rattle.mdmp_summary.specs.declared.context.Registers.{Registers}
use Rattle.mdmp_summary.specs.declared.gathering.ItemCounts.{ItemCounts}
use Rattle.mdmp_summary.specs.declared.part.PartOutside.{PartOutside}
use Rattle.mdmp_summary.specs.declared.reach.AccessKind.{AccessKind}
use Rattle.mdmp_summary.specs.declared.reach.AccessKind.TheVariants as accesses
use Rattle.mdmp_summary.specs.declared.reach.Reached.{Reached}
use Rattle.mdmp_summary.specs.declared.summary.Crash.{Crash}
use Rattle.mdmp_summary.specs.declared.summary.FileSummary.{FileSummary}
use Rattle.mdmp_c.specs.declared.fault.PlainFault.{PlainFault}
use Rattle.mdmp_c.specs.declared.parts.NamePlace.{NamePlace}
use Rattle.mdmp_c.specs.declared.rows.ExceptionRow.{ExceptionRow}
use Rattle.mdmp_c.specs.declared.summary_rows.CountsRow.{CountsRow}
use Rattle.mdmp_c.specs.declared.summary_rows.CrashRow.{CrashRow}
use Rattle.mdmp_c.specs.declared.summary_rows.RegistersRow.{RegistersRow}
use Rattle.mdmp_c.specs.declared.summary_rows.SummaryRow.{SummaryRow}
use Rattle.mdmp_c.specs.Directory.{header_row}
use Rattle.mdmp_c.specs.Fault.{list_told, no_fault, of_kind}
use Rattle.mdmp_c.specs.Giving.{told_count}
use Rattle.mdmp_c.specs.Rows.{exception_fields}
use Rattle.mdmp_c.specs.SummaryModules.{place_in_module_row, name_place_at, no_name, no_place, program_row, summary_system_row}
use Rattle.mdmp_c.specs.ToolFault.{part_number}

abbrev pub flag_of : Bool → ℕ
flag_of holds = if holds then 1 else 0

-- ---- counts, and parts outside the file

abbrev pub counts_row : ItemCounts → CountsRow
counts_row counts = record {
  streams = told_count counts.streams;
  threads = told_count counts.threads;
  modules = told_count counts.modules;
  exceptions = told_count counts.exceptions;
  ranges = told_count counts.ranges;
  memory = counts.memory % 2 ^ 64;
  memory_high = counts.memory / 2 ^ 64;
}

-- a part outside the file as a fault
abbrev pub outside_fault : PartOutside → PlainFault
outside_fault part = record (of_kind 32) {
  entry = part.entry;
  index = part.index;
  offset = part.offset % 2 ^ 64;
  size = part.size;
  high = part.offset / 2 ^ 64;
  part = part_number part.part;
  has_index = 1;
}

abbrev pub first_outside_fault : Option PartOutside → PlainFault
first_outside_fault (Some part) = outside_fault part
first_outside_fault None = no_fault

-- ---- the crash

abbrev pub registers_row : Option Registers → RegistersRow
registers_row (Some r) = record { instruction = r.instruction; stack = r.stack; frame = r.frame }
registers_row None = record { instruction = 0; stack = 0; frame = 0 }

abbrev pub access_number : AccessKind → ℕ
access_number accesses.Read = 1
access_number accesses.Write = 2
access_number accesses.Execute = 3
access_number accesses.Unknown = 4

-- 0 if no address was to be reached
abbrev pub access_told : Option Reached → ℕ
access_told (Some r) = access_number r.access
access_told None = 0

abbrev pub address_reached : Option Reached → ℕ
address_reached (Some r) = r.address
address_reached None = 0

abbrev pub thread_name_place : List ℕ → ℕ → Option ThreadNameRecord → NamePlace
thread_name_place F limit (Some t) = name_place_at F t.rva_of_thread_name limit
thread_name_place F limit None = no_name

abbrev pub crash_found : List ℕ → ℕ → Crash → CrashRow
crash_found F limit crash = record {
  exception = exception_fields crash.exception;
  thread_name = thread_name_place F limit crash.thread_name;
  address = crash.address;
  registers = registers_row crash.registers;
  «module» = place_in_module_row F limit crash.holder;
  near = place_in_module_row F limit crash.near;
  reached = address_reached crash.reached;
  access = access_told crash.reached;
  has_registers = flag_of (is_some crash.registers);
  has_module = flag_of (is_some crash.holder);
  has_near = flag_of (is_some crash.near);
}

abbrev pub no_exception : ExceptionRow
no_exception = record {
  index = 0;
  exception_record = 0;
  exception_address = 0;
  information = replicate 15 0;
  entry = 0;
  thread_id = 0;
  exception_code = 0;
  exception_flags = 0;
  number_parameters = 0;
  context = no_place;
  reserved = replicate 3 0;
}

-- the crash, or zeros
abbrev pub crash_row : List ℕ → ℕ → Option Crash → CrashRow
crash_row F limit (Some crash) = crash_found F limit crash
crash_row F limit None = record {
  exception = no_exception;
  thread_name = no_name;
  address = 0;
  registers = registers_row None;
  «module» = place_in_module_row F limit None;
  near = place_in_module_row F limit None;
  reached = 0;
  access = 0;
  has_registers = 0;
  has_module = 0;
  has_near = 0;
}

-- ---- all of it

-- the summary of F
abbrev pub summary_row : List ℕ → ℕ → FileSummary → SummaryRow
summary_row F limit summary = record {
  header = header_row summary.header;
  counts = counts_row summary.counts;
  bad_entries = summary.bad.count;
  first_error = list_told summary.bad.first;
  parts_outside = told_count summary.outside.count;
  first_outside = first_outside_fault summary.outside.first;
  crash = crash_row F limit summary.crash;
  program = program_row F limit summary.program;
  system = summary_system_row F limit summary.system;
  has_crash = flag_of (is_some summary.crash);
  has_program = flag_of (is_some summary.program);
  has_system = flag_of (is_some summary.system);
  reserved = 0;
}
