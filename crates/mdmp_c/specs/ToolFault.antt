-- The faults of commands as plain numbers.
use Rattle.std.specs.Prelude.{ℕ, ◌/◌, ◌%◌, ◌^◌, ◌==◌, Result, Ok, Err, replicate, if◌then◌else◌}
use Rattle.mdmp_c.specs.declared.fault.PlainFault.{PlainFault}
use Rattle.mdmp_c.specs.Fault.{aside_fault, budget_fault, plain_list_fault, no_fault, no_memory, of_kind, open_fault, wide_fault}
use Rattle.mdmp_wire.specs.declared.slot.PartName.{PartName}
use Rattle.mdmp_wire.specs.declared.slot.PartName.TheVariants as parts
use Rattle.mdmp_dump.specs.declared.fault.ReadFault.{ReadFault}
use Rattle.mdmp_dump.specs.declared.fault.ReadFault.TheVariants as reading
use Rattle.mdmp_engines.specs.declared.fault.ToolFault.{ToolFault}
use Rattle.mdmp_engines.specs.declared.fault.ToolFault.TheVariants as tool
use Rattle.mdmp_writer.specs.declared.fault.LayoutFault.TheVariants as layout

abbrev pub part_number : PartName → ℕ
part_number parts.Stack = 1
part_number parts.Context = 2
part_number parts.CodeView = 3
part_number parts.Misc = 4
part_number parts.Memory = 5

-- a fault of reading a file into a dump
abbrev pub read_fault : ReadFault → PlainFault
read_fault (reading.Opening fault) = open_fault fault
read_fault (reading.List fault) = plain_list_fault fault
read_fault (reading.PartOutside e k part offset size) = record {
  kind = 32;
  entry = e;
  index = k;
  offset = offset % 2 ^ 64;
  size = size;
  high = offset / 2 ^ 64;
  part = part_number part;
  has_index = 1;
  reserved = replicate 4 0;
}
read_fault (reading.NameTooLong e k length) = record {
  kind = 33;
  entry = e;
  index = k;
  offset = 0;
  size = length;
  high = 0;
  part = 0;
  has_index = 1;
  reserved = replicate 4 0;
}
read_fault (reading.PartsTooLarge e k) = of_kind 49
read_fault reading.Memory = no_memory
read_fault (reading.Source fault) = of_kind 69

-- a fault that ends a command: the output is memory, so one that refuses is want of memory
abbrev pub tool_fault : ToolFault → PlainFault
tool_fault (tool.Opening fault) = open_fault fault
tool_fault (tool.List fault) = plain_list_fault fault
tool_fault (tool.Reading fault) = read_fault fault
tool_fault (tool.Layout (layout.RawKnownType stream)) = record (of_kind 48) { size = stream }
tool_fault (tool.Layout layout.TooLarge) = of_kind 49
tool_fault (tool.NotCopied t) = record (of_kind 65) { size = t }
tool_fault tool.Out = no_memory
tool_fault tool.Memory = no_memory
tool_fault (tool.Source fault) = of_kind 69
tool_fault (tool.Budget offset size) = budget_fault offset size
tool_fault (tool.MemoryLimit held) = wide_fault 72 held
tool_fault (tool.AsideLimit offset size) = aside_fault offset size
tool_fault (tool.CopyBudget needed) = wide_fault 74 needed

-- how many entries have a fault, which is none where all are good
abbrev pub bad_entries : ℕ → PlainFault
bad_entries bad = if bad == 0 then no_fault else record (of_kind 64) { size = bad }

-- what is told where a check ends so, a list, and a copy
abbrev pub check_answer : Result ℕ ToolFault → PlainFault
check_answer (Ok bad) = bad_entries bad
check_answer (Err fault) = tool_fault fault

abbrev pub list_answer : Result (Unit {0}) ToolFault → PlainFault
list_answer (Ok x) = no_fault
list_answer (Err fault) = tool_fault fault

abbrev pub copy_answer : Result ℕ ToolFault → PlainFault
copy_answer (Ok size) = no_fault
copy_answer (Err fault) = tool_fault fault
