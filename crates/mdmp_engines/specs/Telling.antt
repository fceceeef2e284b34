-- Faults, as a command tells them.
use Rattle.std.specs.Prelude.{ℕ}
use Rattle.mdmp_source.specs.Count.{raised}
use Rattle.mdmp_dump.specs.declared.fault.ReadFault.{ReadFault}
use Rattle.mdmp_dump.specs.declared.fault.ReadFault.TheVariants as reading
use Rattle.mdmp_lister.specs.declared.fault.FaultKind.{FaultKind}
use Rattle.mdmp_lister.specs.declared.fault.FaultKind.TheVariants as kinds
use Rattle.mdmp_lister.specs.declared.fault.ListFault.{ListFault}
use Rattle.mdmp_lister.specs.declared.fault.OpenFault.{OpenFault}
use Rattle.mdmp_lister.specs.declared.fault.OpenFault.TheVariants as opening
use Rattle.mdmp_engines.specs.declared.fault.ToolFault.{ToolFault}
use Rattle.mdmp_engines.specs.declared.fault.ToolFault.TheVariants as tool
use Rattle.mdmp_writer.specs.declared.fault.LayoutFault.TheVariants.{TooLarge}

-- a fault of the store and a limit that was reached are told as such, and so is that memory ran out; every other one as the file's
abbrev pub opening_told : OpenFault → ToolFault
opening_told (opening.Source fault) = tool.Source fault
opening_told (opening.Budget offset size) = tool.Budget offset size
opening_told (opening.Memory) = tool.Memory
opening_told (opening.MemoryLimit held) = tool.MemoryLimit held
opening_told fault = tool.Opening fault

-- the same of a command that holds so many bytes beside its lister
abbrev pub opening_beside : ℕ → OpenFault → ToolFault
opening_beside beside (opening.MemoryLimit held) = tool.MemoryLimit (raised held beside)
opening_beside beside fault = opening_told fault

abbrev pub told_by : FaultKind → ListFault → ToolFault
told_by (kinds.Source fault) f = tool.Source fault
told_by kinds.Budget f = tool.Budget f.offset f.size
told_by kind f = tool.List f

abbrev pub listing_told : ListFault → ToolFault
listing_told f = told_by f.kind f

-- more bytes of parts than a dump may have are too many for the copy; a part outside the file and a name that is too long are
-- told as what they are
abbrev pub reading_told : ReadFault → ToolFault
reading_told (reading.Opening fault) = opening_told fault
reading_told (reading.List fault) = listing_told fault
reading_told (reading.PartsTooLarge e k) = tool.Layout TooLarge
reading_told reading.Memory = tool.Memory
reading_told (reading.Source fault) = tool.Source fault
reading_told fault = tool.Reading fault

-- a fault of the store, the budget's or want of memory is told as such, also where a fault of the file has it inside
abbrev pub fault_as_told : ToolFault → ToolFault
fault_as_told (tool.Opening fault) = opening_told fault
fault_as_told (tool.List fault) = listing_told fault
fault_as_told (tool.Reading fault) = reading_told fault
fault_as_told fault = fault
