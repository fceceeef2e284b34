-- What is said of faults: a line, and an exit status.
use Rattle.std.specs.Prelude.{ℕ, List, [], ◌∷◌, codes}
use Rattle.std.specs.List.{concat}
use Rattle.std.specs.Fmt.{decimal}
use Rattle.mdmp_dump.specs.declared.fault.ReadFault.{ReadFault}
use Rattle.mdmp_dump.specs.declared.fault.ReadFault.TheVariants as reading
use Rattle.mdmp_print.specs.FaultWords.{budget_text, list_fault_text, memory_limit_text, memory_text, opening_text, source_text}
use Rattle.mdmp_print.specs.PartLines.{part_text}
use Rattle.mdmp_engines.specs.declared.fault.ToolFault.{ToolFault}
use Rattle.mdmp_engines.specs.declared.fault.ToolFault.TheVariants as tool
use Rattle.mdmp_engines.specs.Telling.{fault_as_told}
use Rattle.mdmp_writer.specs.declared.fault.LayoutFault.{LayoutFault}
use Rattle.mdmp_writer.specs.declared.fault.LayoutFault.TheVariants as layout

-- the exit status of a fault that is told as what it is
abbrev pub own_status : ToolFault → ℕ
own_status (tool.Opening fault) = 1
own_status (tool.List fault) = 1
own_status (tool.Reading fault) = 1
own_status (tool.Layout fault) = 1
own_status (tool.Source fault) = 3
own_status (tool.Budget offset size) = 3
own_status (tool.Out) = 3
own_status (tool.Memory) = 3
own_status (tool.MemoryLimit held) = 3
own_status (tool.AsideLimit offset size) = 3
own_status (tool.CopyBudget needed) = 3
own_status (tool.NotCopied t) = 2

-- the exit status: 1 if the file is at fault, 2 if a type is not copied, 3 if its store, the output, memory or a limit is
abbrev pub exit_status : ToolFault → ℕ
exit_status fault = own_status (fault_as_told fault)

-- ---- what a fault says

abbrev pub output_text : List ℕ
output_text = codes "output failed"

abbrev pub aside_limit_text : ℕ → ℕ → List ℕ
aside_limit_text offset size = concat (codes "aside limit reached: offset " ∷ decimal offset ∷ codes " size " ∷ decimal size ∷ [])

abbrev pub copy_budget_text : ℕ → List ℕ
copy_budget_text needed = concat (codes "copy needs " ∷ decimal needed ∷ codes " bytes" ∷ [])

-- `stream <n> holds raw bytes of a known type`, or that the copy is too large
abbrev pub layout_text : LayoutFault → List ℕ
layout_text (layout.RawKnownType stream) = concat (codes "stream " ∷ decimal stream ∷ codes " holds raw bytes of a known type" ∷ [])
layout_text (layout.TooLarge) = codes "the copy is too large"

-- `entry <e> item <k>: name too long: <n>`
abbrev pub long_name_text : ℕ → ℕ → ℕ → List ℕ
long_name_text e k length = concat (codes "entry " ∷ decimal e ∷ codes " item " ∷ decimal k ∷ codes ": name too long: " ∷ decimal length ∷ [])

abbrev pub reading_text : ReadFault → List ℕ
reading_text (reading.Opening fault) = opening_text fault
reading_text (reading.List fault) = list_fault_text fault
reading_text (reading.PartOutside e k part offset size) = part_text (record { entry = e; index = k; part = part; offset = offset; size = size })
reading_text (reading.NameTooLong e k length) = long_name_text e k length
reading_text (reading.PartsTooLarge e k) = layout_text layout.TooLarge
reading_text reading.Memory = memory_text
reading_text (reading.Source fault) = source_text fault

abbrev pub not_copied_text : ℕ → List ℕ
not_copied_text t = concat (codes "type " ∷ decimal t ∷ codes " is not copied" ∷ [])

-- what a fault says that is told as what it is
abbrev pub own_text : ToolFault → List ℕ
own_text (tool.Opening fault) = opening_text fault
own_text (tool.List fault) = list_fault_text fault
own_text (tool.Reading fault) = reading_text fault
own_text (tool.Layout fault) = layout_text fault
own_text (tool.Source fault) = source_text fault
own_text (tool.Out) = output_text
own_text (tool.Budget offset size) = budget_text offset size
own_text (tool.Memory) = memory_text
own_text (tool.MemoryLimit held) = memory_limit_text held
own_text (tool.AsideLimit offset size) = aside_limit_text offset size
own_text (tool.CopyBudget needed) = copy_budget_text needed
own_text (tool.NotCopied t) = not_copied_text t

abbrev pub fault_text : ToolFault → List ℕ
fault_text fault = own_text (fault_as_told fault)
