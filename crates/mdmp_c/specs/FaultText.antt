-- The words of a fault, from its plain numbers.
use Rattle.std.specs.Prelude.{◌≡◌, ◌<◌, ◌+◌, ◌*◌, ◌%◌, ◌^◌, ◌==◌, ℕ, List, [], Option, Some, None, codes, if◌then◌else◌}
use Rattle.mdmp_wire.specs.declared.slot.PartName.{PartName}
use Rattle.mdmp_wire.specs.declared.slot.PartName.TheVariants as parts
use Rattle.mdmp_dump.specs.declared.fault.ReadFault.{ReadFault}
use Rattle.mdmp_dump.specs.declared.fault.ReadFault.TheVariants as reading
use Rattle.mdmp_lister.specs.declared.fault.FaultKind.{FaultKind}
use Rattle.mdmp_lister.specs.declared.fault.FaultKind.TheVariants as kinds
use Rattle.mdmp_lister.specs.declared.fault.OpenFault.{OpenFault}
use Rattle.mdmp_lister.specs.declared.fault.OpenFault.TheVariants as opening
use Rattle.mdmp_engines.specs.declared.fault.ToolFault.{ToolFault}
use Rattle.mdmp_engines.specs.declared.fault.ToolFault.TheVariants as tool
use Rattle.mdmp_writer.specs.declared.fault.LayoutFault.TheVariants as layout
use Rattle.mdmp_engines.specs.CheckText.{bad_text}
use Rattle.mdmp_engines.specs.Faults.{fault_text}
use Rattle.mdmp_c.specs.declared.fault.PlainFault.{PlainFault}
use Rattle.mdmp_c.specs.Fault.{no_fault, no_memory}
use Rattle.mdmp_c.specs.Giving.{Fails, GivesList}

-- ---- the fault that some numbers are

-- a number of two halves
abbrev pub whole : ℕ → ℕ → ℕ
whole high low = high * 2 ^ 64 + low

-- of the opening
abbrev pub opening_in : PlainFault → Option OpenFault
opening_in p =
    if p.kind == 1 then Some (opening.TooShort p.size)
    else if p.kind == 2 then Some opening.BadSignature
    else if p.kind == 3 then Some (opening.BadVersion (p.size % 2 ^ 16))
    else if p.kind == 4 then Some (opening.DirectoryOutside p.offset p.size)
    else if p.kind == 5 then Some (opening.TooManyRanges (whole p.high p.size))
    else None

-- of an entry
abbrev pub kind_by_number : ℕ → Option FaultKind
kind_by_number kind =
    if kind == 16 then Some kinds.StreamOutside
    else if kind == 17 then Some kinds.ShortStream
    else if kind == 18 then Some kinds.BadHeaderSize
    else if kind == 19 then Some kinds.BadEntrySize
    else if kind == 20 then Some kinds.BadCount
    else if kind == 21 then Some kinds.NameLengthOutside
    else if kind == 22 then Some kinds.NameOdd
    else if kind == 23 then Some kinds.NameUnitsOutside
    else None

abbrev pub part_by_number : ℕ → Option PartName
part_by_number part =
    if part == 1 then Some parts.Stack
    else if part == 2 then Some parts.Context
    else if part == 3 then Some parts.CodeView
    else if part == 4 then Some parts.Misc
    else if part == 5 then Some parts.Memory
    else None

-- of a part or a name
abbrev pub part_fault : PlainFault → Option PartName → Option ReadFault
part_fault p (Some part) = Some (reading.PartOutside p.entry p.index part (whole p.high p.offset) p.size)
part_fault p None = None

abbrev pub reading_in : PlainFault → Option ReadFault
reading_in p =
    if p.kind == 32 then part_fault p (part_by_number p.part)
    else if p.kind == 33 then Some (reading.NameTooLong p.entry p.index (p.size % 2 ^ 32))
    else None

-- of the copy, memory, or the budget
abbrev pub rest_in : PlainFault → Option ToolFault
rest_in p =
    if p.kind == 48 then Some (tool.Layout (layout.RawKnownType p.size))
    else if p.kind == 49 then Some (tool.Layout layout.TooLarge)
    else if p.kind == 65 then Some (tool.NotCopied (p.size % 2 ^ 32))
    else if p.kind == 66 then Some tool.Memory
    else if p.kind == 71 then Some (tool.Budget p.offset p.size)
    else if p.kind == 72 then Some (tool.MemoryLimit (whole p.high p.size))
    else if p.kind == 73 then Some (tool.AsideLimit p.offset p.size)
    else if p.kind == 74 then Some (tool.CopyBudget (whole p.high p.size))
    else None

abbrev pub or_reading : PlainFault → Option ReadFault → Option ToolFault
or_reading p (Some fault) = Some (tool.Reading fault)
or_reading p None = rest_in p

abbrev pub or_list : PlainFault → Option FaultKind → Option ToolFault
or_list p (Some kind) = Some (tool.List (record {
  entry = p.entry;
  index = if p.has_index == 1 then Some p.index else None;
  kind = kind;
  offset = p.offset;
  size = p.size;
}))
or_list p None = or_reading p (reading_in p)

abbrev pub or_opening : PlainFault → Option OpenFault → Option ToolFault
or_opening p (Some fault) = Some (tool.Opening fault)
or_opening p None = or_list p (kind_by_number p.kind)

abbrev pub fault_in : PlainFault → Option ToolFault
fault_in p = or_opening p (opening_in p)

-- ---- its words

-- of what no command tells, or in other words
abbrev pub fixed_words : ℕ → Option (List ℕ)
fixed_words kind =
    if kind == 0 then Some []
    else if kind == 67 then Some (codes "bad limits")
    else if kind == 68 then Some (codes "between 1 and 16 types of streams are copied at a time")
    else if kind == 69 then Some (codes "store failed")
    else if kind == 70 then Some (codes "lengths differ")
    else None

abbrev pub own_words : PlainFault → Option (List ℕ)
own_words p = if p.kind == 64 then Some (bad_text p.size) else fixed_words p.kind

abbrev pub words_unless : Option ToolFault → Option (List ℕ) → Option (List ℕ)
words_unless (Some fault) words = Some (fault_text fault)
words_unless None words = words

abbrev pub words_of : PlainFault → Option (List ℕ)
words_of p = words_unless (fault_in p) (own_words p)

-- its numbers fit those of a plain fault, and it is not told as another
abbrev pub FitsOpening : OpenFault → Type 0
FitsOpening (opening.BadVersion low) = low < 2 ^ 16
FitsOpening (opening.Source fault) = ⊥
FitsOpening fault = Unit {0}

abbrev pub FitsKind : FaultKind → Type 0
FitsKind (kinds.Source fault) = ⊥
FitsKind kind = Unit {0}

abbrev pub FitsReading : ReadFault → Type 0
FitsReading (reading.Opening fault) = FitsOpening fault
FitsReading (reading.List fault) = FitsKind fault.kind
FitsReading (reading.NameTooLong e k length) = length < 2 ^ 32
FitsReading (reading.Source fault) = ⊥
FitsReading fault = Unit {0}

abbrev pub FitsTool : ToolFault → Type 0
FitsTool (tool.Opening fault) = FitsOpening fault
FitsTool (tool.List fault) = FitsKind fault.kind
FitsTool (tool.Reading fault) = FitsReading fault
FitsTool (tool.NotCopied t) = t < 2 ^ 32
FitsTool (tool.Source fault) = ⊥
FitsTool tool.Out = ⊥
FitsTool fault = Unit {0}

-- the words of a fault were given, or memory was wanting; or no call tells such a fault
pub data TellsWords (p : PlainFault) (status count : ℕ) (before after : List ℕ) : Type 0 where
  told : (words : List ℕ) → words_of p ≡ Some words → GivesList no_fault words status count no_fault before after → TellsWords p status count before after
  wants : Fails no_memory status count no_memory before after → TellsWords p status count before after
  unknown : words_of p ≡ None → status ≡ 2 → count ≡ 0 → after ≡ before → TellsWords p status count before after
