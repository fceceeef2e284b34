-- Faults as plain numbers.
use Rattle.std.specs.Prelude.{ℕ, ◌/◌, ◌%◌, ◌^◌, ◌==◌, ◌||◌, Option, Some, None, unwrap_or, is_some, replicate, if◌then◌else◌}
use Rattle.mdmp_c.specs.declared.fault.PlainFault.{PlainFault}
use Rattle.mdmp_lister.specs.declared.fault.FaultKind.{FaultKind}
use Rattle.mdmp_lister.specs.declared.fault.FaultKind.TheVariants as kinds
use Rattle.mdmp_lister.specs.declared.fault.ListFault.{ListFault}
use Rattle.mdmp_lister.specs.declared.fault.OpenFault.{OpenFault}
use Rattle.mdmp_lister.specs.declared.fault.OpenFault.TheVariants as opening

-- nothing is wrong
abbrev pub no_fault : PlainFault
no_fault = record { kind = 0; entry = 0; index = 0; offset = 0; size = 0; high = 0; part = 0; has_index = 0; reserved = replicate 4 0 }

-- a fault that is told by its kind alone
abbrev pub of_kind : ℕ → PlainFault
of_kind kind = record no_fault { kind = kind }

abbrev pub no_memory : PlainFault
no_memory = of_kind 66

-- a fetch of these bytes was not made, with which more than the budget would have been fetched
abbrev pub budget_fault : ℕ → ℕ → PlainFault
budget_fault offset size = record (of_kind 71) { offset = offset; size = size }

-- a CodeView record was not read, with which more bytes than the limit would have been read aside
abbrev pub aside_fault : ℕ → ℕ → PlainFault
aside_fault offset size = record (of_kind 73) { offset = offset; size = size }

-- a fault of this kind that tells a number of 128 bits
abbrev pub wide_fault : ℕ → ℕ → PlainFault
wide_fault kind number = record (of_kind kind) { size = number % 2 ^ 64; high = number / 2 ^ 64 }

-- a fault of the opening
abbrev pub open_fault : OpenFault → PlainFault
open_fault (opening.TooShort size) = record (of_kind 1) { size = size }
open_fault opening.BadSignature = of_kind 2
open_fault (opening.BadVersion low) = record (of_kind 3) { size = low }
open_fault (opening.DirectoryOutside offset size) = record (of_kind 4) { offset = offset; size = size }
open_fault (opening.TooManyRanges count) = wide_fault 5 count
open_fault opening.Memory = no_memory
open_fault (opening.Source fault) = of_kind 69
open_fault (opening.Budget offset size) = budget_fault offset size
open_fault (opening.MemoryLimit held) = wide_fault 72 held

-- what is wrong with an entry
abbrev pub kind_number : FaultKind → ℕ
kind_number kinds.StreamOutside = 16
kind_number kinds.ShortStream = 17
kind_number kinds.BadHeaderSize = 18
kind_number kinds.BadEntrySize = 19
kind_number kinds.BadCount = 20
kind_number kinds.NameLengthOutside = 21
kind_number kinds.NameOdd = 22
kind_number kinds.NameUnitsOutside = 23
kind_number (kinds.Source fault) = 69
kind_number kinds.Budget = 71

-- a fault of the listing: of the budget no entry is told, nor an item
abbrev pub plain_by_kind : FaultKind → ListFault → PlainFault
plain_by_kind kinds.Budget f = budget_fault f.offset f.size
plain_by_kind kind f = record {
  kind = kind_number kind;
  entry = f.entry;
  index = unwrap_or f.index 0;
  offset = f.offset;
  size = f.size;
  high = 0;
  part = 0;
  has_index = if is_some f.index then 1 else 0;
  reserved = replicate 4 0;
}

abbrev pub plain_list_fault : ListFault → PlainFault
plain_list_fault f = plain_by_kind f.kind f

-- 0 of no fault, 1 if the file is at fault, 2 if an argument is, 3 if memory ran out, 5 if a limit was reached
abbrev pub status_of : PlainFault → ℕ
status_of fault =
    if fault.kind == 0 then 0
    else if fault.kind == 65 || fault.kind == 67 || fault.kind == 68 || fault.kind == 70 then 2
    else if fault.kind == 66 || fault.kind == 69 then 3
    else if fault.kind == 71 || fault.kind == 72 || fault.kind == 73 || fault.kind == 74 then 5
    else 1

-- what is told of a file that is refused, or else of one that can be opened
abbrev pub told_unless : Option OpenFault → PlainFault → PlainFault
told_unless (Some fault) told = open_fault fault
told_unless None told = told

-- what is told of a listing that ends with a fault, or with none
abbrev pub list_told : Option ListFault → PlainFault
list_told (Some fault) = plain_list_fault fault
list_told None = no_fault
