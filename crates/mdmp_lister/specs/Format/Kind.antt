-- Which streams have records: the type, the form and the records of each kind.
use Rattle.std.specs.Prelude.{◌≡◌, ◌+◌, ℕ, List, Option, Some, None, Bool, true, false, is_some, ◌==◌, if◌then◌else◌}
use Rattle.mdmp_wire.specs.Descriptor.{descriptor_size}
use Rattle.mdmp_wire.specs.Descriptor64.{descriptor64_size}
use Rattle.mdmp_wire.specs.Exception.{exception_size}
use Rattle.mdmp_wire.specs.MemoryInfo.{memory_info_size}
use Rattle.mdmp_wire.specs.Module.{module_size}
use Rattle.mdmp_wire.specs.Number.{number_at}
use Rattle.mdmp_wire.specs.System.{system_size}
use Rattle.mdmp_wire.specs.Thread.{thread_size}
use Rattle.mdmp_wire.specs.ThreadName.{thread_name_size}
use Rattle.mdmp_wire.specs.Unloaded.{unloaded_size}
use Rattle.mdmp_lister.specs.declared.form.Form.{Form}
use Rattle.mdmp_lister.specs.declared.form.Form.TheVariants as forms
use Rattle.mdmp_lister.specs.declared.name_field.NameField.{NameField}
use Rattle.mdmp_lister.specs.declared.name_field.NameField.TheVariants.{Rva, Rva64}
use Rattle.mdmp_lister.specs.declared.kind.KindRow.{KindRow}
use Rattle.mdmp_lister.specs.declared.kind.StreamKind.{StreamKind}
use Rattle.mdmp_lister.specs.declared.kind.StreamKind.TheVariants as kinds

-- ---- kinds of streams: a row for each

-- the type of its streams, what stands before its records, how many bytes a record has, the field that says where its name
-- stands, and whether its records are ranges of memory
abbrev pub kind_row : StreamKind → KindRow
kind_row kinds.Threads = record { stream_type = 3; form = forms.Counted; record_size = thread_size; name = None; lists_ranges = false }
kind_row kinds.Modules = record { stream_type = 4; form = forms.Counted; record_size = module_size; name = Some (Rva 20); lists_ranges = false }
kind_row kinds.Memory = record { stream_type = 5; form = forms.Counted; record_size = descriptor_size; name = None; lists_ranges = true }
kind_row kinds.Exception = record { stream_type = 6; form = forms.Single; record_size = exception_size; name = None; lists_ranges = false }
kind_row kinds.System = record { stream_type = 7; form = forms.Single; record_size = system_size; name = Some (Rva 24); lists_ranges = false }
kind_row kinds.Memory64 = record { stream_type = 9; form = forms.Ranges64; record_size = descriptor64_size; name = None; lists_ranges = true }
kind_row kinds.Unloaded = record { stream_type = 14; form = forms.Sized32; record_size = unloaded_size; name = Some (Rva 20); lists_ranges = false }
kind_row kinds.MemoryInfo = record { stream_type = 16; form = forms.Sized64; record_size = memory_info_size; name = None; lists_ranges = false }
kind_row kinds.ThreadNames = record { stream_type = 24; form = forms.Counted; record_size = thread_name_size; name = Some (Rva64 4); lists_ranges = false }

-- the type of its streams
abbrev pub type_of_kind : StreamKind → ℕ
type_of_kind kind = (kind_row kind).stream_type

-- the kind of a stream type whose records are known
abbrev pub kind_of : ℕ → Option StreamKind
kind_of t =
    if t == type_of_kind kinds.Threads then Some kinds.Threads
    else if t == type_of_kind kinds.Modules then Some kinds.Modules
    else if t == type_of_kind kinds.Memory then Some kinds.Memory
    else if t == type_of_kind kinds.Exception then Some kinds.Exception
    else if t == type_of_kind kinds.System then Some kinds.System
    else if t == type_of_kind kinds.Memory64 then Some kinds.Memory64
    else if t == type_of_kind kinds.Unloaded then Some kinds.Unloaded
    else if t == type_of_kind kinds.MemoryInfo then Some kinds.MemoryInfo
    else if t == type_of_kind kinds.ThreadNames then Some kinds.ThreadNames
    else None

abbrev pub is_known : ℕ → Bool
is_known t = is_some (kind_of t)

-- what stands before its records
abbrev pub form_of : StreamKind → Form
form_of kind = (kind_row kind).form

-- how many bytes a record has
abbrev pub record_size : StreamKind → ℕ
record_size kind = (kind_row kind).record_size

-- the most bytes that a record of any kind has: those of an exception
abbrev pub greatest_record : ℕ
greatest_record = record_size kinds.Exception

-- it is the one whose records do not say where the bytes of their ranges stand: they follow one another
abbrev pub is_memory64 : StreamKind → Bool
is_memory64 kinds.Memory64 = true
is_memory64 kind = false

-- its records are ranges of memory
abbrev pub lists_ranges : StreamKind → Bool
lists_ranges kind = (kind_row kind).lists_ranges

-- the field of its records that says where their names stand
abbrev pub name_field : StreamKind → Option NameField
name_field kind = (kind_row kind).name

-- its records have names
abbrev pub has_names : StreamKind → Bool
has_names kind = is_some (name_field kind)

-- where a field ends in the record
abbrev pub field_end : NameField → ℕ
field_end (Rva at) = at + 4
field_end (Rva64 at) = at + 8

-- the RVA in a field of the record of these bytes
abbrev pub field_rva : List ℕ → NameField → ℕ
field_rva F (Rva at) = number_at F at 4
field_rva F (Rva64 at) = number_at F at 8

-- of a stream of this kind no record has a name; of none no records are listed
abbrev pub HasNoNames : Option StreamKind → Type 0
HasNoNames (Some kind) = has_names kind ≡ false
HasNoNames None = Unit {0}
