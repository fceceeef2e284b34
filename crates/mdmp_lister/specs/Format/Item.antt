-- The items that the records of a stream give.
use Rattle.std.specs.Prelude.{ℕ, zero, suc, ◌+◌, List, length, Option, Some, None, Result, Ok, Err, ◌==◌, if◌then◌else◌}
use Rattle.mdmp_source.specs.Extent.{extent_of}
use Rattle.mdmp_wire.specs.AnyRecord.{name_rva}
use Rattle.mdmp_wire.specs.declared.any_record.AnyRecord.{AnyRecord}
use Rattle.mdmp_wire.specs.declared.any_record.AnyRecord.TheVariants as any
use Rattle.mdmp_wire.specs.Number.{number_at}
use Rattle.mdmp_wire.specs.Thread.{thread_at}
use Rattle.mdmp_wire.specs.declared.thread.ThreadRecord.{ThreadRecord}
use Rattle.mdmp_wire.specs.ThreadName.{thread_name_at}
use Rattle.mdmp_wire.specs.declared.thread_name.ThreadNameRecord.{ThreadNameRecord}
use Rattle.mdmp_wire.specs.Module.{module_at}
use Rattle.mdmp_wire.specs.declared.module.ModuleRecord.{ModuleRecord}
use Rattle.mdmp_wire.specs.Unloaded.{unloaded_at}
use Rattle.mdmp_wire.specs.declared.unloaded.UnloadedRecord.{UnloadedRecord}
use Rattle.mdmp_wire.specs.Exception.{exception_at}
use Rattle.mdmp_wire.specs.declared.exception.ExceptionRecord.{ExceptionRecord}
use Rattle.mdmp_wire.specs.System.{system_at}
use Rattle.mdmp_wire.specs.declared.system.SystemRecord.{SystemRecord}
use Rattle.mdmp_wire.specs.MemoryInfo.{memory_info_at}
use Rattle.mdmp_wire.specs.declared.memory_info.MemoryInfoRecord.{MemoryInfoRecord}
use Rattle.mdmp_wire.specs.Descriptor.{descriptor_at}
use Rattle.mdmp_wire.specs.declared.descriptor.Descriptor.{Descriptor}
use Rattle.mdmp_wire.specs.Descriptor64.{descriptor64_at}
use Rattle.mdmp_wire.specs.declared.descriptor64.Descriptor64.{Descriptor64}
use Rattle.mdmp_lister.specs.declared.kind.StreamKind.{StreamKind}
use Rattle.mdmp_lister.specs.declared.kind.StreamKind.TheVariants as kinds
use Rattle.mdmp_lister.specs.declared.fault.Fault.{Fault}
use Rattle.mdmp_lister.specs.declared.name.Name.{Name}
use Rattle.mdmp_lister.specs.declared.name.Name.TheVariants as names
use Rattle.mdmp_lister.specs.declared.item.Item.{Item}
use Rattle.mdmp_lister.specs.declared.item.ThreadItem.{ThreadItem}
use Rattle.mdmp_lister.specs.declared.item.ThreadNameItem.{ThreadNameItem}
use Rattle.mdmp_lister.specs.declared.item.ModuleItem.{ModuleItem}
use Rattle.mdmp_lister.specs.declared.item.UnloadedItem.{UnloadedItem}
use Rattle.mdmp_lister.specs.declared.item.ExceptionItem.{ExceptionItem}
use Rattle.mdmp_lister.specs.declared.item.SystemItem.{SystemItem}
use Rattle.mdmp_lister.specs.declared.item.MemoryInfoItem.{MemoryInfoItem}
use Rattle.mdmp_lister.specs.declared.item.RangeItem.{RangeItem}
use Rattle.mdmp_lister.specs.declared.item.Item.TheVariants as items
use Rattle.mdmp_lister.specs.Format.Name.{name_at, plain_name}
use Rattle.mdmp_source.specs.declared.location.Extent.{Extent}
use Rattle.mdmp_source.specs.declared.location.Extent.TheVariants.{Empty, Inside, Outside}
use Rattle.mdmp_source.specs.Range.{is_inside}

-- the extent of `len` bytes at an offset in a file of `size` bytes: the first of these that fits. It is never absent
abbrev pub range_extent_of : ℕ → ℕ → ℕ → Extent
range_extent_of offset len size =
    if len == 0 then Empty
    else if is_inside offset len size then Inside
    else Outside

-- an item, whatever place its units are lent from: only a module, an unloaded module, the system and the name of a thread have one
abbrev pub plain : Item → Item
plain (items.Module m) = items.Module (record m { name = plain_name m.name })
plain (items.Unloaded u) = items.Unloaded (record u { name = plain_name u.name })
plain (items.System s) = items.System (record s { name = plain_name s.name })
plain (items.ThreadName t) = items.ThreadName (record t { name = plain_name t.name })
plain x = x

-- an item with its name, unless that name has a fault
abbrev pub named : Result Name Fault → (Name → Item) → Result Item Fault
named (Ok name) item = Ok (item name)
named (Err fault) item = Err fault

-- the sizes of the first n ranges of a 64-bit memory list whose descriptors begin at o
unfoldable pub sizes_before : List ℕ → ℕ → ℕ → ℕ
sizes_before F o zero = 0
sizes_before F o (suc n) = (descriptor64_at F o).data_size + sizes_before F (o + 16) n

-- where the bytes of range k of a 64-bit memory list at `at` stand: behind those of the ranges before it
abbrev pub range_offset : List ℕ → ℕ → ℕ → ℕ
range_offset F at k = number_at F (at + 8) 8 + sizes_before F (at + 16) k

-- ---- item k of entry e, of a record with these fields, in a file of z bytes

abbrev pub thread_item : ℕ → ℕ → ℕ → ThreadRecord → ThreadItem
thread_item z e k fields = record {
  entry = e;
  index = k;
  fields = fields;
  stack = extent_of fields.stack.memory z;
  context = extent_of fields.thread_context z;
}

abbrev pub module_item : ℕ → ℕ → ℕ → ModuleRecord → Name → ModuleItem
module_item z e k fields name = record {
  entry = e;
  index = k;
  fields = fields;
  codeview = extent_of fields.cv_record z;
  misc = extent_of fields.misc_record z;
  name = name;
}

abbrev pub unloaded_item : ℕ → ℕ → UnloadedRecord → Name → UnloadedItem
unloaded_item e k fields name = record { entry = e; index = k; fields = fields; name = name }

abbrev pub exception_item : ℕ → ℕ → ℕ → ExceptionRecord → ExceptionItem
exception_item z e k fields = record { entry = e; index = k; fields = fields; context = extent_of fields.thread_context z }

abbrev pub system_item : ℕ → ℕ → SystemRecord → Name → SystemItem
system_item e k fields name = record { entry = e; index = k; fields = fields; name = name }

abbrev pub memory_info_item : ℕ → ℕ → MemoryInfoRecord → MemoryInfoItem
memory_info_item e k fields = record { entry = e; index = k; fields = fields }

abbrev pub thread_name_item : ℕ → ℕ → ThreadNameRecord → Name → ThreadNameItem
thread_name_item e k fields name = record { entry = e; index = k; fields = fields; name = name }

-- a range of a memory list, which says where its own bytes stand
abbrev pub range_item : ℕ → ℕ → ℕ → Descriptor → RangeItem
range_item z e k fields = record {
  entry = e;
  index = k;
  start = fields.start_of_memory_range;
  size = fields.memory.size;
  extent = extent_of fields.memory z;
  offset = fields.memory.rva;
}

-- a range of a 64-bit memory list, whose bytes stand at this offset
abbrev pub range64_item : ℕ → ℕ → ℕ → Descriptor64 → ℕ → RangeItem
range64_item z e k fields offset = record {
  entry = e;
  index = k;
  start = fields.start_of_memory_range;
  size = fields.data_size;
  extent = range_extent_of offset fields.data_size z;
  offset = offset;
}

-- ---- items of any kind

-- the record of this kind that stands at o
abbrev pub record_at : StreamKind → List ℕ → ℕ → AnyRecord
record_at kinds.Threads F o = any.Thread (thread_at F o)
record_at kinds.Modules F o = any.Module (module_at F o)
record_at kinds.Memory F o = any.Memory (descriptor_at F o)
record_at kinds.Exception F o = any.Exception (exception_at F o)
record_at kinds.System F o = any.System (system_at F o)
record_at kinds.Memory64 F o = any.Memory64 (descriptor64_at F o)
record_at kinds.Unloaded F o = any.Unloaded (unloaded_at F o)
record_at kinds.MemoryInfo F o = any.MemoryInfo (memory_info_at F o)
record_at kinds.ThreadNames F o = any.ThreadName (thread_name_at F o)

-- the kind of the streams that have such records
abbrev pub kind_told : AnyRecord → StreamKind
kind_told (any.Thread fields) = kinds.Threads
kind_told (any.Module fields) = kinds.Modules
kind_told (any.Memory fields) = kinds.Memory
kind_told (any.Exception fields) = kinds.Exception
kind_told (any.System fields) = kinds.System
kind_told (any.Memory64 fields) = kinds.Memory64
kind_told (any.Unloaded fields) = kinds.Unloaded
kind_told (any.MemoryInfo fields) = kinds.MemoryInfo
kind_told (any.ThreadName fields) = kinds.ThreadNames

-- item k of entry e, of a record of this name, in a file of z bytes: the bytes of a 64-bit range stand at an offset
abbrev pub item_of : ℕ → ℕ → ℕ → ℕ → AnyRecord → Name → Item
item_of z e k offset (any.Thread fields) name = items.Thread (thread_item z e k fields)
item_of z e k offset (any.Module fields) name = items.Module (module_item z e k fields name)
item_of z e k offset (any.Memory fields) name = items.Range (range_item z e k fields)
item_of z e k offset (any.Exception fields) name = items.Exception (exception_item z e k fields)
item_of z e k offset (any.System fields) name = items.System (system_item e k fields name)
item_of z e k offset (any.Memory64 fields) name = items.Range (range64_item z e k fields offset)
item_of z e k offset (any.Unloaded fields) name = items.Unloaded (unloaded_item e k fields name)
item_of z e k offset (any.MemoryInfo fields) name = items.MemoryInfo (memory_info_item e k fields)
item_of z e k offset (any.ThreadName fields) name = items.ThreadName (thread_name_item e k fields name)

-- the name at an RVA, of a record that has one
abbrev pub name_of : List ℕ → ℕ → Option ℕ → Result Name Fault
name_of F limit None = Ok names.None
name_of F limit (Some rva) = name_at F rva limit

-- where the bytes of record k of the stream of this kind at `at` stand, of a kind whose records do not say so
abbrev pub offset_in : List ℕ → ℕ → ℕ → StreamKind → ℕ
offset_in F at k kinds.Memory64 = range_offset F at k
offset_in F at k kind = 0

-- the item of the record at o, or the fault of its name: the stream of this kind begins at `at`
abbrev pub item_at : List ℕ → ℕ → ℕ → ℕ → ℕ → ℕ → StreamKind → Result Item Fault
item_at F limit e k at o kind =
    let fields = record_at kind F o in
    named (name_of F limit (name_rva fields)) (λ name. item_of (length F) e k (offset_in F at k kind) fields name)
