-- A record of any kind of stream.
use Rattle.std.specs.Prelude.{◌≡◌, ◌<◌, ◌^◌, ℕ, Option, Some, None, List, [], ◌∷◌, get_or, length, map}
use Rattle.mdmp_wire.specs.declared.any_record.AnyRecord.{AnyRecord}
use Rattle.mdmp_wire.specs.declared.any_record.AnyRecord.TheVariants as any
use Rattle.mdmp_wire.specs.declared.slot.PartName.TheVariants.{Stack, Context, CodeView, Misc, Memory}
use Rattle.mdmp_wire.specs.declared.slot.Slot.{Slot}
use Rattle.mdmp_wire.specs.declared.slot.Slot.TheVariants.{Empty, Name, Part, Behind}
use Rattle.mdmp_source.specs.declared.location.Location.{Location}
use Rattle.mdmp_wire.specs.Descriptor.{descriptor_bytes, descriptor_size}
use Rattle.mdmp_wire.specs.Descriptor64.{descriptor64_bytes, descriptor64_size}
use Rattle.mdmp_wire.specs.Exception.{exception_bytes, exception_size}
use Rattle.mdmp_wire.specs.MemoryInfo.{memory_info_bytes, memory_info_size}
use Rattle.mdmp_wire.specs.Module.{module_bytes, module_size}
use Rattle.mdmp_wire.specs.System.{system_bytes, system_size}
use Rattle.mdmp_wire.specs.Thread.{thread_bytes, thread_size}
use Rattle.mdmp_wire.specs.ThreadName.{thread_name_bytes, thread_name_size}
use Rattle.mdmp_wire.specs.Unloaded.{unloaded_bytes, unloaded_size}

-- what it points at, in the order of its fields: a name stands before the parts
abbrev pub slots_of : AnyRecord → List Slot
slots_of (any.Thread thread) = Part Stack thread.stack.memory ∷ Part Context thread.thread_context ∷ Empty ∷ []
slots_of (any.Module image) = Name image.module_name_rva ∷ Part CodeView image.cv_record ∷ Part Misc image.misc_record ∷ []
slots_of (any.Memory range) = Part Memory range.memory ∷ Empty ∷ Empty ∷ []
slots_of (any.Exception exception) = Part Context exception.thread_context ∷ Empty ∷ Empty ∷ []
slots_of (any.System system) = Name system.csd_version_rva ∷ Empty ∷ Empty ∷ []
slots_of (any.Memory64 range) = Behind range.data_size ∷ Empty ∷ Empty ∷ []
slots_of (any.Unloaded image) = Name image.module_name_rva ∷ Empty ∷ Empty ∷ []
slots_of (any.MemoryInfo region) = Empty ∷ Empty ∷ Empty ∷ []
slots_of (any.ThreadName thread) = Name thread.rva_of_thread_name ∷ Empty ∷ Empty ∷ []

-- slot k of it
abbrev pub slot_at : AnyRecord → ℕ → Slot
slot_at w k = get_or (slots_of w) k Empty

-- where the name stands that a slot is for
abbrev pub slot_name : Slot → Option ℕ
slot_name (Name rva) = Some rva
slot_name slot = None

-- where its name stands, of a kind that has one
abbrev pub name_rva : AnyRecord → Option ℕ
name_rva w = slot_name (slot_at w 0)

-- its bytes
abbrev pub any_bytes : AnyRecord → List ℕ
any_bytes (any.Thread thread) = thread_bytes thread
any_bytes (any.Module image) = module_bytes image
any_bytes (any.Memory range) = descriptor_bytes range
any_bytes (any.Exception exception) = exception_bytes exception
any_bytes (any.System system) = system_bytes system
any_bytes (any.Memory64 range) = descriptor64_bytes range
any_bytes (any.Unloaded image) = unloaded_bytes image
any_bytes (any.MemoryInfo region) = memory_info_bytes region
any_bytes (any.ThreadName thread) = thread_name_bytes thread

-- how many they are
abbrev pub any_size : AnyRecord → ℕ
any_size (any.Thread thread) = thread_size
any_size (any.Module image) = module_size
any_size (any.Memory range) = descriptor_size
any_size (any.Exception exception) = exception_size
any_size (any.System system) = system_size
any_size (any.Memory64 range) = descriptor64_size
any_size (any.Unloaded image) = unloaded_size
any_size (any.MemoryInfo region) = memory_info_size
any_size (any.ThreadName thread) = thread_name_size

-- the most that any record has
abbrev pub greatest_size : ℕ
greatest_size = exception_size

-- ---- other slots in place of its own

-- the RVA of a name
abbrev pub slot_rva : Slot → ℕ
slot_rva (Name rva) = rva
slot_rva slot = 0

-- the location of a part
abbrev pub slot_location : Slot → Location
slot_location (Part name at) = at
slot_location slot = record { size = 0; rva = 0 }

-- how many bytes stand behind those of the records before
abbrev pub slot_behind : Slot → ℕ
slot_behind (Behind bytes) = bytes
slot_behind slot = 0

-- the record with these slots
abbrev pub with_slots : AnyRecord → List Slot → AnyRecord
with_slots (any.Thread r) s = any.Thread (record r {
  stack = record r.stack { memory = slot_location (get_or s 0 Empty) };
  thread_context = slot_location (get_or s 1 Empty);
})
with_slots (any.Module r) s = any.Module (record r {
  module_name_rva = slot_rva (get_or s 0 Empty);
  cv_record = slot_location (get_or s 1 Empty);
  misc_record = slot_location (get_or s 2 Empty);
})
with_slots (any.Memory r) s = any.Memory (record r { memory = slot_location (get_or s 0 Empty) })
with_slots (any.Exception r) s = any.Exception (record r { thread_context = slot_location (get_or s 0 Empty) })
with_slots (any.System r) s = any.System (record r { csd_version_rva = slot_rva (get_or s 0 Empty) })
with_slots (any.Unloaded r) s = any.Unloaded (record r { module_name_rva = slot_rva (get_or s 0 Empty) })
with_slots (any.ThreadName r) s = any.ThreadName (record r { rva_of_thread_name = slot_rva (get_or s 0 Empty) })
with_slots (any.Memory64 r) s = any.Memory64 (record r { data_size = slot_behind (get_or s 0 Empty) })
with_slots w s = w

-- the RVA of its name is below this: that of the name of a thread has 64 bits, any other 32
abbrev pub name_bound : AnyRecord → ℕ
name_bound (any.ThreadName r) = 2 ^ 64
name_bound w = 2 ^ 32

-- a slot can be put in place of another: it is of the same form, and its RVA is below a bound
abbrev pub IsSlotFor : ℕ → Slot → Slot → Type 0
IsSlotFor bound Empty slot = slot ≡ Empty
IsSlotFor bound (Name old) (Name new) = new < bound
IsSlotFor bound (Part name old) (Part other new) = other ≡ name
IsSlotFor bound (Behind old) (Behind new) = Unit {0}
IsSlotFor bound old new = ⊥

-- these can be put in place of its own
pub record AreSlotsOf (w : AnyRecord) (slots : List Slot) : Type 0 where
  pub three : length slots ≡ 3
  pub fit : (k : ℕ) → IsSlotFor (name_bound w) (slot_at w k) (get_or slots k Empty)

-- a slot with no place in it
abbrev pub bare_slot : Slot → Slot
bare_slot Empty = Empty
bare_slot (Name rva) = Name 0
bare_slot (Part name at) = Part name (record { size = 0; rva = 0 })
bare_slot (Behind bytes) = Behind bytes

-- the record with no place in it
abbrev pub bare : AnyRecord → AnyRecord
bare w = with_slots w (map bare_slot (slots_of w))
