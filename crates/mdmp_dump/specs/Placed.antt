-- A record that a view gives, as it is written: one rule for all kinds.
use Rattle.std.specs.Prelude.{ℕ, ◌+◌, List, [], ◌∷◌, ◌++◌, get_or}
use Rattle.mdmp_source.specs.declared.location.Location.{Location}
use Rattle.mdmp_wire.specs.AnyRecord.{any_bytes, slot_at, with_slots}
use Rattle.mdmp_wire.specs.Number.{le, zeros}
use Rattle.mdmp_dump.specs.declared.view.PartSize.{PartSize}
use Rattle.mdmp_dump.specs.declared.view.PartSize.TheVariants.{NoPart, Size, Absent}
use Rattle.mdmp_wire.specs.declared.any_record.AnyRecord.{AnyRecord}
use Rattle.mdmp_wire.specs.declared.slot.Slot.{Slot}
use Rattle.mdmp_wire.specs.declared.slot.Slot.TheVariants as slots
use Rattle.mdmp_dump.specs.declared.view.Fields.{Fields}
use Rattle.mdmp_dump.specs.Seen.{Seen, nowhere}
use Rattle.mdmp_dump.specs.Places.{up, bytes_location}

abbrev pub size_at : Fields → ℕ → PartSize
size_at f k = get_or f.parts k NoPart

-- the bytes that a part has
abbrev pub size_in : PartSize → ℕ
size_in NoPart = 0
size_in (Size n) = n
size_in (Absent n) = 0

-- the bytes of its name and parts
abbrev pub fields_bytes : Fields → ℕ
fields_bytes f = size_in (size_at f 0) + size_in (size_at f 1) + size_in (size_at f 2)

abbrev pub bytes_in : Seen → ℕ → List ℕ
bytes_in s k = get_or s.parts k []

-- the location of a part that is written at a place
abbrev pub location_of : PartSize → ℕ → Location
location_of NoPart at = nowhere
location_of (Size n) at = bytes_location n at
location_of (Absent n) at = record { size = n; rva = 0 }

-- the room that a part takes
abbrev pub part_room : PartSize → ℕ
part_room NoPart = 0
part_room (Size n) = up n
part_room (Absent n) = 0

-- the RVA of a name that is written at a place
abbrev pub address_of : PartSize → ℕ → ℕ
address_of (Size n) at = at
address_of _ at = 0

-- the room that it takes
abbrev pub name_room : PartSize → ℕ
name_room (Size n) = up (4 + n + 2)
name_room _ = 0

-- its bytes: its length, its units and two zeros
abbrev pub name_around : PartSize → List ℕ → List ℕ
name_around (Size n) bytes = le 4 n ++ bytes ++ zeros 2
name_around _ bytes = []

-- the room that a slot takes
abbrev pub slot_room : Slot → PartSize → ℕ
slot_room (slots.Name rva) size = name_room size
slot_room (slots.Part name at) size = part_room size
slot_room slot size = 0

-- a slot whose name or part is written at a place
abbrev pub slot_placed : Slot → PartSize → ℕ → Slot
slot_placed (slots.Name rva) size at = slots.Name (address_of size at)
slot_placed (slots.Part name location) size at = slots.Part name (location_of size at)
slot_placed slot size at = slot

-- the slots of a record, where its parts begin at a place
abbrev pub slots_placed : AnyRecord → Fields → ℕ → List Slot
slots_placed w f at =
    slot_placed (slot_at w 0) (size_at f 0) at
    ∷ slot_placed (slot_at w 1) (size_at f 1) (at + slot_room (slot_at w 0) (size_at f 0))
    ∷ slot_placed (slot_at w 2) (size_at f 2) (at + slot_room (slot_at w 0) (size_at f 0) + slot_room (slot_at w 1) (size_at f 1)) ∷ []

-- the record with its locations
abbrev pub placed : Fields → ℕ → AnyRecord
placed f at = with_slots f.wire (slots_placed f.wire f at)

-- its row, and the parts that are written behind the stream's body
abbrev pub seen_row : Seen → ℕ → List ℕ
seen_row s at = any_bytes (placed s.fields at)

-- what is written of a slot
abbrev pub slot_text : Slot → PartSize → List ℕ → List ℕ
slot_text (slots.Name rva) size bytes = name_around size bytes
slot_text (slots.Part name at) size bytes = bytes
slot_text slot size bytes = []

abbrev pub parts_by : AnyRecord → Seen → List (List ℕ)
parts_by w s =
    slot_text (slot_at w 0) (size_at s.fields 0) (bytes_in s 0)
    ∷ slot_text (slot_at w 1) (size_at s.fields 1) (bytes_in s 1)
    ∷ slot_text (slot_at w 2) (size_at s.fields 2) (bytes_in s 2) ∷ []

abbrev pub seen_parts : Seen → List (List ℕ)
seen_parts s = parts_by s.fields.wire s

-- the room that the name and parts of a record take
abbrev pub room_by : AnyRecord → Fields → ℕ
room_by w f = slot_room (slot_at w 0) (size_at f 0) + slot_room (slot_at w 1) (size_at f 1) + slot_room (slot_at w 2) (size_at f 2)

abbrev pub fields_room : Fields → ℕ
fields_room f = room_by f.wire f

-- the bytes of 64-bit memory that a record has, which stand elsewhere
abbrev pub slot_far : Slot → PartSize → ℕ
slot_far (slots.Behind n) size = size_in size
slot_far slot size = 0

abbrev pub far_by : AnyRecord → Fields → ℕ
far_by w f = slot_far (slot_at w 0) (size_at f 0)

abbrev pub far_room : Fields → ℕ
far_room f = far_by f.wire f
