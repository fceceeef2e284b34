-- What is found of a name or a part, by its place in the file.
use Rattle.std.specs.Prelude.{◌≡◌, ◌≤◌, ◌<◌, ◌+◌, ◌^◌, ℕ, List, [], ◌∷◌, length, map, Some, None, Result, Ok, Err, IfErr, get_or}
use Rattle.mdmp_source.specs.Extent.{extent_of}
use Rattle.mdmp_source.specs.Store.{AreBytes}
use Rattle.mdmp_source.specs.declared.fault.SourceFault.TheVariants.{Changed}
use Rattle.mdmp_source.specs.Range.{bytes_at}
use Rattle.mdmp_source.specs.declared.location.Location.{Location}
use Rattle.mdmp_wire.specs.AnyRecord.{name_rva, slots_of, with_slots}
use Rattle.mdmp_wire.specs.Number.{array_at}
use Rattle.mdmp_wire.specs.declared.any_record.AnyRecord.{AnyRecord}
use Rattle.mdmp_wire.specs.declared.slot.Slot.{Slot}
use Rattle.mdmp_wire.specs.declared.slot.Slot.TheVariants as slots
use Rattle.mdmp_lister.specs.declared.name.Name.{Name}
use Rattle.mdmp_lister.specs.declared.name.Name.TheVariants as names
use Rattle.mdmp_lister.specs.declared.item.Item.{Item}
use Rattle.mdmp_lister.specs.declared.kind.StreamKind.{StreamKind}
use Rattle.mdmp_lister.specs.declared.step.RecordRead.{RecordRead}
use Rattle.mdmp_lister.specs.Format.Item.{item_at, kind_told, name_of, offset_in, record_at}
use Rattle.mdmp_lister.specs.Format.Name.{name_at}
use Rattle.mdmp_lister.specs.Step.{IsNameTold}
use Rattle.mdmp_wire.specs.declared.slot.PartName.{PartName}
use Rattle.mdmp_dump.specs.declared.fault.ReadFault.{ReadFault}
use Rattle.mdmp_dump.specs.declared.fault.ReadFault.TheVariants as faults
use Rattle.mdmp_dump.specs.declared.found_record.FoundRecord.{FoundRecord}
use Rattle.mdmp_dump.specs.declared.found_record.PartAt.{PartAt}
use Rattle.mdmp_dump.specs.declared.view.PartSize.{PartSize}
use Rattle.mdmp_dump.specs.declared.view.PartSize.TheVariants.{NoPart, Size}
use Rattle.mdmp_dump.specs.FileRefusal.{first_told}
use Rattle.mdmp_dump.specs.FoundRecord.{fields_of, no_part}
use Rattle.mdmp_dump.specs.InFile.{name_in, part_named}
use Rattle.mdmp_dump.specs.Placed.{bytes_in, far_room, fields_bytes, fields_room, size_in}
use Rattle.mdmp_dump.specs.Reading.{IsOwn}
use Rattle.mdmp_dump.specs.Refusal.{Refuse, ReadStep, item_steps, location_steps, name_steps, record_steps, slot_steps}
use Rattle.mdmp_dump.specs.Seen.{Seen, bytes_of, name_size, nowhere, seen, size_of, unit_bytes}

-- of this size, its bytes stand there
abbrev pub IsAt : List ℕ → PartAt → PartSize → List ℕ → Type 0
IsAt F p size bytes = (p.size ≡ size) × (AreBytes F → bytes_at F p.at (size_in p.size) ≡ bytes)

-- nothing that these steps ask is refused
abbrev pub AreHad : List ReadStep → Type 0
AreHad steps = first_told steps None ≡ None

-- it is where it is said to be, and nothing of it is refused; or what refuses it is told
abbrev pub IsFoundInFile : List ℕ → List ReadStep → PartSize → List ℕ → Result PartAt ReadFault → Type 0
IsFoundInFile F steps size bytes (Ok p) = AreHad steps × IsAt F p size bytes
IsFoundInFile F steps size bytes (Err fault) = (IsOwn fault → ⊥) → steps ≡ Refuse fault ∷ []

-- the name at an RVA, of which no more than `limit` bytes are taken
abbrev pub FindsName : List ℕ → ℕ → ℕ → ℕ → ℕ → Result PartAt ReadFault → Type 0
FindsName F limit e k rva result =
    (name : Name) × ((name_at F rva limit ≡ Ok name) × IsFoundInFile F (name_steps e k name) (name_size (name_in F rva)) (unit_bytes (name_in F rva)) result)

-- a name of n bytes, which stand behind their length; or that it has more than `limit`
abbrev pub IsCountedName : ℕ → ℕ → ℕ → ℕ → ℕ → Result PartAt ReadFault → Type 0
IsCountedName limit e k rva n (Ok p) = (n ≤ limit) × ((p.size ≡ Size n) × (rva + 4 < 2 ^ 64 → p.at ≡ rva + 4))
IsCountedName limit e k rva n (Err fault) = (limit < n) × (fault ≡ faults.NameTooLong e k n)

-- the part that a location names
abbrev pub FindsPart : List ℕ → ℕ → ℕ → PartName → Location → Result PartAt ReadFault → Type 0
FindsPart F e k part at result =
    IsFoundInFile F (location_steps e k part at (extent_of at (length F))) (size_of (part_named {Z = Unit {0}} F at)) (bytes_of (part_named {Z = Unit {0}} F at)) result

-- ---- what stands behind a slot in the file F, where `far` is the place of the bytes of a 64-bit range

abbrev pub slot_size : List ℕ → ℕ → Slot → PartSize
slot_size F far slots.Empty = NoPart
slot_size F far (slots.Name rva) = name_size (name_in F rva)
slot_size F far (slots.Part name at) = size_of (part_named {Z = Unit {0}} F at)
slot_size F far (slots.Behind n) = Size (length (array_at F far n))

abbrev pub slot_bytes : List ℕ → ℕ → Slot → List ℕ
slot_bytes F far slots.Empty = []
slot_bytes F far (slots.Name rva) = unit_bytes (name_in F rva)
slot_bytes F far (slots.Part name at) = bytes_of (part_named {Z = Unit {0}} F at)
slot_bytes F far (slots.Behind n) = array_at F far n

-- the slot with no place in it, and of a 64-bit range the bytes that the file has
abbrev pub slot_bare : List ℕ → ℕ → Slot → Slot
slot_bare F far slots.Empty = slots.Empty
slot_bare F far (slots.Name rva) = slots.Name 0
slot_bare F far (slots.Part name at) = slots.Part name nowhere
slot_bare F far (slots.Behind n) = slots.Behind (length (array_at F far n))

-- ---- records

-- a record as a view gives it, with what stands behind its slots
abbrev pub seen_of : List ℕ → ℕ → AnyRecord → Seen
seen_of F far w = seen (with_slots w (map (slot_bare F far) (slots_of w))) (map (slot_size F far) (slots_of w)) (map (slot_bytes F far) (slots_of w))

-- record k of the stream of this kind at `at`, which stands at o
abbrev pub seen_in : StreamKind → List ℕ → ℕ → ℕ → ℕ → Seen
seen_in kind F at k o = seen_of F (offset_in F at k kind) (record_at kind F o)

-- it has the fields of what a view gives, and the bytes of its name and parts stand where it says
pub record IsSeenAt (F : List ℕ) (s : Seen) (f : FoundRecord) : Type 0 where
  pub fields : fields_of f ≡ s.fields
  pub parts : AreBytes F → (j : ℕ) → bytes_at F (get_or f.parts j no_part).at (size_in (get_or f.parts j no_part).size) ≡ bytes_in s j

-- it is found, and nothing that these steps ask is refused; or the first refusal is told
abbrev pub FindsSeen : List ℕ → List ReadStep → Seen → Result FoundRecord ReadFault → Type 0
FindsSeen F steps s (Ok f) = AreHad steps × IsSeenAt F s f
FindsSeen F steps s (Err fault) = (IsOwn fault → ⊥) → first_told steps None ≡ Some fault

-- the record of this kind at o, whose name may have at most `limit` bytes: record k of entry e, of the stream at `at`
abbrev pub FindsRecord : List ℕ → ℕ → ℕ → ℕ → ℕ → ℕ → StreamKind → Result FoundRecord ReadFault → Type 0
FindsRecord F limit e k at o kind result = (item : Item) × ((item_at F limit e k at o kind ≡ Ok item) × FindsSeen F (item_steps (length F) item) (seen_in kind F at k o) result)

-- ---- a record that was read with the limit 0

-- what is found behind a slot of it: of a name, where that was read so
abbrev pub FindsSlot : List ℕ → ℕ → RecordRead → Slot → Result PartAt ReadFault → Type 0
FindsSlot F limit r (slots.Name rva) result = (name : Name) → IsNameTold r.name name → name_at F rva 0 ≡ Ok name → FindsName F limit r.entry r.index rva result
FindsSlot F limit r slot result =
    IsFoundInFile F (slot_steps (length F) r.entry r.index r.offset names.None slot) (slot_size F r.offset slot) (slot_bytes F r.offset slot) result

-- what is found of it, where its name is read so
abbrev pub FindsStep : List ℕ → ℕ → RecordRead → Result FoundRecord ReadFault → Type 0
FindsStep F limit r result = (name : Name) → IsNameTold r.name name → name_of F 0 (name_rva r.fields) ≡ Ok name
    → (long : Name) × ((name_of F limit (name_rva r.fields) ≡ Ok long)
    × FindsSeen F (record_steps (length F) r.entry r.index r.offset r.fields long) (seen_of F r.offset r.fields) result)

-- ---- of every file

-- a record of this kind, the bytes of whose name and parts are within their room
abbrev pub IsFittingOf : AnyRecord → FoundRecord → Type 0
IsFittingOf w f = (kind_told f.wire ≡ kind_told w) × (fields_bytes (fields_of f) ≤ fields_room (fields_of f) + far_room (fields_of f))

-- the refusal of a name or a part
abbrev pub IsOfRecord : ReadFault → Type 0
IsOfRecord (faults.NameTooLong e k size) = Unit {0}
IsOfRecord (faults.PartOutside e k part offset size) = Unit {0}
IsOfRecord fault = ⊥

-- the same, or that the store has changed
abbrev pub IsOfPlaces : ReadFault → Type 0
IsOfPlaces (faults.Source (Changed at)) = Unit {0}
IsOfPlaces fault = IsOfRecord fault

-- what is found of it inside a file that has its name: that has not changed
abbrev pub IsFoundInside : List ℕ → ℕ → RecordRead → Result FoundRecord ReadFault → Type 0
IsFoundInside F limit r result = (name : Name) → IsNameTold r.name name → name_of F 0 (name_rva r.fields) ≡ Ok name
    → (long : Name) × ((name_of F limit (name_rva r.fields) ≡ Ok long)
    × (FindsSeen F (record_steps (length F) r.entry r.index r.offset r.fields long) (seen_of F r.offset r.fields) result × IfErr result IsOfRecord))
