-- Why a file gives no dump, where memory suffices and its bytes are obtained.
use Rattle.std.specs.Prelude.{◌≡◌, ◌≤◌, ◌<◌, ◌⊎◌, ℕ, ◌+◌, List, [], ◌∷◌, ◌++◌, length, Option, Some, None, not, ◌==◌, ◌&&◌, nat_lt, if◌then◌else◌, option_map, flat_map, slice_get}
use Rattle.mdmp_source.specs.Extent.{extent_of}
use Rattle.mdmp_source.specs.Range.{is_inside}
use Rattle.mdmp_source.specs.declared.location.Location.{Location}
use Rattle.mdmp_source.specs.declared.location.Extent.{Extent}
use Rattle.mdmp_source.specs.declared.location.Extent.TheVariants as classes
use Rattle.mdmp_lister.specs.declared.choice.Choice.{Choice}
use Rattle.mdmp_lister.specs.declared.fault.OpenFault.{OpenFault}
use Rattle.mdmp_lister.specs.declared.fault.OpenFault.TheVariants as opening
use Rattle.mdmp_lister.specs.declared.name.Name.{Name}
use Rattle.mdmp_lister.specs.declared.name.Name.TheVariants.{Long}
use Rattle.mdmp_lister.specs.declared.name.Name.TheVariants as names
use Rattle.mdmp_lister.specs.declared.step.RecordRead.{RecordRead}
use Rattle.mdmp_lister.specs.declared.item.Item.{Item}
use Rattle.mdmp_lister.specs.declared.item.Item.TheVariants as items
use Rattle.mdmp_lister.specs.Format.Item.{range_extent_of}
use Rattle.mdmp_lister.specs.Format.Kind.{is_known}
use Rattle.mdmp_lister.specs.Format.Listing.{Run, listing}
use Rattle.mdmp_lister.specs.Format.Refusal.{opening_fault}
use Rattle.mdmp_wire.specs.AnyRecord.{slot_at}
use Rattle.mdmp_wire.specs.declared.any_record.AnyRecord.{AnyRecord}
use Rattle.mdmp_wire.specs.declared.slot.Slot.{Slot}
use Rattle.mdmp_wire.specs.declared.slot.Slot.TheVariants as slots
use Rattle.mdmp_wire.specs.declared.slot.PartName.{PartName}
use Rattle.mdmp_wire.specs.declared.slot.PartName.TheVariants.{Stack, Context, CodeView, Misc, Memory}
use Rattle.mdmp_dump.specs.declared.fault.ReadFault.{ReadFault}
use Rattle.mdmp_dump.specs.declared.fault.ReadFault.TheVariants as faults

-- what an item asks of a reader: to refuse it, or to take so many bytes at an offset, for the item with this entry and index
pub data ReadStep : Type 0 where
  Refuse : ReadFault → ReadStep
  Take : ℕ → ℕ → (offset size : ℕ) → ReadStep

-- ---- names and parts, of the item with entry e and index k

-- a long name is refused
abbrev pub name_steps : ℕ → ℕ → Name → List ReadStep
name_steps e k (Long bytes) = Refuse (faults.NameTooLong e k bytes) ∷ []
name_steps e k _ = []

-- a part is refused outside the file, and taken inside
abbrev pub part_steps : ℕ → ℕ → PartName → ℕ → ℕ → Extent → List ReadStep
part_steps e k part offset size classes.Outside = Refuse (faults.PartOutside e k part offset size) ∷ []
part_steps e k part offset size classes.Inside = Take e k offset size ∷ []
part_steps e k part offset size _ = []

-- the same of a part that a location of this class names
abbrev pub location_steps : ℕ → ℕ → PartName → Location → Extent → List ReadStep
location_steps e k part at extent = part_steps e k part at.rva at.size extent

-- what a slot of a record asks, of a name that was read so, in a file of z bytes: those of a 64-bit range stand at `far`
abbrev pub slot_steps : ℕ → ℕ → ℕ → ℕ → Name → Slot → List ReadStep
slot_steps z e k far name slots.Empty = []
slot_steps z e k far name (slots.Name rva) = name_steps e k name
slot_steps z e k far name (slots.Part part at) = location_steps e k part at (extent_of at z)
slot_steps z e k far name (slots.Behind n) = part_steps e k Memory far n (range_extent_of far n z)

-- what record k of entry e asks
abbrev pub record_steps : ℕ → ℕ → ℕ → ℕ → AnyRecord → Name → List ReadStep
record_steps z e k far w name =
    slot_steps z e k far name (slot_at w 0)
    ++ slot_steps z e k far name (slot_at w 1)
    ++ slot_steps z e k far name (slot_at w 2)

-- what its parts ask, once its name was taken
abbrev pub parts_asked : ℕ → RecordRead → List ReadStep
parts_asked z r = record_steps z r.entry r.index r.offset r.fields names.None

-- ---- items

-- bytes are taken that lie inside a file of `size` bytes
abbrev pub inside_steps : ℕ → ℕ → Location → List ReadStep
inside_steps size e at = if is_inside at.rva at.size size then Take e 0 at.rva at.size ∷ [] else []

-- those of a stream whose records are not known
abbrev pub stream_steps : ℕ → ℕ → ℕ → Location → List ReadStep
stream_steps size e t at =
    if not (t == 0) && not (is_known t) && is_inside at.rva at.size size then Take e 0 at.rva at.size ∷ [] else []

-- what an item of a file of `size` bytes asks, the name first and then the parts in the order of its fields
abbrev pub item_steps : ℕ → Item → List ReadStep
item_steps size (items.Stream x) = stream_steps size x.entry x.stream_type x.location
item_steps size (items.Thread x) =
    location_steps x.entry x.index Stack x.fields.stack.memory x.stack
    ++ location_steps x.entry x.index Context x.fields.thread_context x.context
item_steps size (items.Module x) =
    name_steps x.entry x.index x.name
    ++ location_steps x.entry x.index CodeView x.fields.cv_record x.codeview
    ++ location_steps x.entry x.index Misc x.fields.misc_record x.misc
item_steps size (items.Unloaded x) = name_steps x.entry x.index x.name
item_steps size (items.Exception x) = location_steps x.entry x.index Context x.fields.thread_context x.context
item_steps size (items.System x) = name_steps x.entry x.index x.name
item_steps size (items.MemoryInfo x) = []
item_steps size (items.ThreadName x) = name_steps x.entry x.index x.name
item_steps size (items.Range x) = part_steps x.entry x.index Memory x.offset x.size x.extent

-- how many parts some steps take
abbrev pub parts_in_steps : List ReadStep → ℕ
parts_in_steps [] = 0
parts_in_steps (Refuse fault ∷ steps) = parts_in_steps steps
parts_in_steps (Take e k offset size ∷ steps) = 1 + parts_in_steps steps

-- and how many bytes
abbrev pub bytes_in_steps : List ReadStep → ℕ
bytes_in_steps [] = 0
bytes_in_steps (Refuse fault ∷ steps) = bytes_in_steps steps
bytes_in_steps (Take e k offset size ∷ steps) = size + bytes_in_steps steps

-- ---- a byte

-- the byte at this place is one that some of these steps take
abbrev pub TakesByte : List ReadStep → ℕ → Type 0
TakesByte [] at = ⊥
TakesByte (Refuse fault ∷ steps) at = TakesByte steps at
TakesByte (Take e k offset size ∷ steps) at = ((offset ≤ at) × (at < offset + size)) ⊎ TakesByte steps at

-- one of these items of a file of z bytes asks for the byte at this place: it lies in a part that the item names, or in the stream that
-- it begins, whose records are not known
pub record AsksByte (given : List Item) (z at : ℕ) : Type 0 where
  pub index : ℕ
  pub item : Item
  pub is : slice_get given index ≡ Some item
  pub byte : TakesByte (item_steps z item) at

-- ---- a file

-- a file that can't be listed gives no dump; want of memory is told as such
abbrev pub refusal_of : OpenFault → ReadFault
refusal_of opening.Memory = faults.Memory
refusal_of fault = faults.Opening fault

-- the first step that is refused, or with which more than the limit was taken in all, or else the last fault
unfoldable pub first_refusal : ℕ → ℕ → List ReadStep → Option ReadFault → Option ReadFault
first_refusal limit total [] last = last
first_refusal limit total (Refuse fault ∷ steps) last = Some fault
first_refusal limit total (Take e k offset size ∷ steps) last =
    if nat_lt limit (total + size) then Some (faults.PartsTooLarge e k) else first_refusal limit (total + size) steps last

-- the first refusal among the items of a run, or else its fault
abbrev pub run_refusal : List ℕ → ℕ → Run → Option ReadFault
run_refusal F limit run = first_refusal limit 0 (flat_map (item_steps (length F)) run.items) (option_map faults.List run.fault)

-- the refusal to open a file, or else that of its listing
abbrev pub opened_refusal : List ℕ → Choice → ℕ → ℕ → Option OpenFault → Option ReadFault
opened_refusal F choice name_limit limit (Some fault) = Some (faults.Opening fault)
opened_refusal F choice name_limit limit None = run_refusal F limit (listing F choice name_limit)

-- the first reason why F gives no dump of its chosen entries, where names have at most name_limit bytes each and the
-- parts, with the streams whose records are not known, at most limit bytes in all, or none
abbrev pub read_refusal : List ℕ → Choice → ℕ → ℕ → Option ReadFault
read_refusal F choice name_limit limit = opened_refusal F choice name_limit limit (opening_fault F choice)
