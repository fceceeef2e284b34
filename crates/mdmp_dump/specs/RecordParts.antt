-- The name and the parts of a record, as they were read.
use Rattle.std.specs.Prelude.{◌≡◌, ℕ, List}
use Rattle.mdmp_wire.specs.AnyRecord.{slot_at}
use Rattle.mdmp_wire.specs.declared.any_record.AnyRecord.{AnyRecord}
use Rattle.mdmp_wire.specs.declared.slot.Slot.{Slot}
use Rattle.mdmp_wire.specs.declared.slot.Slot.TheVariants as slots
use Rattle.mdmp_lister.specs.declared.kind.StreamKind.{StreamKind}
use Rattle.mdmp_dump.specs.declared.part.Part.{Part}
use Rattle.mdmp_dump.specs.declared.part.Part.TheVariants as parts
use Rattle.mdmp_dump.specs.declared.record_parts.RecordParts.{RecordParts}
use Rattle.mdmp_dump.specs.Part.{IsPart}
use Rattle.mdmp_dump.specs.Reading.{HasBytesAt, IsRecordIn, IsSlotName}

module _ {Z : Type 0} where
  -- the part stands where a slot says: the bytes of a 64-bit range at `far`
  abbrev pub IsSlotPart : List ℕ → ℕ → Slot → Part Z → Type 0
  IsSlotPart F far (slots.Part name at) part = IsPart F at part
  IsSlotPart F far (slots.Behind n) part = (bytes : List ℕ) × ((part ≡ parts.Bytes bytes) × HasBytesAt F far n bytes)
  IsSlotPart F far slot part = Unit {0}

  -- each part of a record
  pub record ArePartsOf (F : List ℕ) (far : ℕ) (w : AnyRecord) (p : RecordParts Z) : Type 0 where
    pub first : IsSlotPart F far (slot_at w 0) p.first
    pub second : IsSlotPart F far (slot_at w 1) p.second
    pub third : IsSlotPart F far (slot_at w 2) p.third

  -- a record was read at o, record k of the stream of this kind at `at`, with its name and its parts
  pub record IsReadAt (kind : StreamKind) (F : List ℕ) (at k o : ℕ) (w : AnyRecord) (p : RecordParts Z) : Type 0 where
    pub far : ℕ
    pub is : IsRecordIn kind F at k o w far
    pub name : IsSlotName F (slot_at w 0) p.name
    pub parts : ArePartsOf F far w p
