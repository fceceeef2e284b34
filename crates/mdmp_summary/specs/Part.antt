-- Parts of records that are not in the file.
use Rattle.std.specs.Prelude.{ℕ, List, [], ◌∷◌, ◌++◌, Option, Some, None}
use Rattle.mdmp_source.specs.declared.location.Extent.{Extent}
use Rattle.mdmp_source.specs.declared.location.Extent.TheVariants.{Empty, Absent, Inside, Outside}
use Rattle.mdmp_source.specs.declared.location.Location.{Location}
use Rattle.mdmp_lister.specs.declared.item.Item.{Item}
use Rattle.mdmp_lister.specs.declared.item.Item.TheVariants as items
use Rattle.mdmp_summary.specs.Keeping.{counted_on, kept}
use Rattle.mdmp_summary.specs.declared.lost_parts.LostParts.{LostParts}
use Rattle.mdmp_wire.specs.declared.slot.PartName.{PartName}
use Rattle.mdmp_wire.specs.declared.slot.PartName.TheVariants.{Stack, Context, CodeView, Misc, Memory}
use Rattle.mdmp_summary.specs.declared.part.PartOutside.{PartOutside}
use Rattle.mdmp_summary.specs.declared.part.PartsOutside.{PartsOutside}

-- the part at a location, of record k of entry e
abbrev pub located : ℕ → ℕ → PartName → Location → PartOutside
located e k part at = record { entry = e; index = k; part = part; offset = at.rva; size = at.size }

-- the part, if it lies outside the file
abbrev pub if_outside : Extent → PartOutside → List PartOutside
if_outside Outside part = part ∷ []
if_outside Empty part = []
if_outside Absent part = []
if_outside Inside part = []

-- the parts of an item that lie outside the file, in the order of its fields
abbrev pub parts_outside : Item → List PartOutside
parts_outside (items.Thread x) =
    if_outside x.stack (located x.entry x.index Stack x.fields.stack.memory)
    ++ if_outside x.context (located x.entry x.index Context x.fields.thread_context)
parts_outside (items.Module x) =
    if_outside x.codeview (located x.entry x.index CodeView x.fields.cv_record)
    ++ if_outside x.misc (located x.entry x.index Misc x.fields.misc_record)
parts_outside (items.Exception x) = if_outside x.context (located x.entry x.index Context x.fields.thread_context)
parts_outside (items.Range x) = if_outside x.extent (record { entry = x.entry; index = x.index; part = Memory; offset = x.offset; size = x.size })
parts_outside x = []

-- ---- as values

-- a part, if there is one
abbrev pub part_told : Option PartOutside → List PartOutside
part_told None = []
part_told (Some part) = part ∷ []

-- the parts of a record
abbrev pub parts_told : LostParts → List PartOutside
parts_told parts = part_told parts.first ++ part_told parts.second

-- ---- a part at a time

-- after these parts
abbrev pub parts_seen : PartsOutside → List PartOutside → PartsOutside
parts_seen old parts = record { count = counted_on old.count parts; first = kept old.first parts }
