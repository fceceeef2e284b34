-- What a listing over any content says of its items.
use Rattle.std.specs.Prelude.{◌≡◌, ◌⊎◌, ℕ, Option, Some}
use Rattle.mdmp_wire.specs.declared.any_record.AnyRecord.{AnyRecord}
use Rattle.mdmp_wire.specs.declared.entry.Entry.{Entry}
use Rattle.mdmp_lister.specs.declared.item.Item.{Item}
use Rattle.mdmp_lister.specs.declared.item.Item.TheVariants as items
use Rattle.mdmp_lister.specs.declared.item.StreamItem.{StreamItem}
use Rattle.mdmp_lister.specs.declared.kind.StreamKind.{StreamKind}
use Rattle.mdmp_lister.specs.declared.name.Name.{Name}
use Rattle.mdmp_lister.specs.Format.Item.{item_of, kind_told, plain}
use Rattle.mdmp_lister.specs.Format.Kind.{kind_of}

-- an entry itself
abbrev pub IsStream : Item → Type 0
IsStream item = (x : StreamItem) × (item ≡ items.Stream x)

-- the item of some record of a stream of this kind, in a file of z bytes: so each of its parts has the class of its location
pub record IsRecordOf (z : ℕ) (kind : Option StreamKind) (item : Item) : Type 0 where
  pub entry : ℕ
  pub index : ℕ
  pub offset : ℕ
  pub fields : AnyRecord
  pub name : Name
  pub known : kind ≡ Some (kind_told fields)
  pub same : item ≡ item_of z entry index offset fields name

-- an item of this entry, in a file of z bytes: the entry itself, or one of a record of the kind of its stream
abbrev pub IsClassed : ℕ → Entry → Item → Type 0
IsClassed z e item = IsStream (plain item) ⊎ IsRecordOf z (kind_of e.stream_type) (plain item)
