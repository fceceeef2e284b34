-- Items whose names stand in a buffer.
use Rattle.std.specs.Prelude.{◌≡◌, ℕ, List, Option, Some, None, Result, Ok, Err, ◌≤◌, ◌<◌, ◌+◌, ◌%◌, length, take}
use Rattle.mdmp_wire.specs.AnyRecord.{name_rva}
use Rattle.mdmp_wire.specs.declared.any_record.AnyRecord.{AnyRecord}
use Rattle.mdmp_wire.specs.declared.any_record.AnyRecord.TheVariants as any
use Rattle.mdmp_wire.specs.declared.entry.Entry.{Entry}
use Rattle.mdmp_lister.specs.declared.fault.ListFault.{ListFault}
use Rattle.mdmp_lister.specs.declared.fetching.NameRead.{NameRead}
use Rattle.mdmp_lister.specs.declared.item.Item.{Item}
use Rattle.mdmp_lister.specs.declared.item.Item.TheVariants as items
use Rattle.mdmp_lister.specs.declared.item.StreamItem.{StreamItem}
use Rattle.mdmp_lister.specs.declared.step.Step.{Step}
use Rattle.mdmp_lister.specs.declared.step.Step.TheVariants as step
use Rattle.mdmp_lister.specs.declared.kind.StreamKind.{StreamKind}
use Rattle.mdmp_lister.specs.Format.Item.{item_of, kind_told, plain}
use Rattle.mdmp_lister.specs.Format.Ranges.{IsPlacedIn}
use Rattle.mdmp_lister.specs.Format.Summary.{entry_begun, number_behind}
use Rattle.mdmp_wire.specs.Units.{units_over}
use Rattle.mdmp_lister.specs.declared.name.Name.{Name}
use Rattle.mdmp_lister.specs.declared.name.Name.TheVariants.{Units, Long}
use Rattle.mdmp_lister.specs.declared.name.Name.TheVariants as names
use Rattle.mdmp_lister.specs.declared.fetching.NameRead.TheVariants as read

-- a name whose units stand at the front of a buffer
abbrev pub name_read : List ℕ → NameRead → Name
name_read buffer read.None = names.None
name_read buffer (read.Units bytes) = Units (units_over (take bytes buffer))
name_read buffer (read.Long bytes) = Long bytes

-- units that were read fit in `room` bytes, two bytes each
abbrev pub IsHeld : ℕ → NameRead → Type 0
IsHeld room (read.Units bytes) = (bytes ≤ room) × (bytes % 2 ≡ 0)
IsHeld room name = Unit {0}

-- the item, its name in this buffer, in a file of z bytes
abbrev pub step_item : ℕ → List ℕ → Step → Item
step_item z buffer (step.Stream x) = items.Stream x
step_item z buffer (step.Record r) = item_of z r.entry r.index r.offset r.fields (name_read buffer r.name)

-- the item that is given of a step, its name lent from this buffer, in a file of z bytes
pub record IsItemOf (z : ℕ) (buffer : List ℕ) (step : Step) (x : Item) : Type 0 where
  pub item : plain x ≡ step_item z buffer step
  -- a range that is said to lie inside the file does
  pub placed : IsPlacedIn z x

-- its name fits in `room` bytes
abbrev pub IsNameHeld : ℕ → Step → Type 0
IsNameHeld room (step.Stream x) = Unit {0}
IsNameHeld room (step.Record r) = IsHeld room r.name

-- a record with no RVA of a name has no name
abbrev pub IsNameOf : Option ℕ → NameRead → Type 0
IsNameOf (Some rva) name = Unit {0}
IsNameOf None name = name ≡ read.None

-- the size of a range of a 64-bit memory list
abbrev pub range64_size : AnyRecord → ℕ
range64_size (any.Memory64 fields) = fields.data_size
range64_size fields = 0

-- its record is one of a stream of this kind, and its name one of such a record
abbrev pub IsStepOf : Option StreamKind → Step → Type 0
IsStepOf kind (step.Stream x) = Unit {0}
IsStepOf kind (step.Record r) = (kind ≡ Some (kind_told r.fields)) × IsNameOf (name_rva r.fields) r.name

-- both: what the item of a step has to have
abbrev pub IsStepHeld : ℕ → Option StreamKind → Step → Type 0
IsStepHeld room kind s = IsNameHeld room s × IsStepOf kind s

-- the entry that it begins
abbrev pub stream_told : Step → Option StreamItem
stream_told (step.Stream x) = Some x
stream_told (step.Record r) = None

-- while records of the current entry are left, what is given is the next of them
abbrev pub TakesRecord : ℕ → Result (Option Step) ListFault → ℕ → Type 0
TakesRecord old (Ok None) new = old ≡ 0
TakesRecord old (Ok (Some s)) new = 0 < old → (stream_told s ≡ None) × (old ≡ new + 1)
TakesRecord old (Err f) new = Unit {0}

-- how many bytes stand behind those of the ranges before it, of a range of a 64-bit memory list
abbrev pub bytes_behind : Step → ℕ
bytes_behind (step.Stream x) = 0
bytes_behind (step.Record r) = range64_size r.fields

-- the number of the first entry behind the current one, once a step was given
abbrev pub passed_by : Step → ℕ → ℕ
passed_by s next = number_behind (stream_told s) next

-- the entry whose records are read, once a step was given
abbrev pub current_by : Step → Entry → Entry
current_by s e = entry_begun (stream_told s) e

abbrev pub CurrentAfter : Result (Option Step) ListFault → Entry → Entry → Type 0
CurrentAfter (Ok (Some s)) old new = new ≡ current_by s old
CurrentAfter answer old new = new ≡ old

-- ---- an item that is told of a step

-- the name is told, of units their bytes
abbrev pub IsNameTold : NameRead → Name → Type 0
IsNameTold read.None name = name ≡ names.None
IsNameTold (read.Long bytes) name = name ≡ Long bytes
IsNameTold (read.Units bytes) name = (units : List ℕ) × ((length units ≡ bytes) × (name ≡ Units (units_over units)))

-- what was read tells this item, in a file of z bytes
abbrev pub TellsItem : ℕ → Step → Item → Type 0
TellsItem z (step.Stream x) item = item ≡ items.Stream x
TellsItem z (step.Record r) item = (name : Name) × (IsNameTold r.name name × (item ≡ item_of z r.entry r.index r.offset r.fields name))

abbrev pub TellsAnswer : ℕ → Result (Option Step) ListFault → Result (Option Item) ListFault → Type 0
TellsAnswer z (Ok None) answer = answer ≡ Ok None
TellsAnswer z (Ok (Some s)) answer = (item : Item) × ((answer ≡ Ok (Some item)) × TellsItem z s item)
TellsAnswer z (Err f) answer = answer ≡ Err f
