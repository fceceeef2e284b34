-- What reading a file into a value does, step by step.
use Rattle.std.specs.Prelude.{◌≡◌, ◌≤◌, ◌<◌, ◌+◌, ◌*◌, ℕ, List, [], ◌∷◌, ◌++◌, length, Option, Some, None, Result, Ok, Err, IsTrue, IsFalse, false, ◌==◌, IfErr, IfOk, IfSome, slice_get, flat_map, option_map}
use Rattle.mdmp_source.specs.Source.{SourceState, FetchesSome, IsTold}
use Rattle.mdmp_source.specs.Store.{IsGood}
use Rattle.mdmp_source.specs.declared.fault.SourceFault.{SourceFault}
use Rattle.mdmp_source.specs.declared.fault.SourceFault.TheVariants.{Changed}
use Rattle.mdmp_lister.specs.declared.fault.FaultKind.{FaultKind}
use Rattle.mdmp_lister.specs.declared.fault.FaultKind.TheVariants as kinds
use Rattle.mdmp_lister.specs.declared.fault.ListFault.{ListFault}
use Rattle.mdmp_lister.specs.declared.fault.OpenFault.{OpenFault}
use Rattle.mdmp_lister.specs.declared.fault.OpenFault.TheVariants as opening
use Rattle.mdmp_lister.specs.declared.item.Item.{Item}
use Rattle.mdmp_lister.specs.declared.item.Item.TheVariants as items
use Rattle.mdmp_lister.specs.declared.item.StreamItem.{StreamItem}
use Rattle.mdmp_lister.specs.Format.Classes.{IsStream as IsStreamItem}
use Rattle.mdmp_lister.specs.Format.Item.{range_offset, record_at}
use Rattle.mdmp_lister.specs.Format.Listing.{Numbered, Run, nothing}
use Rattle.mdmp_lister.specs.Format.Name.{plain_name}
use Rattle.mdmp_lister.specs.Format.Refusal.{directory_refusal}
use Rattle.mdmp_lister.specs.Fault.{IsUnobtained}
use Rattle.mdmp_lister.specs.Opening.{IsOpenRefusal, KeepsOpening}
use Rattle.mdmp_lister.specs.Following.{FitsFile}
use Rattle.mdmp_lister.specs.Lister.{ListerState, tail}
use Rattle.mdmp_lister.specs.Memory.{is_within, opening_fault_within}
use Rattle.mdmp_lister.specs.declared.choice.Choice.{Choice}
use Rattle.mdmp_lister.specs.declared.limits.Limits.{Limits}
use Rattle.mdmp_lister.specs.declared.name.Name.{Name}
use Rattle.mdmp_lister.specs.declared.kind.StreamKind.{StreamKind}
use Rattle.mdmp_lister.specs.declared.kind.StreamKind.TheVariants.{Memory64}
use Rattle.mdmp_lister.specs.declared.step.ItemRead.{ItemRead}
use Rattle.mdmp_lister.specs.declared.step.ItemRead.TheVariants as reads
use Rattle.mdmp_lister.specs.declared.step.RecordRead.{RecordRead}
use Rattle.mdmp_lister.specs.declared.shape.Shape.{Shape}
use Rattle.mdmp_lister.specs.Format.Shape.{shape_of}
use Rattle.mdmp_dump.specs.declared.fault.ReadFault.{ReadFault}
use Rattle.mdmp_dump.specs.declared.fault.ReadFault.TheVariants as faults
use Rattle.mdmp_dump.specs.declared.reader.Reader.{Reader}
use Rattle.mdmp_dump.specs.declared.reader.Told.{Told}
use Rattle.mdmp_dump.specs.declared.reader.Told.TheVariants as tolds
use Rattle.mdmp_dump.specs.declared.reader.Next.{Next}
use Rattle.mdmp_dump.specs.declared.reader.Next.TheVariants as nexts
use Rattle.mdmp_dump.specs.FileRefusal.{IsUnbudgeted}
use Rattle.mdmp_dump.specs.ItemsRead.{IsOfListing, ReadsInTurn, ReadsParts, steps_left}
use Rattle.mdmp_dump.specs.Keeping.{KeepsStep, KeepsReading}
use Rattle.mdmp_dump.specs.LaysOut.{EachFrom, NamesStream}
use Rattle.mdmp_dump.specs.declared.dump.Stream.{Stream}
use Rattle.mdmp_wire.specs.declared.entry.Entry.{Entry}
use Rattle.mdmp_lister.specs.Format.Kind.{kind_of}
use Rattle.mdmp_dump.specs.Left.{StandBehind, IsGiven, RowGiven, left_from}
use Rattle.mdmp_dump.specs.Name.{IsName, name_told}
use Rattle.mdmp_dump.specs.Refusal.{ReadStep, Refuse, first_refusal, item_steps, name_steps, parts_asked, stream_steps}
use Rattle.mdmp_source.specs.Range.{is_inside}
use Rattle.mdmp_source.specs.declared.location.Extent.{Extent}
use Rattle.mdmp_source.specs.declared.location.Extent.TheVariants as classes
use Rattle.mdmp_wire.specs.AnyRecord.{slot_at}
use Rattle.mdmp_wire.specs.declared.any_record.AnyRecord.{AnyRecord}
use Rattle.mdmp_wire.specs.declared.slot.Slot.{Slot}
use Rattle.mdmp_wire.specs.declared.slot.Slot.TheVariants as slots
use Rattle.mdmp_wire.specs.Number.{array_at}

-- ---- faults

-- the fault of the store that a fault of a reading is
abbrev pub store_fault_in : FaultKind → Option SourceFault
store_fault_in (kinds.Source fault) = Some fault
store_fault_in kind = None

abbrev pub store_fault : ReadFault → Option SourceFault
store_fault (faults.Source fault) = Some fault
store_fault (faults.List fault) = store_fault_in fault.kind
store_fault (faults.Opening (opening.Source fault)) = Some fault
store_fault fault = None

-- a file of `size` bytes may be refused so, whatever they are: a fault of the opening or of the listing fits it, and want of
-- memory is told as such
abbrev pub IsReadRefusal : ℕ → ReadFault → Type 0
IsReadRefusal size (faults.Opening opening.Memory) = ⊥
IsReadRefusal size (faults.Opening fault) = IsOpenRefusal size fault
IsReadRefusal size (faults.List fault) = FitsFile size fault
IsReadRefusal size fault = Unit {0}

-- want of memory, or a fault of the store: none of the file
abbrev pub IsOwn : ReadFault → Type 0
IsOwn faults.Memory = Unit {0}
IsOwn fault = (told : SourceFault) × (store_fault fault ≡ Some told)

-- memory is wanting, the store, or the budget, or more memory would be held than the limit: it is none of the file
abbrev pub IsWanting : ReadFault → Type 0
IsWanting faults.Memory = Unit {0}
IsWanting (faults.Opening (opening.MemoryLimit held)) = Unit {0}
IsWanting (faults.Source fault) = Unit {0}
IsWanting (faults.List fault) = IsUnobtained fault.kind
IsWanting (faults.Opening (opening.Source fault)) = Unit {0}
IsWanting (faults.Opening (opening.Budget offset size)) = Unit {0}
IsWanting fault = ⊥

-- it does not tell that the budget was reached
abbrev pub IsWithoutBudget : ReadFault → Type 0
IsWithoutBudget (faults.Opening (opening.Budget offset size)) = ⊥
IsWithoutBudget (faults.List fault) = IsUnbudgeted fault.kind
IsWithoutBudget fault = Unit {0}

-- a known file can be opened within the limits: of memory, and of bytes that are read
abbrev pub OpensWithin : Limits → Choice → Option (List ℕ) → Type 0
OpensWithin limits choice content = (file : List ℕ) → content ≡ Some file → (opening_fault_within limits file choice ≡ None) × KeepsOpening limits.budget file choice

-- a reading that ends by the limit of memory would hold more, and for a known file that is the first fault within the limits. One
-- that ends behind the opening is within them.
abbrev pub TellsLimit : Limits → Choice → Option (List ℕ) → ReadFault → Type 0
TellsLimit limits choice content (faults.Opening (opening.MemoryLimit held)) =
    (is_within limits.memory held ≡ false) × ((file : List ℕ) → content ≡ Some file → opening_fault_within limits file choice ≡ Some (opening.MemoryLimit held))
TellsLimit limits choice content (faults.Opening fault) = Unit {0}
TellsLimit limits choice content faults.Memory = Unit {0}
TellsLimit limits choice content fault = OpensWithin limits choice content

-- what is told where a reading of an opened file ends so within a budget or none: without one it does not end by it, and
-- the limit of memory was tested before
abbrev pub listed_within : Option ℕ → FaultKind → ListFault → ReadFault
listed_within None kinds.Budget fault = faults.Memory
listed_within budget kind fault = faults.List fault

abbrev pub opened_within : Option ℕ → OpenFault → ReadFault
opened_within None (opening.Budget offset size) = faults.Memory
opened_within budget (opening.MemoryLimit held) = faults.Memory
opened_within budget fault = faults.Opening fault

abbrev pub read_within : Option ℕ → ReadFault → ReadFault
read_within budget (faults.List fault) = listed_within budget fault.kind fault
read_within budget (faults.Opening fault) = opened_within budget fault
read_within budget fault = fault

-- a fault of the store is the last that the source told, and has its cause in these fetches; or the store has changed, which
-- one of known content does not
abbrev pub IsLastTold : SourceFault → SourceState → SourceState → Type 0
IsLastTold (Changed at) old new = old.store.content ≡ None
IsLastTold fault old new = IsTold fault old new

-- the first refusal that is left is told, unless memory, the store or the budget is wanting; or it is left still
abbrev pub Settles : {T : Type 0} → Option ReadFault → Result T ReadFault → (T → Option ReadFault) → Type 0
Settles old (Ok x) new = old ≡ new x
Settles old (Err fault) new = (IsWanting fault → ⊥) → old ≡ Some fault

-- some fetches, of which a fault of the store is told as such, and one of the file may be told of one of this size
pub record Fetches {T : Type 0} (result : Result T ReadFault) (old new : SourceState) : Type 0 where
  pub fetches : FetchesSome old new
  pub told : IfErr result (λ fault. IfSome (store_fault fault) (λ of_store. IsLastTold of_store old new))
  pub good : (file : List ℕ) → IsGood old.store file → IfErr result (λ fault. store_fault fault ≡ None)
  pub refusal : IfErr result (IsReadRefusal old.size)

-- a store of known content is not told as changed
abbrev pub MayBeTold : Option (List ℕ) → Option SourceFault → Type 0
MayBeTold content (Some (Changed at)) = content ≡ None
MayBeTold content told = Unit {0}

-- what is told of whatever file, whose store may be gone: want of memory only of one whose header and place of the directory
-- are good, and a change only of one whose content is not known
pub record TellsOf (content : Option (List ℕ)) (fault : ReadFault) : Type 0 where
  pub memory : fault ≡ faults.Memory → (file : List ℕ) → content ≡ Some file → directory_refusal file ≡ None
  pub changed : MayBeTold content (store_fault fault)

-- what a reading answers was fetched so: the source that it left is one of these fetches, and keeps to the limits
pub record IsReadWithin {T : Type 0} (choice : Choice) (limits : Limits) (parts : ℕ) (result : Result T ReadFault) (old : SourceState) : Type 0 where
  pub after : SourceState
  pub fetches : Fetches result old after
  pub keeps : KeepsReading choice limits parts result old after
  pub unbudgeted : limits.budget ≡ None → IfErr result IsWithoutBudget

-- what some steps ask was done, or the first of them that can't be is told
pub record TakesSteps {S A T : Type 0} (steps : List ReadStep) (old : Reader S A) (result : Result T ReadFault) (new : Reader S A) : Type 0 where
  pub same : new.lister ≡ record old.lister { source = new.lister.source; counts = new.lister.counts }
  pub fetches : Fetches result old.lister.source new.lister.source
  pub settles : (rest : List ReadStep) (last : Option ReadFault) → Settles (first_refusal old.left 0 (steps ++ rest) last) result (λ _. first_refusal new.left 0 rest last)
  -- each part is read once, by one fetch
  pub parts : ReadsParts steps [] old.lister new.lister
  -- and no error is the listing's
  pub of_steps : IfErr result (λ fault. IsOfListing fault → ⊥)
  pub keeps : KeepsStep steps result old new

-- these are the bytes at a place inside the file
pub record HasBytesAt (F : List ℕ) (at size : ℕ) (bytes : List ℕ) : Type 0 where
  pub len : length bytes ≡ size
  pub inside : IsTrue (is_inside at size (length F))
  pub same : array_at F at size ≡ bytes

-- these were taken of a part of this class
abbrev pub AreBytesOf : List ℕ → ℕ → ℕ → Extent → List ℕ → Type 0
AreBytesOf F at size classes.Inside bytes = HasBytesAt F at size bytes
AreBytesOf F at size classes.Outside bytes = ⊥
AreBytesOf F at size class bytes = bytes ≡ []

-- ---- items

-- no record is the first of these items
abbrev pub NoRowFirst : Run → Type 0
NoRowFirst run = (item : Item) → slice_get run.items 0 ≡ Some item → IsStreamItem item

-- the first of what was left is this Stream item, or nothing was and is
abbrev pub IsNextStream : Run → Option StreamItem → Option Run → Type 0
IsNextStream run None new = (run ≡ nothing) × (new ≡ Some run)
IsNextStream run (Some item) new = (slice_get run.items 0 ≡ Some (items.Stream item)) × (new ≡ Some (tail run))

-- what a Stream item that was given asks
abbrev pub steps_of : ℕ → Option StreamItem → List ReadStep
steps_of size None = []
steps_of size (Some item) = stream_steps size item.entry item.stream_type item.location

-- the first refusal where these steps and what is left of the listing are still to come, with so many bytes for parts
abbrev pub refusal_in : List ℕ → ℕ → List ReadStep → Option Run → Option ReadFault
refusal_in F left steps None = None
refusal_in F left steps (Some run) = first_refusal left 0 (steps ++ flat_map (item_steps (length F)) run.items) (option_map faults.List run.fault)

-- what is left to take of a record that was found, or of a stream whose item was
abbrev pub steps_told : {Z : Type 0} → ℕ → Told Z → List ReadStep
steps_told z (tolds.Record r name) = parts_asked z r
steps_told z (tolds.Behind next) = steps_of z next

-- the same behind a Stream item or none
abbrev pub owed : List ℕ → ℕ → Option StreamItem → Option Run → Option ReadFault
owed F left item run = refusal_in F left (steps_of (length F) item) run

-- behind an item the listing goes on, and fewer are left
abbrev pub ListingGoesOn : ListerState → ListerState → Type 0
ListingGoesOn old new = (new.stop ≡ None) × (new.work < old.work)

-- an item is one of those that were left, where the file is known
abbrev pub IsOneLeft : ListerState → Item → Type 0
IsOneLeft v item = (run : Run) → v.left ≡ Some run → (index : ℕ) × (slice_get run.items index ≡ Some item)

-- and in the entry whose Stream item was given, one of the items that were left, of the type that the item tells
abbrev pub IsGoing : ListerState → Option StreamItem → ListerState → Type 0
IsGoing old None new = Unit {0}
IsGoing old (Some item) new = ListingGoesOn old new × (new.current.stream_type ≡ item.stream_type) × IsOneLeft old (items.Stream item)

-- or in the same entry, behind a record
abbrev pub IsGoingBehind : ListerState → ListerState → Type 0
IsGoingBehind old new = ListingGoesOn old new × (new.current ≡ old.current)

-- the entry whose Stream item was given last is of this type
abbrev pub IsOfType : ListerState → ℕ → Type 0
IsOfType v t = v.current.stream_type ≡ t

-- what is left begins with the entries behind these
abbrev pub IsLeftBehind : List ℕ → ℕ → List Numbered → Option StreamItem → Option Run → Type 0
IsLeftBehind F limit xs next left = (run : Run) × ((left ≡ Some run) × StandBehind F limit xs next run)

-- ---- records

-- these are the first records of a stream
abbrev pub AreRows : {X : Type 0} → List ℕ → Numbered → StreamKind → (ℕ → ℕ → X → Type 0) → List X → Type 0
AreRows F x kind IsAt rows = (shape : Shape) → shape_of F x.entry.location.rva x.entry.location.size kind ≡ Ok shape
    → (length rows ≤ shape.count) × EachFrom IsAt (x.entry.location.rva + shape.first) shape.stride 0 rows

-- this is record k of a stream
abbrev pub IsRow : {X : Type 0} → List ℕ → Numbered → StreamKind → (ℕ → ℕ → X → Type 0) → ℕ → X → Type 0
IsRow F x kind IsAt k row = (shape : Shape) × ((shape_of F x.entry.location.rva x.entry.location.size kind ≡ Ok shape)
    × ((k < shape.count) × IsAt k (x.entry.location.rva + shape.first + k * shape.stride) row))

-- its stream has one record
abbrev pub HasOneRecord : List ℕ → Numbered → StreamKind → Type 0
HasOneRecord F x kind = (shape : Shape) → shape_of F x.entry.location.rva x.entry.location.size kind ≡ Ok shape → shape.count ≡ 1

-- behind k records of an entry stands its next one, or other entries
abbrev pub IsNext : {X : Type 0} → List ℕ → ℕ → Numbered → ℕ → List Numbered → StreamKind → (ℕ → ℕ → X → Type 0) → Next X → Option Run → Type 0
IsNext F limit x k xs kind IsAt (nexts.Row row) left = IsRow F x kind IsAt k row × (left ≡ Some (left_from F limit x (k + 1) xs))
IsNext F limit x k xs kind IsAt (nexts.Behind next) left = IsGiven F x k × IsLeftBehind F limit xs next left

abbrev pub next_behind : {X : Type 0} → Next X → Option StreamItem
next_behind (nexts.Row row) = None
next_behind (nexts.Behind next) = next

abbrev pub IsGoingOn : {X : Type 0} → ListerState → Next X → ListerState → Type 0
IsGoingOn old (nexts.Row row) new = IsGoingBehind old new
IsGoingOn old (nexts.Behind next) new = IsGoing old next new

-- the records of the current entry are read in turn; `behind` picks from the result the stream that follows them
pub record ReadsRecords {S A X : Type 0} (behind : X → Option StreamItem) (result : Result X ReadFault) (old new : Reader S A) : Type 0 where
  pub fetches : Fetches result old.lister.source new.lister.source
  pub keeps : KeepsStep [] result old new
  pub reads : ReadsInTurn [] result (steps_left (λ x. steps_of old.lister.source.size (behind x)) result) old.lister new.lister
  pub going : IfOk result (λ x. IsGoing old.lister (behind x) new.lister)

-- ---- what is found

abbrev pub IsToldGoing : {Z : Type 0} → ListerState → Told Z → ListerState → Type 0
IsToldGoing old (tolds.Record r name) new = IsGoingBehind old new
IsToldGoing old (tolds.Behind next) new = IsGoing old next new

-- a record that is found is the first item that was left, where the file is known: its parts ask what the item does
abbrev pub IsFirstLeft : {Z : Type 0} → ListerState → Told Z → Type 0
IsFirstLeft v (tolds.Record r name) = (run : Run) → v.left ≡ Some run → (item : Item) × ((slice_get run.items 0 ≡ Some item) × (item_steps v.source.size item ≡ parts_asked v.source.size r))
IsFirstLeft v (tolds.Behind next) = Unit {0}

-- this record stands at o, record k of the stream of this kind at `at`; the bytes of a 64-bit range stand at `far`
pub record IsRecordIn (kind : StreamKind) (F : List ℕ) (at k o : ℕ) (w : AnyRecord) (far : ℕ) : Type 0 where
  pub fields : w ≡ record_at kind F o
  pub range : kind ≡ Memory64 → far ≡ range_offset F at k

-- the name, or none, stands where a slot says
abbrev pub IsSlotName : List ℕ → Slot → Option (List ℕ) → Type 0
IsSlotName F (slots.Name rva) name = IsName F rva name
IsSlotName F slot name = Unit {0}

-- the first of what is left of an entry is the item of its record k, which was read so, with its name
pub record IsRecordFound (F : List ℕ) (limit : ℕ) (x : Numbered) (k : ℕ) (xs : List Numbered) (kind : StreamKind) (r : RecordRead) (name : Option (List ℕ)) (left : Option Run) : Type 0 where
  pub item : Item
  pub given : RowGiven F limit x k xs kind item
  pub is : IsRecordIn kind F x.entry.location.rva k (x.entry.location.rva + given.shape.first + k * given.shape.stride) r.fields r.offset
  pub named : IsSlotName F (slot_at r.fields 0) name
  pub rest : left ≡ Some (left_from F limit x (k + 1) xs)

-- or all its records were given
abbrev pub IsFoundOrBehind : {Z : Type 0} → List ℕ → ℕ → Numbered → ℕ → List Numbered → StreamKind → Told Z → Option Run → Type 0
IsFoundOrBehind F limit x k xs kind (tolds.Record r name) left = IsRecordFound F limit x k xs kind r name left
IsFoundOrBehind F limit x k xs kind (tolds.Behind next) left = IsGiven F x k × IsLeftBehind F limit xs next left

-- the first refusal where the parts of a record that was found are still to come
abbrev pub refusal_found : {Z : Type 0} → List ℕ → ℕ → Told Z → Option Run → Option ReadFault
refusal_found F left (tolds.Record r name) run = refusal_in F left (parts_asked (length F) r) run
refusal_found F left (tolds.Behind next) run = owed F left next run

-- a name was taken, whose steps are these, or is refused as they say
abbrev pub IsNameTaken : List ReadStep → Name → Result (Option (List ℕ)) ReadFault → Type 0
IsNameTaken steps name (Ok units) = (steps ≡ []) × (name_told name ≡ Some units)
IsNameTaken steps name (Err faults.Memory) = Unit {0}
IsNameTaken steps name (Err fault) = steps ≡ Refuse fault ∷ []

-- an entry was read whole, and what stands behind it, or the first refusal is told
pub record IsEntryRead {S A V : Type 0} (F : List ℕ) (limit : ℕ) (xs : List Numbered) (IsValue : V → Type 0) (refusal : Option ReadFault)
    (result : Result (V × Option StreamItem) ReadFault) (new : Reader S A) : Type 0 where
  pub value : IfOk result (λ r. IsValue r.0 × IsLeftBehind F limit xs r.1 new.lister.left)
  pub settles : Settles refusal result (λ r. owed F new.left r.1 new.lister.left)

-- what is found of an item that was read: a record, whose name was taken, or a Stream item
abbrev pub FindsRead : {Z : Type 0} → ItemRead → Result (Told Z) ReadFault → Type 0
FindsRead (reads.Stream x) result = result ≡ Ok (tolds.Behind (Some x))
FindsRead (reads.Record r name) (Ok (tolds.Record found units)) = (found ≡ r) × IsNameTaken (name_steps r.entry r.index (plain_name name)) (plain_name name) (Ok units)
FindsRead (reads.Record r name) (Ok (tolds.Behind next)) = ⊥
FindsRead (reads.Record r name) (Err fault) = IsNameTaken (name_steps r.entry r.index (plain_name name)) (plain_name name) (Err fault)

-- ---- streams

-- no records are known of streams of this type, which is used
abbrev pub IsRaw : ℕ → Type 0
IsRaw t = IsFalse (t == 0) × (kind_of t ≡ None)

-- the entry names this one stream
abbrev pub IsOneStream : {Z : Type 0} → List ℕ → Entry → Option (Stream Z) → Type 0
IsOneStream {Z} F e stream = (one : Stream Z) × ((stream ≡ Some one) × NamesStream F e one)
