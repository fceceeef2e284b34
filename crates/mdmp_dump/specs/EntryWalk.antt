-- A walk over the chosen entries of a file, a record at a time, which reads no name.
use Rattle.std.specs.Prelude.{◌≡◌, ◌≤◌, ◌<◌, ◌+◌, ◌*◌, ◌^◌, ℕ, List, [], ◌∷◌, length, get_or, Option, Some, None, Result, Ok, Err, false, true, ◌==◌, if◌then◌else◌, IfErr, IfOk, IsOk, MatchResult}
use Rattle.mdmp_source.specs.Count.{raised}
use Rattle.mdmp_source.specs.Source.{SourceState, FetchesSome, IsTold}
use Rattle.mdmp_source.specs.Store.{IsGood}
use Rattle.mdmp_source.specs.declared.fault.SourceFault.{SourceFault}
use Rattle.mdmp_wire.specs.declared.entry.Entry.{Entry}
use Rattle.mdmp_wire.specs.declared.header.Header.{Header}
use Rattle.mdmp_wire.specs.Header.{header_at}
use Rattle.mdmp_lister.specs.declared.choice.Choice.{Choice}
use Rattle.mdmp_lister.specs.declared.fault.Fault.{Fault}
use Rattle.mdmp_lister.specs.declared.fault.ListFault.{ListFault}
use Rattle.mdmp_lister.specs.declared.item.Item.{Item}
use Rattle.mdmp_lister.specs.declared.kind.StreamKind.{StreamKind}
use Rattle.mdmp_lister.specs.declared.shape.Shape.{Shape}
use Rattle.mdmp_lister.specs.Fault.{TellsNoChange}
use Rattle.mdmp_lister.specs.Following.{IsBegun, Standing, records_by}
use Rattle.mdmp_lister.specs.Format.Item.{item_at}
use Rattle.mdmp_lister.specs.Format.Kind.{has_names, is_known, kind_of}
use Rattle.mdmp_lister.specs.Format.Listing.{Numbered, chosen, list_fault, records_told}
use Rattle.mdmp_lister.specs.Format.Numbers.{is_listed}
use Rattle.mdmp_lister.specs.Format.Shape.{record_count, shape_of}
use Rattle.mdmp_dump.specs.declared.fault.ReadFault.{ReadFault}
use Rattle.mdmp_dump.specs.declared.fault.ReadFault.TheVariants as faults
use Rattle.mdmp_dump.specs.declared.found_record.FoundRecord.{FoundRecord}
use Rattle.mdmp_dump.specs.declared.found_record.PartAt.{PartAt}
use Rattle.mdmp_dump.specs.declared.view.PartSize.TheVariants.{NoPart, Size}
use Rattle.mdmp_dump.specs.declared.view.PartSize.{PartSize}
use Rattle.mdmp_dump.specs.declared.view.Kind.{Kind}
use Rattle.mdmp_dump.specs.declared.view.Kind.TheVariants as kinds
use Rattle.mdmp_dump.specs.FileRefusal.{IsOfWalk, IsUnbudgeted, first_told}
use Rattle.mdmp_dump.specs.Finding.{IsSeenAt, seen_in}
use Rattle.mdmp_dump.specs.FoundRecord.{AreIn, fields_of}
use Rattle.mdmp_dump.specs.Placed.{far_room, fields_bytes, fields_room}
use Rattle.mdmp_dump.specs.Reading.{Fetches, IsOwn, store_fault, store_fault_in}
use Rattle.mdmp_dump.specs.Refusal.{item_steps}
use Rattle.mdmp_dump.specs.Seen.{Seen}
use Rattle.mdmp_dump.specs.Shape.{type_told}

-- ---- streams, by their type

-- what a stream of this type is
abbrev pub kind_by : ℕ → Kind
kind_by t = if t == 0 then kinds.Unused else (if is_known t then kinds.Known t else kinds.Raw t)

-- what the name of a record of this kind costs, where such records have names: the 4 bytes of its length
abbrev pub name_cost_by : Option StreamKind → ℕ
name_cost_by (Some kind) = if has_names kind then 4 else 0
name_cost_by None = 0

-- the same of a stream of this type
abbrev pub name_cost : ℕ → ℕ
name_cost t = name_cost_by (kind_of t)

-- the bytes of a stream that are passed over
abbrev pub listed : Entry → ℕ
listed e = if is_known e.stream_type then e.location.size else 0

-- a stream lies inside a file of z bytes, if its records are known
abbrev pub LiesInside : ℕ → Entry → Type 0
LiesInside z e = is_known e.stream_type ≡ true → is_listed z e ≡ true

-- what a pass over a stream of so many records costs
abbrev pub pass_cost : Entry → ℕ → ℕ
pass_cost e count = listed e + count * name_cost e.stream_type

-- ---- the walk

-- some entries with their numbers, of which the first is this one
unfoldable pub numbered : ℕ → List Entry → List Numbered
numbered i [] = []
numbered i (e ∷ es) = record { number = i; entry = e } ∷ numbered (i + 1) es

abbrev pub no_entry : Numbered
no_entry = record { number = 0; entry = record { stream_type = 0; location = record { size = 0; rva = 0 } } }

pub record WalkState : Type 0 where
  -- the file is the source's content, where that is known
  pub source : SourceState
  pub header : Header
  pub choice : Choice
  -- the entries that the choice has, as the directory was read
  pub chosen : List Numbered
  -- the bytes that its lists take
  pub held : ℕ
  -- what the source's own count of bytes was when it was opened
  pub start : ℕ
  -- the bytes fetched for the walk and aside, and the names that it reached
  pub fetched : ℕ
  pub aside : ℕ
  pub names : ℕ
  -- the most bytes that may have been fetched for the walk once its entry is passed over, with the lengths of the names reached
  pub allowed : ℕ
  -- the entry that was begun last, and how many records of its stream are left
  pub current : Numbered
  pub left : ℕ
  -- the fault of the store with which the walk ended for good
  pub failed : Option SourceFault

-- the entry of a stream
abbrev pub chosen_entry : WalkState → ℕ → Numbered
chosen_entry w k = get_or w.chosen k no_entry

-- what stays
pub record IsSameWalk (old new : WalkState) : Type 0 where
  pub header : new.header ≡ old.header
  pub choice : new.choice ≡ old.choice
  pub chosen : new.chosen ≡ old.chosen
  pub held : new.held ≡ old.held
  pub start : new.start ≡ old.start
  pub fetches : FetchesSome old.source new.source

-- what may have been fetched for the walk rises by at most so many bytes, and so many for the lengths of names
pub record Pays (bytes names : ℕ) (old new : WalkState) : Type 0 where
  pub same : IsSameWalk old new
  pub aside : new.aside ≡ old.aside
  pub allowed : new.names + 1 < 2 ^ 128 → new.allowed ≤ old.allowed + bytes + names
  pub reached : 4 * new.names ≤ 4 * old.names + names
  pub more : old.names ≤ new.names

-- it was opened over a source, and has given nothing
pub record IsOpenedWalk (source : SourceState) (window : ℕ) (choice : Choice) (w : WalkState) : Type 0 where
  pub fetches : FetchesSome source w.source
  pub choice_is : w.choice ≡ choice
  pub few : length w.chosen ≤ w.header.number_of_streams
  pub held : w.held ≡ window + 12 * w.header.number_of_streams
  pub start : w.start ≡ source.fetched
  pub allowed : w.allowed ≤ 32 + 12 * w.header.number_of_streams
  pub aside : w.aside ≡ 0
  pub names : w.names ≡ 0
  pub failed : w.failed ≡ None
  pub header_is : (file : List ℕ) → source.store.content ≡ Some file → w.header ≡ header_at file 0
  pub chosen_are : (file : List ℕ) → source.store.content ≡ Some file → w.chosen ≡ chosen file choice

-- ---- a stream is begun

-- how many records its entry has, or the fault in their place, unless the store is wanting
abbrev pub IsCountOf : List ℕ → Numbered → Result ℕ ReadFault → Type 0
IsCountOf F x (Ok count) = record_count F x.entry ≡ Ok count
IsCountOf F x (Err fault) = (IsOwn fault → ⊥) → (told : ListFault) × ((records_told F x ≡ Err told) × (fault ≡ faults.List told))

-- the fault of the store with which the walk ends for good, where this is answered
abbrev pub ended_by : {T : Type 0} → Result T ReadFault → Option SourceFault
ended_by (Err (faults.List fault)) = store_fault_in fault.kind
ended_by result = None

-- an entry of a file of z bytes may have so many records, whatever these are: as many as what is read of its head counts
abbrev pub MayCount : ℕ → Entry → ℕ → Type 0
MayCount z e count = (standing : Standing) × (IsBegun z e (Ok standing) × (count ≡ records_by standing))

pub record Begins (old : WalkState) (stream : ℕ) (result : Result ℕ ReadFault) (new : WalkState) : Type 0 where
  pub pays : Pays (listed (chosen_entry old stream).entry) 0 old new
  -- of a stream that lies outside the file nothing is fetched
  pub unlisted : is_listed old.source.size (chosen_entry old stream).entry ≡ false → Pays 0 0 old new
  pub begun : IfOk result (λ count. (new.current ≡ chosen_entry old stream) × (new.left ≡ count) × (count < 2 ^ 32))
  pub of_file : (file : List ℕ) → old.source.store.content ≡ Some file → IsCountOf file (chosen_entry old stream) result
  pub counts : IfOk result (MayCount old.source.size (chosen_entry old stream).entry)
  pub fetches : old.failed ≡ None → Fetches result old.source new.source
  -- each fault is one of the listing, none of a budget, and not that the file has changed
  pub told : IfErr result (λ fault. (told : ListFault) × ((fault ≡ faults.List told) × IsUnbudgeted told.kind × TellsNoChange told.kind))
  pub failed : new.failed ≡ ended_by result
  -- a walk that has ended is answered so again
  pub repeats : (fault : SourceFault) → old.failed ≡ Some fault → (new ≡ old) × MatchResult result (λ count. ⊥) (λ told. store_fault told ≡ Some fault)

-- ---- a record is given

-- a record of a stream of this type, in a file of `size` bytes
pub record IsFoundIn (size t : ℕ) (f : FoundRecord) : Type 0 where
  pub kind_is : kind_by t ≡ kinds.Known (type_told f.wire)
  pub inside : AreIn size f.parts
  pub bytes : fields_bytes (fields_of f) ≤ fields_room (fields_of f) + far_room (fields_of f)

-- why a record is refused whose item is this one, or whose name has this fault
abbrev pub row_told : List ℕ → ℕ → ℕ → Result Item Fault → Option ReadFault
row_told F e k (Ok item) = first_told (item_steps (length F) item) None
row_told F e k (Err fault) = Some (faults.List (list_fault e (Some k) fault))

-- it is found as it stands, and not refused; or the reason why it is refused is told
abbrev pub IsRowFound : List ℕ → ℕ → ℕ → Result Item Fault → Seen → Result FoundRecord ReadFault → Type 0
IsRowFound F e k item seen (Ok f) = (row_told F e k item ≡ None) × IsSeenAt F seen f
IsRowFound F e k item seen (Err fault) = (IsOwn fault → ⊥) → row_told F e k item ≡ Some fault

-- the record with this index of the stream of an entry, whose name may have at most `limit` bytes
pub record FindsRow (F : List ℕ) (limit : ℕ) (x : Numbered) (k : ℕ) (result : Result FoundRecord ReadFault) : Type 0 where
  pub kind : StreamKind
  pub shape : Shape
  pub kind_is : kind_of x.entry.stream_type ≡ Some kind
  pub shape_is : shape_of F x.entry.location.rva x.entry.location.size kind ≡ Ok shape
  pub within : k < shape.count
  pub finds : IsRowFound F x.number k (item_at F limit x.number k x.entry.location.rva (x.entry.location.rva + shape.first + k * shape.stride) kind)
      (seen_in kind F x.entry.location.rva k (x.entry.location.rva + shape.first + k * shape.stride)) result

-- the next of the records that are left
abbrev pub FindsNext : List ℕ → ℕ → WalkState → Result FoundRecord ReadFault → Type 0
FindsNext F limit w result = (k : ℕ) × ((record_count F w.current.entry ≡ Ok (k + w.left)) × FindsRow F limit w.current k result)

pub record GivesNext (old : WalkState) (limit : ℕ) (result : Result FoundRecord ReadFault) (new : WalkState) : Type 0 where
  pub pays : Pays 0 (name_cost old.current.entry.stream_type) old new
  pub goes : IfOk result (λ f. (new.current ≡ old.current) × (old.left ≡ new.left + 1))
  pub found : IfOk result (IsFoundIn old.source.size old.current.entry.stream_type)
  pub of_file : (file : List ℕ) → old.source.store.content ≡ Some file → FindsNext file limit old result
  -- a fault is one of the listing or of the record
  pub told : IfErr result IsOfWalk
  -- and not for want of memory
  pub able : (file : List ℕ) → old.source.store.content ≡ Some file → IfErr result (λ fault. fault ≡ faults.Memory → ⊥)
  pub fetches : Fetches result old.source new.source
  pub failed : new.failed ≡ ended_by result

-- its name and parts take nothing
pub record TakesNothing (f : FoundRecord) : Type 0 where
  pub room : fields_room (fields_of f) ≡ 0
  pub far : far_room (fields_of f) ≡ 0
  pub bytes : fields_bytes (fields_of f) ≡ 0

-- what is left of a record that is dropped
abbrev pub dropped : Result FoundRecord ReadFault → Result (Unit {0}) ReadFault
dropped (Ok f) = Ok tt
dropped (Err fault) = Err fault

-- the next record, without a name and parts, was given and dropped
pub record PassesNext (old : WalkState) (result : Result (Unit {0}) ReadFault) (new : WalkState) : Type 0 where
  pub given : Result FoundRecord ReadFault
  pub passed : result ≡ dropped given
  pub gives : (limit : ℕ) → GivesNext old limit given new
  pub nothing : IfOk given TakesNothing

-- ---- bytes beside the walk

-- at most so many bytes were read beside the walk, by one call of the source's `fetch`
pub record WalkReadsAside (count : ℕ) (old : WalkState) (result : Result (Unit {0}) SourceFault) (new : WalkState) : Type 0 where
  pub same : new ≡ record old { source = new.source; aside = new.aside }
  pub aside : new.aside ≤ old.aside + count
  pub calls : new.source.calls ≤ raised old.source.calls 1
  pub fetches : FetchesSome old.source new.source
  pub told : IfErr result (λ fault. IsTold fault old.source new.source)
  pub good : (file : List ℕ) → IsGood old.source.store file → IsOk result

-- ---- parts

-- the raw bytes of a stream, as a part
abbrev pub raw_size : Kind → ℕ → PartSize
raw_size (kinds.Raw t) size = Size size
raw_size kind size = NoPart

-- an entry's stream is begun: its raw bytes can be asked for
abbrev pub raw_part : Entry → PartAt
raw_part e = record { size = raw_size (kind_by e.stream_type) e.location.size; at = e.location.rva }
