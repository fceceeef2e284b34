-- Which fetch it is that a budget doesn't allow.
use Rattle.std.specs.Prelude.{◌≡◌, ◌≤◌, ◌<◌, ◌+◌, ◌-◌, ◌*◌, ◌/◌, ◌%◌, ℕ, zero, suc, List, Option, Some, None, Result, Ok, Err, IsTrue, max, min, nat_lt, take, slice_get, if◌then◌else◌}
use Rattle.mdmp_source.specs.Count.{raised}
use Rattle.mdmp_source.specs.Range.{IsInside}
use Rattle.mdmp_source.specs.Source.{SourceState}
use Rattle.mdmp_wire.specs.AnyRecord.{name_rva}
use Rattle.mdmp_wire.specs.Header.{header_at}
use Rattle.mdmp_wire.specs.HeaderFault.{header_fault_of}
use Rattle.mdmp_wire.specs.Number.{u32_at}
use Rattle.mdmp_wire.specs.declared.entry.Entry.{Entry}
use Rattle.mdmp_wire.specs.declared.header.Header.{Header}
use Rattle.mdmp_lister.specs.declared.choice.Choice.{Choice}
use Rattle.mdmp_lister.specs.declared.fault.FaultKind.{FaultKind}
use Rattle.mdmp_lister.specs.declared.fault.FaultKind.TheVariants as kind
use Rattle.mdmp_lister.specs.declared.fault.FetchFault.{FetchFault}
use Rattle.mdmp_lister.specs.declared.fault.FetchFault.TheVariants as fetch
use Rattle.mdmp_lister.specs.declared.fault.OpenFault.{OpenFault}
use Rattle.mdmp_lister.specs.declared.fault.OpenFault.TheVariants.{Budget}
use Rattle.mdmp_lister.specs.declared.item.Item.{Item}
use Rattle.mdmp_lister.specs.declared.item.StreamItem.{StreamItem}
use Rattle.mdmp_lister.specs.declared.kind.StreamKind.{StreamKind}
use Rattle.mdmp_lister.specs.declared.limits.Limits.{Limits}
use Rattle.mdmp_lister.specs.declared.shape.Shape.{Shape}
use Rattle.mdmp_lister.specs.declared.step.Step.{Step}
use Rattle.mdmp_lister.specs.Costs.{bad_name_cost, item_cost, step_cost}
use Rattle.mdmp_lister.specs.Following.{Standing, begun, records_given}
use Rattle.mdmp_lister.specs.Format.Directory.{IsDirectory}
use Rattle.mdmp_lister.specs.Format.Item.{record_at}
use Rattle.mdmp_lister.specs.Format.Kind.{form_of, kind_of, record_size}
use Rattle.mdmp_lister.specs.Format.Listing.{is_chosen}
use Rattle.mdmp_lister.specs.Format.Refusal.{directory_refusal}
use Rattle.mdmp_lister.specs.Format.Shape.{FitsIn, head_cost, shape_of}
use Rattle.mdmp_lister.specs.Format.Summary.{summary_of}
use Rattle.mdmp_lister.specs.Meter.{KeepsTo, MeterState, is_passed}
use Rattle.mdmp_lister.specs.Step.{stream_told}
use Rattle.mdmp_lister.specs.StreamHead.{ahead_of, heads_ahead}

-- ---- as a file is opened

-- the header of a file was read: it has no fault, and the directory lies inside
pub record IsHeaderRead (source : SourceState) (header : Header) : Type 0 where
  pub checked : header_fault_of header ≡ None
  pub inside : IsInside header.stream_directory_rva (12 * header.number_of_streams) source.size
  pub of_file : (file : List ℕ) → source.store.content ≡ Some file → (directory_refusal file ≡ None) × (header ≡ header_at file 0)

-- so many bytes of a long directory are fetched by the first fills of a window: the first takes all that the window has room
-- for, and each further one as many as whole entries have room in it
abbrev pub filled : (window fills : ℕ) → ℕ
filled window zero = 0
filled window (suc fills) = window + fills * (12 * (window / 12))

-- these bytes of the directory come next, behind those of some fills: what is left, or what the window takes
pub record IsDirectoryFetch (window : ℕ) (header : Header) (fetched offset size : ℕ) : Type 0 where
  pub fills : ℕ
  pub more : filled window fills < 12 * header.number_of_streams
  -- the header and those fills were fetched
  pub before : fetched ≡ 32 + filled window fills
  pub offset_is : offset ≡ header.stream_directory_rva + filled window fills
  pub size_is : size ≡ min (filled window (suc fills)) (12 * header.number_of_streams) - filled window fills

-- the head of this memory list of the directory comes next, which is chosen, in a file of z bytes
pub record IsHeadFetch (choice : Choice) (z : ℕ) (entries : List Entry) (before fetched offset size : ℕ) : Type 0 where
  pub number : ℕ
  pub entry : Entry
  pub is : slice_get entries number ≡ Some entry
  pub chosen : IsTrue (is_chosen choice entry.stream_type)
  -- so many bytes were fetched before the heads, and then those of the chosen memory lists before it
  pub behind : fetched ≡ before + heads_ahead choice z (take number entries)
  pub offset_is : offset ≡ entry.location.rva
  pub size_is : size ≡ ahead_of z entry

-- the next fetch of an opening that has fetched so many bytes, where the ranges of the lists that this choice has are counted,
-- or no ranges are
pub data IsOpeningFetch (counted : Option Choice) (window : ℕ) (source : SourceState) (fetched offset size : ℕ) : Type 0 where
  of_header : fetched ≡ 0 → offset ≡ 0 → size ≡ 32 → IsOpeningFetch counted window source fetched offset size
  of_directory : (header : Header) → IsHeaderRead source header → IsDirectoryFetch window header fetched offset size → IsOpeningFetch counted window source fetched offset size
  of_head : (header : Header) → IsHeaderRead source header → (entries : List Entry) → ((file : List ℕ) → source.store.content ≡ Some file → IsDirectory file entries)
      → (choice : Choice) → counted ≡ Some choice → IsHeadFetch choice source.size entries (32 + 12 * header.number_of_streams) fetched offset size → IsOpeningFetch counted window source fetched offset size

-- so many bytes were fetched, and with the next fetch they would be more than the budget
pub record ComesToFetch (counted : Option Choice) (limits : Limits) (old : SourceState) (offset size : ℕ) (new : SourceState) : Type 0 where
  pub fetched : ℕ
  pub spent : new.fetched ≡ raised old.fetched fetched
  pub kept : KeepsTo limits.budget fetched
  pub passes : IsTrue (is_passed limits.budget (raised fetched size))
  pub next : IsOpeningFetch counted limits.window old fetched offset size

-- a refusal that tells the budget is of the next fetch
abbrev pub TellsNextOpening : Option Choice → Limits → SourceState → OpenFault → SourceState → Type 0
TellsNextOpening counted limits old (Budget offset size) new = ComesToFetch counted limits old offset size new
TellsNextOpening counted limits old fault new = Unit {0}

-- what the parts of an opening come to: the budget is told of the next fetch of the directory, or the whole of it was fetched
abbrev pub TriesDirectory : ℕ → Header → Result (Unit {0}) FetchFault → MeterState → MeterState → Type 0
TriesDirectory window header (Ok done) old new = new.fetched ≡ raised old.fetched (12 * header.number_of_streams)
TriesDirectory window header (Err (fetch.Budget offset size)) old new = (taken : ℕ) × ((new.fetched ≡ raised old.fetched taken) × IsDirectoryFetch window header (32 + taken) offset size)
TriesDirectory window header (Err (fetch.Source fault)) old new = Unit {0}

-- and it is told of the next head, or just the heads were fetched
abbrev pub TriesHeads : {T : Type 0} → Choice → ℕ → List Entry → Result T FetchFault → MeterState → MeterState → Type 0
TriesHeads choice z entries (Ok x) old new = new.fetched ≡ raised old.fetched (heads_ahead choice z entries)
TriesHeads choice z entries (Err (fetch.Budget offset size)) old new = (taken : ℕ) × ((new.fetched ≡ raised old.fetched taken) × IsHeadFetch choice z entries 0 taken offset size)
TriesHeads choice z entries (Err (fetch.Source fault)) old new = Unit {0}

-- ---- as it is listed

-- what a window with this room takes next of a stretch up to `end`, of which so many bytes are unread, where the `wanted` bytes
-- at `at` are not all held: those behind what it holds from there on, as many as it has room for
pub record IsWindowFetch (room end unread at wanted offset size : ℕ) : Type 0 where
  pub offset_is : offset ≡ max at (end - unread)
  pub size_is : size ≡ min (room - (offset - at)) (end - offset)
  pub lacks : offset < at + wanted

-- how many bytes it takes then: none where all that is wanted is held
abbrev pub window_takes : (room end unread at wanted : ℕ) → ℕ
window_takes room end unread at wanted =
    let offset = max at (end - unread) in
    if nat_lt offset (at + wanted) then min (room - (offset - at)) (end - offset) else 0

-- and how many bytes of the stretch are unread then: none before `at`, and none that it took
abbrev pub window_leaves : (room end unread at wanted : ℕ) → ℕ
window_leaves room end unread at wanted = min unread (end - at) - window_takes room end unread at wanted

-- the length of the name at this RVA comes next, in a file of z bytes, where `before` bytes were fetched before the name; or,
-- once its length was fetched, its units, of no more bytes than the limit
pub data IsNameFetch (content : Option (List ℕ)) (z limit rva before fetched offset size : ℕ) : Type 0 where
  of_length : 0 < rva → IsInside rva 4 z → fetched ≡ before → offset ≡ rva → size ≡ 4 → IsNameFetch content z limit rva before fetched offset size
  of_units : 0 < rva → IsInside (rva + 4) size z → fetched ≡ raised before 4 → offset ≡ rva + 4 → size % 2 ≡ 0 → size ≤ limit
      → ((file : List ℕ) → content ≡ Some file → u32_at file rva ≡ size) → IsNameFetch content z limit rva before fetched offset size

-- the record of this kind at `at` has its name at this RVA
abbrev pub IsNamedAt : Option (List ℕ) → StreamKind → ℕ → ℕ → Type 0
IsNamedAt content kind at rva = (file : List ℕ) → content ≡ Some file → name_rva (record_at kind file at) ≡ Some rva

-- where a listing stands as its next item is asked for
pub record Standpoint : Type 0 where
  -- the file, where it is known, and its size
  pub content : Option (List ℕ)
  pub size : ℕ
  -- what the window has room for, and the limit on names
  pub room : ℕ
  pub limit : ℕ
  -- the current entry, how far it was given, and how many bytes of its stream are unread
  pub entry : Entry
  pub standing : Standing
  pub unread : ℕ
  -- the bytes fetched so far
  pub fetched : ℕ

-- the next record of the current entry is of this kind and stands at `at`, as the head of its stream says
pub record IsNextRecord (s : Standpoint) (kind : StreamKind) (at : ℕ) : Type 0 where
  pub shape : Shape
  pub kind_is : kind_of s.entry.stream_type ≡ Some kind
  pub fits : FitsIn s.entry.location.size kind shape
  pub left : records_given s.standing < shape.count
  pub of_file : (file : List ℕ) → s.content ≡ Some file → shape_of file s.entry.location.rva s.entry.location.size kind ≡ Ok shape
  pub at_is : at ≡ s.entry.location.rva + shape.first + records_given s.standing * shape.stride

-- a window that slides over the current entry's stream takes this next, where so many of its bytes are unread
abbrev pub IsStreamFetch : Standpoint → (unread at wanted offset size : ℕ) → Type 0
IsStreamFetch s unread at wanted offset size = IsWindowFetch s.room (s.entry.location.rva + s.entry.location.size) unread at wanted offset size

-- and so many bytes
abbrev pub stream_takes : Standpoint → (unread at wanted : ℕ) → ℕ
stream_takes s unread at wanted = window_takes s.room (s.entry.location.rva + s.entry.location.size) unread at wanted

-- so many, where the head of an entry's stream is not read
abbrev pub while_begun : Standing → ℕ → ℕ
while_begun begun n = n
while_begun standing n = 0

-- the bytes that are fetched for the head, which are no longer unread then
abbrev pub head_takes : Standpoint → StreamKind → ℕ
head_takes s kind = while_begun s.standing (stream_takes s s.unread s.entry.location.rva (head_cost (form_of kind)))

-- and for a record at `at` behind it
abbrev pub record_takes : Standpoint → StreamKind → ℕ → ℕ
record_takes s kind at = stream_takes s (s.unread - head_takes s kind) at (record_size kind)

-- so many bytes of the stream are unread behind that record
abbrev pub record_leaves : Standpoint → StreamKind → ℕ → ℕ
record_leaves s kind at = window_leaves s.room (s.entry.location.rva + s.entry.location.size) (s.unread - head_takes s kind) at (record_size kind)

-- the fetch that comes next where so many bytes were fetched: of the head of the current entry's stream, of its next record, or
-- of that record's name
pub data IsNextFetch (s : Standpoint) (fetched offset size : ℕ) : Type 0 where
  of_head : s.standing ≡ begun → (kind : StreamKind) → kind_of s.entry.stream_type ≡ Some kind → fetched ≡ s.fetched
      → IsStreamFetch s s.unread s.entry.location.rva (head_cost (form_of kind)) offset size → IsNextFetch s fetched offset size
  of_record : (kind : StreamKind) (at : ℕ) → IsNextRecord s kind at → fetched ≡ raised s.fetched (head_takes s kind)
      → IsStreamFetch s (s.unread - head_takes s kind) at (record_size kind) offset size → IsNextFetch s fetched offset size
  of_name : (kind : StreamKind) (at rva before : ℕ) → IsNextRecord s kind at → IsNamedAt s.content kind at rva → before ≡ raised s.fetched (head_takes s kind + record_takes s kind at)
      → IsNameFetch s.content s.size s.limit rva before fetched offset size → IsNextFetch s fetched offset size

-- ---- what was fetched for an answer

-- the next record of the current entry was read, and so many bytes of its name: those were fetched, and what the window took of
-- the entry's stream, and nothing else
pub record IsRecordPaid (s : Standpoint) (named fetched : ℕ) : Type 0 where
  pub kind : StreamKind
  pub at : ℕ
  pub record_is : IsNextRecord s kind at
  pub fetched_is : fetched ≡ raised s.fetched (head_takes s kind + record_takes s kind at + named)

-- and it was given, so that just those bytes of the entry's stream are unread which the window left
pub record IsRecordPassed (s : Standpoint) (named fetched unread : ℕ) : Type 0 where
  pub paid : IsRecordPaid s named fetched
  pub unread_is : unread ≡ record_leaves s paid.kind paid.at

-- no record of the current entry is left: just what the window took for the head of its stream was fetched, where that was not
-- read yet
abbrev pub head_left : Standpoint → Option StreamKind → ℕ
head_left s (Some kind) = head_takes s kind
head_left s None = 0

abbrev pub IsThroughPaid : Standpoint → ℕ → Type 0
IsThroughPaid s fetched = fetched ≡ raised s.fetched (head_left s (kind_of s.entry.stream_type))

-- so for an item, which begins this stream or is a record with so many bytes of its name
abbrev pub IsItemPaid : Standpoint → Option StreamItem → (named fetched unread : ℕ) → Type 0
IsItemPaid s (Some x) named fetched unread = IsThroughPaid s fetched
IsItemPaid s None named fetched unread = IsRecordPassed s named fetched unread

-- for an item or the end
abbrev pub IsGivenPaid : Standpoint → Option Item → (fetched unread : ℕ) → Type 0
IsGivenPaid s None fetched unread = IsThroughPaid s fetched
IsGivenPaid s (Some item) fetched unread = IsItemPaid s (summary_of item).stream (item_cost item) fetched unread

-- the same of an item whose name stands in a buffer
abbrev pub IsStepPaid : Standpoint → Option Step → (fetched unread : ℕ) → Type 0
IsStepPaid s None fetched unread = IsThroughPaid s fetched
IsStepPaid s (Some step) fetched unread = IsItemPaid s (stream_told step) (step_cost step) fetched unread

-- where a fault stands in the place of all records, nothing was fetched, or what the window took for the head
pub data IsHeadPaid (s : Standpoint) (fetched : ℕ) : Type 0 where
  nothing_taken : fetched ≡ s.fetched → IsHeadPaid s fetched
  head_taken : (kind : StreamKind) → kind_of s.entry.stream_type ≡ Some kind → fetched ≡ raised s.fetched (head_takes s kind) → IsHeadPaid s fetched

-- and for a fault: one that tells the budget is of the next fetch, one of a name stands in the place of a record, and another
-- one of the file in that of all records of the entry
abbrev pub TellsNextFetch : Standpoint → FaultKind → (offset size fetched : ℕ) → Type 0
TellsNextFetch s kind.Budget offset size fetched = IsNextFetch s fetched offset size
TellsNextFetch s (kind.Source fault) offset size fetched = Unit {0}
TellsNextFetch s kind.NameLengthOutside offset size fetched = IsRecordPaid s (bad_name_cost s.limit kind.NameLengthOutside) fetched
TellsNextFetch s kind.NameOdd offset size fetched = IsRecordPaid s (bad_name_cost s.limit kind.NameOdd) fetched
TellsNextFetch s kind.NameUnitsOutside offset size fetched = IsRecordPaid s (bad_name_cost s.limit kind.NameUnitsOutside) fetched
TellsNextFetch s kind offset size fetched = IsHeadPaid s fetched

-- or, of a listing that came further in its current entry, of a fetch that came next there: it was given so far then, so many bytes
-- of its stream were unread, and so many had been fetched
abbrev pub TellsSomeFetch : Standpoint → FaultKind → (offset size fetched : ℕ) → Type 0
TellsSomeFetch s kind offset size fetched = (standing : Standing) × (unread : ℕ) × (before : ℕ)
    × TellsNextFetch (record s { standing = standing; unread = unread; fetched = before }) kind offset size fetched
