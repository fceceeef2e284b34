-- What is left of a walk.
pub mod Checking
pub mod Mapping
pub mod Owing
pub mod Paying
pub mod Positions
pub mod Reaching
pub mod Requests
pub mod Telling
use Rattle.std.specs.Prelude.{◌≡◌, ◌≤◌, ◌<◌, ◌+◌, ◌-◌, ◌*◌, ◌^◌, ℕ, List, [], Option, None, Some, true, Result, Ok, Err, IfOk, vec_capacity, vec_len, max}
use Rattle.mdmp_source.specs.Count.{raised}
use Rattle.mdmp_source.specs.Range.{IsInside}
use Rattle.mdmp_source.specs.Source.{SourceState, FetchesAtMost}
use Rattle.mdmp_source.specs.Store.{IsGood, IsSizeOf}
use Rattle.mdmp_source.specs.Window.{WindowState}
use Rattle.mdmp_wire.specs.declared.entry.Entry.{Entry}
use Rattle.mdmp_wire.specs.Header.{header_at}
use Rattle.mdmp_wire.specs.HeaderFault.{header_fault_of}
use Rattle.mdmp_lister.specs.declared.choice.Choice.{Choice}
use Rattle.mdmp_lister.specs.declared.fault.ListFault.{ListFault}
use Rattle.mdmp_lister.specs.declared.kind.StreamKind.{StreamKind}
use Rattle.mdmp_lister.specs.declared.kind.StreamKind.TheVariants.{Memory64}
use Rattle.mdmp_lister.specs.declared.limits.Limits.{Limits}
use Rattle.mdmp_lister.specs.declared.shape.Shape.{Shape}
use Rattle.mdmp_lister.specs.declared.step.Step.{Step}
use Rattle.mdmp_lister.specs.declared.stage.Stage.{Stage}
use Rattle.mdmp_lister.specs.declared.stage.Stage.TheVariants.{Between, Head, Records, Bad, Failed, Ended}
use Rattle.mdmp_lister.specs.declared.walk.Walk.{Walk}
use Rattle.mdmp_lister.specs.Format.Bounds.{held_bound}
use Rattle.mdmp_lister.specs.Format.Numbers.{range_count}
use Rattle.mdmp_lister.specs.Format.Directory.{IsDirectory}
use Rattle.mdmp_lister.specs.StreamHead.{heads_ahead}
use Rattle.mdmp_lister.specs.Holding.{IsHeldOf, fills_of}
use Rattle.mdmp_lister.specs.Format.Item.{range_offset}
use Rattle.mdmp_lister.specs.Format.Listing.{Run, nothing, only_fault, with_item, joined, items_from, entry_body, listing_from}
use Rattle.mdmp_lister.specs.Listed.{AreListed}
use Rattle.mdmp_lister.specs.Memory.{is_within}
use Rattle.mdmp_lister.specs.NextFetch.{TriesHeads}
use Rattle.mdmp_lister.specs.Meter.{Books, TellsBudget, store_fault_of}
use Rattle.mdmp_lister.specs.declared.fault.FetchFault.{FetchFault}
use Rattle.mdmp_lister.specs.Format.Refusal.{directory_refusal}
use Rattle.mdmp_lister.specs.Fault.{IsCaused, IsUnobtained, IsSteady}
use Rattle.mdmp_lister.specs.Following.{Cursor}
use Rattle.mdmp_lister.specs.Format.Shape.{FitsIn, shape_of}
use Rattle.mdmp_lister.specs.Format.Kind.{greatest_record, kind_of}
use Rattle.mdmp_lister.specs.Stage.{IsNoStoreFault, IsOverAt, fault_stage, records_left_in, standing_of}
use Rattle.mdmp_lister.specs.Step.{passed_by, step_item}

-- what is left of an entry with this number
abbrev pub left_of_entry : List ℕ → ℕ → ℕ → Entry → Stage → Run
left_of_entry F limit number e Between = nothing
left_of_entry F limit number e Ended = nothing
left_of_entry F limit number e Head = entry_body F limit (record { number = number; entry = e })
left_of_entry F limit number e (Records kind shape index offset) = items_from F limit number e.location.rva kind shape (shape.count - index) index
left_of_entry F limit number e (Bad f) = only_fault f
left_of_entry F limit number e (Failed f) = only_fault f

-- the records of an entry are read from `index` on, in a file of `size` bytes
pub record IsReading (size next : ℕ) (e : Entry) (kind : StreamKind) (shape : Shape) (index offset : ℕ) : Type 0 where
  pub begun : 0 < next
  pub known : kind_of e.stream_type ≡ Some kind
  pub within : index ≤ shape.count
  pub inside : IsInside e.location.rva e.location.size size
  pub fits : FitsIn e.location.size kind shape
  pub ranges : kind ≡ Memory64 → (shape.first ≡ 16) × (shape.stride ≡ 16)
  pub bound : offset < 2 ^ 64 * (index + 1)
  pub few : shape.count < 2 ^ 32

-- what is kept of an entry that is partly listed
abbrev pub IsStaged : ℕ → ℕ → Entry → Stage → Type 0
IsStaged size next e Between = Unit {0}
IsStaged size next e Ended = Unit {0}
IsStaged size next e Head = 0 < next
IsStaged size next e (Records kind shape index offset) = IsReading size next e kind shape index offset
IsStaged size next e (Bad f) = (0 < next) × (IsUnobtained f.kind → ⊥)
IsStaged size next e (Failed f) = IsUnobtained f.kind

-- where the head of the stream says that the records stand, and the bytes of the next range of a 64-bit memory list
abbrev pub IsHeaded : List ℕ → Entry → Stage → Type 0
IsHeaded F e (Records kind shape index offset) =
    (shape_of F e.location.rva e.location.size kind ≡ Ok shape) × (kind ≡ Memory64 → offset ≡ range_offset F e.location.rva index)
IsHeaded F e stage = Unit {0}

-- a window over the stream of an entry holds bytes of the file, and has not passed the record of this number
pub record IsHolding (content : Option (List ℕ)) (e : Entry) (shape : Shape) (index : ℕ) (w : WindowState) : Type 0 where
  pub held : IsHeldOf content w
  pub end : w.end ≡ e.location.rva + e.location.size
  pub place : w.place ≤ e.location.rva + shape.first + index * shape.stride

-- what the window holds counts where records are read
abbrev pub IsWindowed : Option (List ℕ) → Entry → WindowState → Stage → Type 0
IsWindowed content e w (Records kind shape index offset) = IsHolding content e shape index w
IsWindowed content e w stage = Unit {0}

abbrev pub stage_work : Stage → ℕ
stage_work Head = 2 ^ 32
stage_work (Records kind shape index offset) = shape.count - index
stage_work stage = 0

module _ {S A : Type 0} where
  -- the bytes that all lists of a walk have room for, beside a map of so many ranges. Each part of a walk is named here, so
  -- that no list is left out.
  abbrev pub held_beside : ℕ → Walk S A → ℕ
  held_beside ranges = λ record { meter = _; header = _; entries = entries; choice = _; listed = _; window = window; name = name; next = _; current = _; stage = _ }.
      held_bound window.room name.limit (vec_capacity entries) ranges

  -- how many calls may still give an item, at most
  abbrev pub work_of : Walk S A → ℕ
  work_of w = (vec_len w.entries - w.next) * 2 ^ 33 + stage_work w.stage

  pub record IsSound (w : Walk S A) : Type 0 where
    pub sized : IsSizeOf w.meter.source.store.content w.meter.source.size
    pub window : greatest_record ≤ w.window.room
    pub small : w.name.limit < 2 ^ 32
    pub few : vec_len w.entries < 2 ^ 32
    -- the whole directory was read
    pub whole : vec_len w.entries ≡ w.header.number_of_streams
    pub listed : AreListed w.listed w.choice w.meter.source.size w.entries.items
    pub placed : w.next ≤ vec_len w.entries
    pub staged : IsStaged w.meter.source.size w.next w.current w.stage
    pub holding : IsWindowed w.meter.source.store.content w.current w.window w.stage
    pub headed : (file : List ℕ) → w.meter.source.store.content ≡ Some file → IsHeaded file w.current w.stage
    pub ended : w.stage ≡ Ended → w.next ≡ vec_len w.entries
    pub directory : (file : List ℕ) → w.meter.source.store.content ≡ Some file → IsDirectory file w.entries.items
    pub header_is : (file : List ℕ) → w.meter.source.store.content ≡ Some file → w.header ≡ header_at file 0
    pub unfailed : (file : List ℕ) → IsGood w.meter.source.store file → IsNoStoreFault w.stage
    -- a fault of the budget that stays for good is of a fetch that was not made, of no more than the window or a name may have
    pub refused : IsOverAt (max w.window.room w.name.limit) w.stage w.meter
    -- no less was fetched than the header and the directory
    pub opened : 32 + 12 * vec_len w.entries ≤ w.meter.fetched

  -- no list is longer or shorter, and what was read of the file's head stays
  pub record SameRoom (old new : Walk S A) : Type 0 where
    pub header_is : new.header ≡ old.header
    pub entries : new.entries ≡ old.entries
    pub choice : new.choice ≡ old.choice
    pub listed : new.listed ≡ old.listed
    pub window : new.window.room ≡ old.window.room
    pub name : new.name.limit ≡ old.name.limit

  -- nor is another entry the current one
  pub record SameEntry (old new : Walk S A) : Type 0 where
    pub room : SameRoom old new
    pub next : new.next ≡ old.next
    pub current : new.current ≡ old.current

  -- what the opening of a walk over a source fetched and counted: its header and its directory
  pub record NewWalkSpends (source : SourceState) (w : Walk S A) : Type 0 where
    pub fetches : FetchesAtMost (32 + 12 * w.header.number_of_streams) source w.meter.source
    pub calls : w.meter.source.calls ≤ raised source.calls (1 + w.header.number_of_streams)
    pub steady : IsSteady source w.meter.source
    pub asked : w.meter.asked ≤ 32 + 12 * w.header.number_of_streams
    pub fetched : w.meter.fetched ≡ 32 + 12 * w.header.number_of_streams
    pub called : w.meter.calls ≤ 1 + fills_of (12 * w.header.number_of_streams) (w.window.room - 11)
    pub names : w.meter.names ≡ 0
    pub aside : w.meter.aside ≡ record { bytes = 0; calls = 0 }
    pub start : w.meter.start ≡ record { bytes = source.fetched; calls = source.calls }

  -- the file has a header of a minidump, and its directory lies inside
  pub record NewWalkReads (source : SourceState) (w : Walk S A) : Type 0 where
    pub long : 32 ≤ source.size
    pub checked : header_fault_of w.header ≡ None
    pub placed : IsInside w.header.stream_directory_rva (12 * w.header.number_of_streams) source.size
    pub inside : 12 * w.header.number_of_streams ≤ source.size
    pub entries : vec_len w.entries ≡ w.header.number_of_streams
    pub room : vec_capacity w.entries ≡ w.header.number_of_streams
    -- neither the header nor the place of the directory is at fault
    pub opens : (file : List ℕ) → source.store.content ≡ Some file → directory_refusal file ≡ None

  -- a walk that was opened over a source as was asked for, and has given nothing
  pub record IsNewWalk (source : SourceState) (choice : Choice) (limits : Limits) (w : Walk S A) : Type 0 where
    pub spends : NewWalkSpends source w
    pub reads : NewWalkReads source w
    pub choice_is : w.choice ≡ choice
    pub budget : w.meter.budget ≡ limits.budget
    pub window : w.window.room ≡ limits.window
    pub name : w.name.limit ≡ limits.name
    -- no memory of the name's buffer was touched
    pub unnamed : w.name.items ≡ []
    pub next : w.next ≡ 0
    pub stage : w.stage ≡ Between
    -- its lists without a map are within the limit of memory
    pub memory : is_within limits.memory (held_bound limits.window limits.name w.header.number_of_streams 0) ≡ true
    -- no entry was begun
    pub current_is : w.current.stream_type ≡ 0
    pub sound : IsSound w

  -- the ranges of the chosen memory lists were counted, by their heads
  pub record CountsRanges (old : Walk S A) (result : Result ℕ FetchFault) (new : Walk S A) : Type 0 where
    pub sound : IsSound new
    pub same : SameEntry old new
    pub stage : new.stage ≡ old.stage
    pub count : (file : List ℕ) → old.meter.source.store.content ≡ Some file → IfOk result (λ count. count ≡ range_count file old.choice)
    pub books : Books (vec_len old.entries) (heads_ahead old.choice old.meter.source.size old.entries.items) old.meter new.meter
    pub caused : IsCaused (store_fault_of result) old.meter.source new.meter.source
    pub refused : TellsBudget 16 result new.meter
    pub tries : TriesHeads old.choice old.meter.source.size old.entries.items result old.meter new.meter

  -- where it stands in its directory
  abbrev pub cursor_of : Walk S A → Cursor
  cursor_of w = record { passed = w.next; current = w.current; standing = standing_of w.stage }

  -- what is left of the current entry
  abbrev pub current_of : Walk S A → List ℕ → Run
  current_of w file = left_of_entry file w.name.limit (w.next - 1) w.current w.stage

  -- what the entries behind it give
  abbrev pub rest_of : Walk S A → List ℕ → Run
  rest_of w file = listing_from file w.choice w.name.limit w.next

  -- what is left
  abbrev pub left_of : Walk S A → List ℕ → Run
  left_of w file = joined (current_of w file) (rest_of w file)

-- ---- what calls answer

abbrev pub PassesTo : Result (Option Step) ListFault → ℕ → ℕ → Type 0
PassesTo (Ok None) old new = Unit {0}
PassesTo (Ok (Some s)) old new = new ≡ passed_by s old
PassesTo (Err f) old new = new ≡ old

-- the head of the current entry was read
abbrev pub IsListing : Stage → Type 0
IsListing Between = Unit {0}
IsListing (Records kind shape index offset) = Unit {0}
IsListing stage = ⊥

-- it tells what a count of the records that are left was answered with, or the fault in its place
abbrev pub IsStageCounted : Result ℕ ListFault → Stage → Type 0
IsStageCounted (Ok count) stage = (records_left_in stage ≡ count) × IsListing stage
IsStageCounted (Err f) stage = stage ≡ fault_stage f

-- the head was read, or needs not be
abbrev pub IsPastHead : Stage → Type 0
IsPastHead Head = ⊥
IsPastHead stage = Unit {0}

-- no record of the current entry is left to be read
abbrev pub IsThrough : Stage → Type 0
IsThrough Between = Unit {0}
IsThrough (Records kind shape index offset) = shape.count ≤ index
IsThrough stage = ⊥

-- a fault that was next in a run, and stays in it
abbrev pub FaultStays : Run → ListFault → Run → Type 0
FaultStays old f new = (IsUnobtained f.kind → ⊥) → (old ≡ only_fault f) × (new ≡ only_fault f)

-- a call answered the first of what was left, or a fault of bytes that were not obtained, and leaves the rest
abbrev pub Advances : ℕ → List ℕ → Run → Result (Option Step) ListFault → Run → Type 0
Advances z buffer old (Ok None) new = (old ≡ nothing) × (new ≡ nothing)
Advances z buffer old (Ok (Some s)) new = old ≡ with_item (step_item z buffer s) new
Advances z buffer old (Err f) new = FaultStays old f new
