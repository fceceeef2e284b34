-- What reading a file into a value fetches: for the listing within a budget, and beside it the bytes of parts.
use Rattle.std.specs.Prelude.{◌≡◌, ◌≤◌, ◌<◌, ◌+◌, ◌⊎◌, ℕ, List, [], length, Option, None, Some, Result, Ok, Err, IfErr, IfOk, IsTrue, max, slice_get}
use Rattle.mdmp_source.specs.Count.{raised}
use Rattle.mdmp_source.specs.Fault.{fault_at}
use Rattle.mdmp_source.specs.Range.{IsInside}
use Rattle.mdmp_source.specs.Source.{FetchesSome, SourceState}
use Rattle.mdmp_source.specs.declared.fault.SourceFault.{SourceFault}
use Rattle.mdmp_wire.specs.declared.entry.Entry.{Entry}
use Rattle.mdmp_lister.specs.declared.choice.Choice.{Choice}
use Rattle.mdmp_lister.specs.declared.fault.FaultKind.{FaultKind}
use Rattle.mdmp_lister.specs.declared.fault.FaultKind.TheVariants as kinds
use Rattle.mdmp_lister.specs.declared.fault.ListFault.{ListFault}
use Rattle.mdmp_lister.specs.declared.fault.OpenFault.{OpenFault}
use Rattle.mdmp_lister.specs.declared.fault.OpenFault.TheVariants as opening
use Rattle.mdmp_lister.specs.declared.item.Item.{Item}
use Rattle.mdmp_lister.specs.declared.limits.Limits.{Limits}
use Rattle.mdmp_lister.specs.Calls.{IsOutOfMemory}
use Rattle.mdmp_lister.specs.Fault.{IsToldIn}
use Rattle.mdmp_lister.specs.Following.{through}
use Rattle.mdmp_lister.specs.Format.Directory.{IsDirectory}
use Rattle.mdmp_lister.specs.Format.Listing.{Run, is_chosen, listing}
use Rattle.mdmp_lister.specs.Counts.{AreSpent, numbers_of}
use Rattle.mdmp_lister.specs.Lister.{IsNewLister, IsRefusedIn, ListerState, standpoint_in}
use Rattle.mdmp_lister.specs.Meter.{IsBooked, KeepsTo, is_passed}
use Rattle.mdmp_lister.specs.NextFetch.{Standpoint, TellsNextOpening, TellsSomeFetch}
use Rattle.mdmp_lister.specs.Opening.{IsHandedBack, TellsOver}
use Rattle.mdmp_dump.specs.declared.fault.ReadFault.{ReadFault}
use Rattle.mdmp_dump.specs.declared.fault.ReadFault.TheVariants as faults
use Rattle.mdmp_dump.specs.declared.reader.Reader.{Reader}
use Rattle.mdmp_dump.specs.ItemsRead.{ReadsInTurn}
use Rattle.mdmp_dump.specs.Refusal.{AsksByte, ReadStep, TakesByte, refusal_of}

-- ---- as a caller sees it

-- this is entry `number` of a directory, and the choice has it
pub record IsEntryChosen (choice : Choice) (entries : List Entry) (number : ℕ) (entry : Entry) : Type 0 where
  pub is : slice_get entries number ≡ Some entry
  pub chosen : IsTrue (is_chosen choice entry.stream_type)

-- a listing of a source by these limits stands in this entry; `TellsSomeFetch` says how far it came there
abbrev pub standing_at : Limits → SourceState → Entry → Standpoint
standing_at limits old entry = record {
  content = old.store.content;
  size = old.size;
  room = limits.window;
  limit = limits.name;
  entry = entry;
  standing = through;
  unread = 0;
  fetched = 0;
}

-- a listing that had fetched so many bytes came to this fetch in entry `number` of the file's directory: of the head of its
-- stream, of a record that was not given yet, or of that record's name
pub record IsListingFetch (choice : Choice) (limits : Limits) (old : SourceState) (fetched number offset size : ℕ) : Type 0 where
  pub entries : List Entry
  pub directory : (file : List ℕ) → old.store.content ≡ Some file → IsDirectory file entries
  pub entry : Entry
  pub chosen : IsEntryChosen choice entries number entry
  pub next : TellsSomeFetch (standing_at limits old entry) kinds.Budget offset size fetched

-- a listing did not fetch so many bytes at an offset, since with what it had fetched they pass the budget: they lie inside the
-- file, are no more than the window or a name may have, and come next in the entry that is told
pub record IsOverIn (choice : Choice) (limits : Limits) (old : SourceState) (fetched number offset size : ℕ) : Type 0 where
  pub passes : IsTrue (is_passed limits.budget (raised fetched size))
  pub inside : IsInside offset size old.size
  pub most : size ≤ max limits.window limits.name
  pub next : IsListingFetch choice limits old fetched number offset size

-- bytes of a listing were not obtained from the store: the fault has the number of the chosen entry in which the listing stood, names
-- the place where the store gave nothing, and no record. That the store has changed is told of a memory list alone, at its RVA.
pub record IsUnobtainedIn (choice : Choice) (old : SourceState) (f : ListFault) (new : SourceState) : Type 0 where
  pub entries : List Entry
  pub directory : (file : List ℕ) → old.store.content ≡ Some file → IsDirectory file entries
  pub entry : Entry
  pub chosen : IsEntryChosen choice entries f.entry entry
  pub told : IsToldIn entry f old new

-- a fault of bytes that were not obtained for a listing is one of this kind
abbrev pub TellsListing : Choice → Limits → SourceState → ℕ → FaultKind → ListFault → SourceState → Type 0
TellsListing choice limits old fetched kinds.Budget f new = IsOverIn choice limits old fetched f.entry f.offset f.size
TellsListing choice limits old fetched (kinds.Source fault) f new = IsUnobtainedIn choice old f new
TellsListing choice limits old fetched kind f new = Unit {0}

-- an opening ended with this error. It fetched no more than an opening fetches. If it reports the read limit, the next fetch would
-- pass it. If it reports out of memory, the limits allow what it asked for.
pub record IsOpeningEnd (choice : Choice) (limits : Limits) (old : SourceState) (fetched : ℕ) (fault : OpenFault) (new : SourceState) : Type 0 where
  pub over : TellsOver limits old fetched fault
  pub next : TellsNextOpening (Some choice) limits old fault new
  pub handed_back : IsHandedBack choice old fault new
  pub memory : fault ≡ opening.Memory → IsOutOfMemory limits choice old new

-- a part was being read, or a stream whose records are not known: some bytes of those may be read, and in a known file reading stopped
-- at a byte that an item of its listing asks for
pub record IsPartEnd (choice : Choice) (limits : Limits) (parts : ℕ) (old : SourceState) (fault : SourceFault) : Type 0 where
  pub some : 0 < parts
  pub byte : (file : List ℕ) → old.store.content ≡ Some file → AsksByte (listing file choice limits.name).items (length file) (fault_at fault)

-- where a reading ended that has fetched so many bytes to open and list the file: in its opening, in a chosen entry of the listing,
-- or at a part or a stream whose records are not known
abbrev pub TellsReadEnd : Choice → Limits → ℕ → SourceState → ℕ → ReadFault → SourceState → Type 0
TellsReadEnd choice limits parts old fetched (faults.Opening fault) new = IsOpeningEnd choice limits old fetched fault new
TellsReadEnd choice limits parts old fetched (faults.List fault) new = TellsListing choice limits old fetched fault.kind fault new
TellsReadEnd choice limits parts old fetched (faults.Source fault) new = IsPartEnd choice limits parts old fault
TellsReadEnd choice limits parts old fetched fault new = Unit {0}

-- a lister was opened by these limits, and it gave the items of the file in turn, each with its parts: it is all that the source was read
-- for, in its bytes and in its calls, which are within the bounds of a listing
pub record IsReadInTurn {T : Type 0} (choice : Choice) (limits : Limits) (result : Result T ReadFault) (old : SourceState) (fetched aside : ℕ) (new : SourceState) : Type 0 where
  pub opened : ListerState
  pub is_new : IsNewLister old choice limits opened
  pub last : ListerState
  pub reads : ReadsInTurn [] result [] opened last
  -- of a known file that gives a dump, all items of its listing
  pub whole : IfOk result (λ _. (file : List ℕ) → old.store.content ≡ Some file → reads.items ≡ (listing file choice limits.name).items)
  pub source : new ≡ last.source
  pub booked : IsBooked new last.counts
  pub fetched_is : fetched ≡ last.counts.fetched
  pub aside_is : aside ≡ last.counts.aside.bytes
  pub spent : AreSpent last (numbers_of last)

-- or its opening was refused, and nothing else was read
pub data IsReadBy {T : Type 0} (choice : Choice) (limits : Limits) (result : Result T ReadFault) (old : SourceState) (fetched aside : ℕ) (new : SourceState) : Type 0 where
  in_turn : IsReadInTurn choice limits result old fetched aside new → IsReadBy choice limits result old fetched aside new
  refused : (fault : OpenFault) → result ≡ Err (refusal_of fault) → IsOpeningEnd choice limits old fetched fault new → aside ≡ 0 → IsReadBy choice limits result old fetched aside new

-- a reading has fetched so many bytes to open and list the file, within the budget, and beside them so many of parts and of
-- streams whose records are not known, within the limit on them. No other byte was fetched.
pub record KeepsReading {T : Type 0} (choice : Choice) (limits : Limits) (parts : ℕ) (result : Result T ReadFault) (old new : SourceState) : Type 0 where
  pub fetched : ℕ
  pub aside : ℕ
  pub by : IsReadBy choice limits result old fetched aside new
  pub spent : new.fetched ≡ raised old.fetched (fetched + aside)
  pub kept : KeepsTo limits.budget fetched
  pub few : aside ≤ parts
  pub ends : IfErr result (λ fault. TellsReadEnd choice limits parts old fetched fault new)

-- ---- as a reader goes on

-- what stays of a listing
pub record IsSameReading (old new : ListerState) : Type 0 where
  pub rooms : new.rooms ≡ old.rooms
  pub limit : new.limit ≡ old.limit
  pub choice : new.choice ≡ old.choice
  pub entries : new.entries ≡ old.entries
  pub content : new.source.store.content ≡ old.source.store.content
  pub size : new.source.size ≡ old.source.size
  pub start : new.counts.start ≡ old.counts.start
  pub budget : new.counts.budget ≡ old.counts.budget

-- the entry in which a listing stands that goes on is the last one that it passed, which is chosen
abbrev pub IsAtEntry : ListerState → Type 0
IsAtEntry v = v.stop ≡ None → (number : ℕ) → number + 1 ≡ v.passed → IsEntryChosen v.choice v.entries number v.current

-- the budget is told of the fetch that came next in the current entry, whose number is told
pub record IsNextIn (v : ListerState) (number offset size : ℕ) : Type 0 where
  pub chosen : IsEntryChosen v.choice v.entries number v.current
  pub next : TellsSomeFetch (standpoint_in v) kinds.Budget offset size v.counts.fetched

-- a fault of the store is told of the current entry, whose number is told
pub record IsToldInEntry (f : ListFault) (old : SourceState) (v : ListerState) : Type 0 where
  pub chosen : IsEntryChosen v.choice v.entries f.entry v.current
  pub told : IsToldIn v.current f old v.source

abbrev pub TellsListed : FaultKind → ListFault → SourceState → ListerState → Type 0
TellsListed kinds.Budget f old v = IsNextIn v f.entry f.offset f.size
TellsListed (kinds.Source fault) f old v = IsToldInEntry f old v
TellsListed kind f old v = Unit {0}

-- a fault of bytes that were not obtained is told of the listing, or of a part while some bytes of parts were left
abbrev pub TellsFetch : ReadFault → (left : ℕ) → SourceState → ListerState → Type 0
TellsFetch (faults.Opening fault) left old v = ⊥
TellsFetch (faults.List fault) left old v = IsRefusedIn fault v × TellsListed fault.kind fault old v
TellsFetch (faults.Source fault) left old v = 0 < left
TellsFetch fault left old v = Unit {0}

-- each of these items is one of those
abbrev pub AreAmong : List Item → List Item → Type 0
AreAmong xs ys = (index : ℕ) (item : Item) → slice_get xs index ≡ Some item → (place : ℕ) × (slice_get ys place ≡ Some item)

-- what is left of a known file's listing was left before
abbrev pub WasLeft : Option Run → Option Run → Type 0
WasLeft old new = (run : Run) → old ≡ Some run → (rest : Run) × ((new ≡ Some rest) × AreAmong rest.items run.items)

-- a fault of the store that is none of the listing is told at a byte that these steps take, or that an item asks for which was left
abbrev pub TellsPart : List ReadStep → ReadFault → ListerState → Type 0
TellsPart steps (faults.Source fault) v = TakesByte steps (fault_at fault) ⊎ ((run : Run) → v.left ≡ Some run → AsksByte run.items v.source.size (fault_at fault))
TellsPart steps fault v = Unit {0}

module _ {S A : Type 0} where
  -- the bytes that are read beside the listing come off those that parts may still take
  pub record KeepsOn (old new : Reader S A) : Type 0 where
    pub same : IsSameReading old.lister new.lister
    pub few : new.lister.counts.aside.bytes + new.left ≤ old.lister.counts.aside.bytes + old.left
    pub less : new.left ≤ old.left
    pub fetches : FetchesSome old.lister.source new.lister.source
    pub at : IsAtEntry old.lister → IsAtEntry new.lister
    pub left : WasLeft old.lister.left new.lister.left

  pub record KeepsTill (steps : List ReadStep) (fault : ReadFault) (old new : Reader S A) : Type 0 where
    pub same : IsSameReading old.lister new.lister
    pub few : new.lister.counts.aside.bytes ≤ old.lister.counts.aside.bytes + old.left
    pub ends : IsAtEntry old.lister → TellsFetch fault old.left old.lister.source new.lister
    pub part : TellsPart steps fault old.lister

  -- a reader goes on, or is at fault in what these steps ask, or what is left of its listing
  abbrev pub KeepsStep : {T : Type 0} → List ReadStep → Result T ReadFault → Reader S A → Reader S A → Type 0
  KeepsStep steps (Ok x) old new = KeepsOn old new
  KeepsStep steps (Err fault) old new = KeepsTill steps fault old new
