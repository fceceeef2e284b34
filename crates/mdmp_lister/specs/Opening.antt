-- What an opening answers.
use Rattle.std.specs.Prelude.{◌≡◌, ◌≤◌, ◌<◌, false, ℕ, ◌+◌, ◌*◌, List, length, Option, Some, None, Result, Ok, Err, IfErr, IfOk, IfSome, IsTrue, max, slice_get}
use Rattle.mdmp_source.specs.Count.{raised}
use Rattle.mdmp_source.specs.Source.{SourceState, FailsOnce, FetchesAtMost, IsTold}
use Rattle.mdmp_source.specs.Store.{IsGood, IsSizeOf}
use Rattle.mdmp_source.specs.declared.fault.SourceFault.{SourceFault}
use Rattle.mdmp_wire.specs.declared.entry.Entry.{Entry}
use Rattle.mdmp_wire.specs.declared.header.Header.{Header}
use Rattle.mdmp_source.specs.Range.{IsInside, bytes_at, is_inside}
use Rattle.mdmp_wire.specs.Header.{header_at}
use Rattle.mdmp_wire.specs.HeaderFault.{header_fault_of, minidump_version}
use Rattle.mdmp_lister.specs.declared.choice.Choice.{Choice}
use Rattle.mdmp_lister.specs.declared.fault.OpenFault.{OpenFault}
use Rattle.mdmp_lister.specs.declared.fault.OpenFault.TheVariants.{TooShort, BadSignature, BadVersion, DirectoryOutside, TooManyRanges, Source, Budget, Memory, MemoryLimit}
use Rattle.mdmp_lister.specs.declared.fault.FetchFault.{FetchFault}
use Rattle.mdmp_lister.specs.declared.fault.FetchFault.TheVariants as fetch
use Rattle.mdmp_lister.specs.declared.limits.Limits.{Limits}
use Rattle.mdmp_lister.specs.Format.Directory.{AreFirst, IsDirectory, IsFirstChosen}
use Rattle.mdmp_lister.specs.Following.{IsChosenBehind, NoneChosenBehind}
use Rattle.mdmp_lister.specs.StreamHead.{heads_ahead, opening_bytes}
use Rattle.mdmp_lister.specs.Format.Listing.{entry_count}
use Rattle.mdmp_lister.specs.Fault.{IsCaused, IsSteady}
use Rattle.mdmp_lister.specs.Meter.{Books, IsRefusedFetch, KeepsTo, MeterState, counts_of, is_passed}
use Rattle.mdmp_lister.specs.Listed.{CostsFrom}
use Rattle.mdmp_lister.specs.Format.Refusal.{most_ranges, directory_refusal, opening_fault}

-- ---- what an opening reads

-- F was opened by a lister within a budget or none: the header, the directory and the heads of the chosen memory lists are within it
pub record KeepsOpening (budget : Option ℕ) (F : List ℕ) (choice : Choice) : Type 0 where
  pub entries : List Entry
  pub directory : IsDirectory F entries
  pub kept : KeepsTo budget (opening_bytes choice (length F) entries)

-- or as a walk, which counts no ranges
abbrev pub KeepsDirectory : Option ℕ → List ℕ → Type 0
KeepsDirectory budget F = KeepsTo budget (32 + 12 * entry_count F)

-- ---- what an opening answers

-- the header of F was read, or the first fault of its header and directory; bytes that were not obtained say nothing of F
abbrev pub Finds : List ℕ → Result Header OpenFault → Type 0
Finds F (Ok header) = (directory_refusal F ≡ None) × (header ≡ header_at F 0)
Finds F (Err (Source fault)) = Unit {0}
Finds F (Err (Budget offset size)) = Unit {0}
Finds F (Err fault) = directory_refusal F ≡ Some fault

-- a fault of bytes that were not obtained, as a refusal
abbrev pub refusal_of_fetch : FetchFault → OpenFault
refusal_of_fetch (fetch.Source fault) = Source fault
refusal_of_fetch (fetch.Budget offset size) = Budget offset size

-- the store did not give the bytes
abbrev pub IsUnread : OpenFault → Type 0
IsUnread (Source fault) = Unit {0}
IsUnread fault = ⊥

-- a fault of the store is told by the last fetch of this call, the only one at fault; where another is told none was
abbrev pub IsUnreadFor : OpenFault → SourceState → SourceState → Type 0
IsUnreadFor (Source fault) old new = IsTold fault old new × FailsOnce {T = Unit {0}} (Err fault) old.store.counts new.store.counts
IsUnreadFor fault old new = IsSteady old new

-- the fault of the store that a refusal is
abbrev pub unread_of : OpenFault → Option SourceFault
unread_of (Source fault) = Some fault
unread_of fault = None

-- and that of an answer
abbrev pub unread_fault : {T : Type 0} → Result T OpenFault → Option SourceFault
unread_fault (Ok x) = None
unread_fault (Err fault) = unread_of fault

-- nor is it that bytes were not obtained
abbrev pub IsFromBytes : {T : Type 0} → Result T OpenFault → Type 0
IsFromBytes (Err (Source fault)) = ⊥
IsFromBytes (Err (Budget offset size)) = ⊥
IsFromBytes answer = Unit {0}

-- a fetch of so many bytes at an offset was not made, since with it and the `fetched` before it more than the budget would
-- have been fetched: it lies inside the file, is of no more than the window or a name may have, and stays within what a file
-- with so many streams may cost
pub record IsOverBudget (limits : Limits) (old : SourceState) (fetched offset size : ℕ) : Type 0 where
  pub passes : IsTrue (is_passed limits.budget (raised fetched size))
  pub inside : IsInside offset size old.size
  pub most : size ≤ max limits.window limits.name
  pub streams : ℕ
  pub bound : raised fetched size ≤ 32 + 28 * streams
  pub within : 12 * streams ≤ old.size
  pub known : (file : List ℕ) → old.store.content ≡ Some file → streams ≤ entry_count file

-- a refusal that tells the budget is of such a fetch
abbrev pub TellsOver : Limits → SourceState → ℕ → OpenFault → Type 0
TellsOver limits old fetched (Budget offset size) = IsOverBudget limits old fetched offset size
TellsOver limits old fetched fault = Unit {0}

-- an opening that was refused has fetched so many bytes, within the budget
pub record KeepsToBudget (limits : Limits) (old : SourceState) (fault : OpenFault) (new : SourceState) : Type 0 where
  pub fetched : ℕ
  pub spent : new.fetched ≡ raised old.fetched fetched
  pub kept : KeepsTo limits.budget fetched
  pub over : TellsOver limits old fetched fault

-- the same by what a meter counted, of a fetch of at most so many bytes
abbrev pub IsOpeningOver : ℕ → OpenFault → MeterState → Type 0
IsOpeningOver most (Budget offset size) m = IsRefusedFetch most offset size (counts_of m) m.source.size
IsOpeningOver most fault m = Unit {0}

-- a fault of a file's header or directory, or too little memory if they have none, or bytes that were not obtained
abbrev pub IsDirectoryRefusal : List ℕ → OpenFault → Type 0
IsDirectoryRefusal F (Source fault) = Unit {0}
IsDirectoryRefusal F (Budget offset size) = Unit {0}
IsDirectoryRefusal F Memory = directory_refusal F ≡ None
IsDirectoryRefusal F (MemoryLimit held) = directory_refusal F ≡ None
IsDirectoryRefusal F fault = directory_refusal F ≡ Some fault

-- a fault that a file may be refused with: its own, or too little memory if its header and directory have none, or bytes
-- that were not obtained
abbrev pub IsRefusalOf : List ℕ → Choice → OpenFault → Type 0
IsRefusalOf F choice (Source fault) = Unit {0}
IsRefusalOf F choice (Budget offset size) = Unit {0}
IsRefusalOf F choice Memory = directory_refusal F ≡ None
IsRefusalOf F choice (MemoryLimit held) = directory_refusal F ≡ None
IsRefusalOf F choice fault = opening_fault F choice ≡ Some fault

-- the header and the place of the directory were refused
abbrev pub IsOfHead : OpenFault → Type 0
IsOfHead (TooShort size) = Unit {0}
IsOfHead BadSignature = Unit {0}
IsOfHead (BadVersion low) = Unit {0}
IsOfHead (DirectoryOutside offset size) = Unit {0}
IsOfHead fault = ⊥

-- the source of a file that was refused: its header was fetched, and so many entries of its directory were asked for; of
-- those that were obtained the heads of chosen memory lists
pub record IsHandedBack (choice : Choice) (old : SourceState) (fault : OpenFault) (new : SourceState) : Type 0 where
  pub asked : ℕ
  pub entries : List Entry
  pub obtained : length entries ≤ asked
  pub fetches : FetchesAtMost (32 + 12 * asked + heads_ahead choice old.size entries) old new
  -- at most 16 bytes of each head, so that the bound of what is listed holds here too
  pub bound : FetchesAtMost (32 + 28 * asked) old new
  pub calls : new.calls ≤ raised old.calls (1 + asked + length entries)
  pub known : (file : List ℕ) → old.store.content ≡ Some file → (asked ≤ entry_count file) × AreFirst file entries
  pub inside : 12 * asked ≤ old.size
  -- none but of a file whose header and place of the directory are good, and not even the header of a file that is too short
  pub begun : 0 < asked → (file : List ℕ) → old.store.content ≡ Some file → directory_refusal file ≡ None
  pub early : IsOfHead fault → asked ≡ 0
  pub short : (size : ℕ) → fault ≡ TooShort size → new ≡ old

-- the same where no heads are fetched, as of a walk
pub record IsHandedBackBare (old : SourceState) (fault : OpenFault) (new : SourceState) : Type 0 where
  pub asked : ℕ
  pub fetches : FetchesAtMost (32 + 12 * asked) old new
  pub calls : new.calls ≤ raised old.calls (1 + asked)
  pub known : (file : List ℕ) → old.store.content ≡ Some file → asked ≤ entry_count file
  pub inside : 12 * asked ≤ old.size
  pub begun : 0 < asked → (file : List ℕ) → old.store.content ≡ Some file → directory_refusal file ≡ None
  pub early : IsOfHead fault → asked ≡ 0
  pub short : (size : ℕ) → fault ≡ TooShort size → new ≡ old

-- a file of `size` bytes may be refused so, whatever its bytes
abbrev pub IsOpenRefusal : ℕ → OpenFault → Type 0
IsOpenRefusal size (TooShort told) = (told ≡ size) × (size < 32)
IsOpenRefusal size (BadVersion low) = (32 ≤ size) × (low ≡ minidump_version → ⊥)
IsOpenRefusal size (DirectoryOutside offset len) = is_inside offset len size ≡ false
IsOpenRefusal size (TooManyRanges count) = (32 ≤ size) × (most_ranges < count)
IsOpenRefusal size fault = 32 ≤ size

-- the same where no ranges are counted
abbrev pub IsBareRefusal : ℕ → OpenFault → Type 0
IsBareRefusal size (TooManyRanges count) = ⊥
IsBareRefusal size fault = IsOpenRefusal size fault

-- nor any memory taken
abbrev pub IsHeaderRefusal : ℕ → OpenFault → Type 0
IsHeaderRefusal size Memory = ⊥
IsHeaderRefusal size (MemoryLimit held) = ⊥
IsHeaderRefusal size fault = IsBareRefusal size fault

-- the header of a file of `size` bytes, at least 32, is that in its first bytes, or it or the place of the directory is refused
pub record IsHeaderIn (bytes : List ℕ) (size : ℕ) (result : Result Header OpenFault) : Type 0 where
  pub finds : (F : List ℕ) → size ≡ length F → bytes ≡ bytes_at F 0 (length bytes) → Finds F result
  pub inside : IfOk result (λ header. IsInside header.stream_directory_rva (12 * header.number_of_streams) size)
  pub refusal : IfErr result (IsHeaderRefusal size)
  pub long : (told : ℕ) → result ≡ Err (TooShort told) → ⊥
  pub read : unread_fault result ≡ None
  pub obtained : IsFromBytes result
  pub checked : IfOk result (λ header. header_fault_of header ≡ None)

-- what is told of the header of a file fits its size, whatever its bytes
pub record FitsHeader (old : SourceState) (result : Result Header OpenFault) (new : SourceState) : Type 0 where
  pub sized : IsSizeOf old.store.content old.size
  pub inside : IfOk result (λ header. IsInside header.stream_directory_rva (12 * header.number_of_streams) old.size)
  pub refusal : IfErr result (IsHeaderRefusal old.size)
  pub short : old.size < 32 → result ≡ Err (TooShort old.size)
  pub checked : IfOk result (λ header. header_fault_of header ≡ None)
  -- a file that is too short is not touched
  pub untouched : (size : ℕ) → result ≡ Err (TooShort size) → new ≡ old

-- the header was fetched, or it is what the budget is told of, and nothing was fetched
abbrev pub TriesHeader : Result Header OpenFault → MeterState → MeterState → Type 0
TriesHeader (Ok header) old new = new.fetched ≡ raised old.fetched 32
TriesHeader (Err (Budget offset size)) old new = ((offset ≡ 0) × (size ≡ 32)) × (new.fetched ≡ old.fetched)
TriesHeader (Err fault) old new = Unit {0}

-- the header of a file was read, or it or the place of the directory was refused
pub record ReadsHeader (old : MeterState) (result : Result Header OpenFault) (new : MeterState) : Type 0 where
  pub finds : (file : List ℕ) → old.source.store.content ≡ Some file → Finds file result
  pub fits : FitsHeader old.source result new.source
  pub books : Books 1 32 old new
  pub caused : IsCaused (unread_fault result) old.source new.source
  pub over : IfErr result (λ fault. IsOpeningOver 32 fault new)
  pub tries : TriesHeader result old new

-- the header or the directory of a file was refused, or there was no memory to list it, and its source was handed back
pub record IsRefused (old : SourceState) (fault : OpenFault) (new : SourceState) : Type 0 where
  pub handed_back : IsHandedBackBare old fault new
  pub opens : (file : List ℕ) → old.store.content ≡ Some file → IsDirectoryRefusal file fault
  pub refusal : IsBareRefusal old.size fault
  pub short : old.size < 32 → fault ≡ TooShort old.size
  -- memory is taken before the directory is read
  pub memory : fault ≡ Memory → FetchesAtMost 32 old new
  pub cause : IsUnreadFor fault old new
  pub good : (file : List ℕ) → IsGood old.store file → IsUnread fault → ⊥

-- ---- the next chosen entry

-- it is the first one behind number `from`, or there is none
abbrev pub StandsBehind : Choice → List Entry → ℕ → Option ℕ → Type 0
StandsBehind choice entries from None = NoneChosenBehind choice entries from
StandsBehind choice entries from (Some at) = (e : Entry) → slice_get entries at ≡ Some e → IsChosenBehind choice entries from at e

-- this is the number of the first chosen entry from number `from` on, or there is none
pub record IsNextChosen (choice : Choice) (from : ℕ) (entries : List Entry) (result : Option ℕ) : Type 0 where
  pub within : IfSome result (λ at. (from ≤ at) × (at < length entries))
  pub first : (file : List ℕ) → IsDirectory file entries → IsFirstChosen file choice from result
  pub stands : StandsBehind choice entries from result
  -- what it and those behind it cost is no more than what the entries from there on do
  pub costs : (f : ℕ → ℕ) (size : ℕ) → CostsFrom f choice size from result entries
