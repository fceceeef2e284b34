-- Which lister read a file for a command, within which limits, and what it read.
use Rattle.std.specs.Prelude.{◌≡◌, ◌≤◌, ◌+◌, ◌*◌, ◌⊎◌, ℕ, Bool, List, Option, Some, None, Result, Ok, Err, true, false}
use Rattle.mdmp_source.specs.Source.{SourceState}
use Rattle.mdmp_source.specs.Store.{StoreState}
use Rattle.mdmp_lister.specs.declared.choice.Choice.{Choice}
use Rattle.mdmp_lister.specs.declared.fault.OpenFault.{OpenFault}
use Rattle.mdmp_lister.specs.declared.item.Item.{Item}
use Rattle.mdmp_lister.specs.declared.limits.Limits.{Limits}
use Rattle.mdmp_lister.specs.Counts.{AreHeld, AreOfFile, AreSpent, numbers_of}
use Rattle.mdmp_lister.specs.declared.choice.Choice.TheVariants.{All}
use Rattle.mdmp_lister.specs.Check.{items_of, names_judged}
use Rattle.mdmp_lister.specs.Format.Listing.{Run, chosen, listing, memory_lists, verdicts}
use Rattle.mdmp_lister.specs.Sink.{names_of_all}
use Rattle.mdmp_lister.specs.Opening.{IsHandedBack, KeepsOpening}
use Rattle.mdmp_lister.specs.Memory.{is_within, leaving, opening_fault_within}
use Rattle.mdmp_lister.specs.Format.Numbers.{range_count}
use Rattle.mdmp_lister.specs.Lister.{HasReadDirectory, IsAskedFor, IsNewLister, ListerState, room_held}
use Rattle.mdmp_lister.specs.NamesFetched.{FetchesNames}
use Rattle.mdmp_lister.specs.Requested.{GivesByRequests}
use Rattle.mdmp_lister.specs.Format.Refusal.{most_ranges}
use Rattle.mdmp_summary.specs.BadEntries.{all_items}
use Rattle.mdmp_engines.specs.declared.fault.ToolFault.{ToolFault}
use Rattle.mdmp_engines.specs.declared.fault.ToolFault.TheVariants.{List as BadList, Out, AsideLimit}
use Rattle.mdmp_engines.specs.Symbols.{symbols_bytes}
use Rattle.mdmp_engines.specs.Telling.{opening_beside}
use Rattle.mdmp_engines.specs.Causes.{HasBudgetCause, HasOpeningBudget, HasMemoryCause, IsOverInChosen, IsWithinMemory, KeepsAside}
use Rattle.mdmp_engines.specs.Engines.{Pace, ReadsSource, up_to_a_fault, past_faults, at_the_end}

-- what a command leaves as it was of the lister that it is given: the header and the directory that it read, the room that it
-- took, its budget, and what its source's own counts were as it was opened
pub record IsSameRun (old new : ListerState) : Type 0 where
  pub header_is : new.header ≡ old.header
  pub entries : new.entries ≡ old.entries
  pub choice : new.choice ≡ old.choice
  pub rooms : new.rooms ≡ old.rooms
  pub limit : new.limit ≡ old.limit
  pub start : new.counts.start ≡ old.counts.start
  pub budget : new.counts.budget ≡ old.counts.budget

-- what a command reads of a file beside its listing: at most so many bytes, or the CodeView records of the modules that it lists
pub data Beside : Type 0 where
  at_most : ℕ → Beside
  symbols : Beside

-- a lister has read no more than that beside its listing; how many records there are is known if the file is
abbrev pub KeepsBeside : Beside → ListerState → Type 0
KeepsBeside (at_most n) v = v.counts.aside.bytes ≤ n
KeepsBeside symbols v = (file : List ℕ) → v.source.store.content ≡ Some file → v.counts.aside.bytes ≤ symbols_bytes true v.limit (listing file v.choice v.limit).items

-- a lister has reached no more names than those that the listing of a known file has, and one more where it ended. A command that
-- goes on behind a fault reaches those of all entries; of one that reads memory lists, which have none, no number is said.
abbrev pub KeepsNames : Pace → ListerState → Type 0
KeepsNames up_to_a_fault v = (file : List ℕ) → v.source.store.content ≡ Some file → v.counts.names ≤ names_of_all (listing file v.choice v.limit).items + 1
KeepsNames past_faults v = (file : List ℕ) → v.source.store.content ≡ Some file
    → v.counts.names ≤ names_judged (items_of file v.limit (chosen file v.choice)) (verdicts file v.choice v.limit) + 1
KeepsNames at_the_end v = Unit {0}

-- it holds of a run that came to the end of its listing, or to a fault of the file there
abbrev pub WhereToldToFault : ToolFault → Type 0 → Type 0
WhereToldToFault (BadList fault) holds = holds
WhereToldToFault fault holds = Unit {0}

abbrev pub WhereToldToEnd : {T : Type 0} → Result T ToolFault → Type 0 → Type 0
WhereToldToEnd (Ok x) holds = holds
WhereToldToEnd (Err fault) holds = WhereToldToFault fault holds

-- a lister gave some items by requests for the next one, each of them within its budget: all that were left, where the run came to
-- their end
pub record HasRequested {T : Type 0} (old : ListerState) (answer : Result T ToolFault) (new : ListerState) : Type 0 where
  pub items : List Item
  pub given : GivesByRequests old items new
  pub whole : (left : Run) → old.left ≡ Some left → WhereToldToEnd answer (items ≡ left.items)

-- a run that came to the end of a known file fetched no less than the names of all its items
abbrev pub FetchesAllNames : {T E : Type 0} → ListerState → Result T E → ListerState → Type 0
FetchesAllNames old (Ok x) new = (file : List ℕ) → old.source.store.content ≡ Some file → FetchesNames 1 (all_items file old.limit) old.counts.fetched new.counts.fetched
FetchesAllNames old (Err fault) new = Unit {0}

-- a lister gave its items so for a command that does not go on behind a fault; one that does fetched the names of all
abbrev pub KeepsRequests : {T : Type 0} → Pace → ListerState → Result T ToolFault → ListerState → Type 0
KeepsRequests up_to_a_fault old answer new = HasRequested old answer new
KeepsRequests past_faults old answer new = FetchesAllNames old answer new
KeepsRequests at_the_end old answer new = HasRequested old answer new

-- both
pub record KeepsReads (aside : Beside) (pace : Pace) (v : ListerState) : Type 0 where
  pub beside : KeepsBeside aside v
  pub names : KeepsNames pace v

-- what a command reads, and by which requests
pub record ReadsByRequests {T : Type 0} (aside : Beside) (pace : Pace) (old : ListerState) (answer : Result T ToolFault) (new : ListerState) : Type 0 where
  pub keeps : KeepsReads aside pace new
  pub requests : KeepsRequests pace old answer new

-- a list reads these records if they are told
abbrev pub list_beside : Bool → Beside
list_beside true = symbols
list_beside false = at_most 0

-- how a command reads a file: within which limits and of which streams, when it prints, how many bytes it holds beside its lister,
-- how many of CodeView records it may read, if there is such a limit, and what it reads beside the listing
pub record Access : Type 0 where
  pub limits : Limits
  pub choice : Choice
  pub pace : Pace
  pub held : ℕ
  pub aside : Option ℕ
  pub beside : Beside

-- that of `check`, of `list`, and of `hex`, which holds two bytes for each address, and reads one
abbrev pub check_access : Limits → Access
check_access limits = record { limits = limits; choice = All; pace = past_faults; held = 0; aside = None; beside = at_most 0 }

abbrev pub list_access : Bool → Limits → Access
list_access pdb limits = record { limits = limits; choice = All; pace = up_to_a_fault; held = 0; aside = limits.aside; beside = list_beside pdb }

abbrev pub hex_access : ℕ → Limits → Access
hex_access length limits = record { limits = limits; choice = memory_lists; pace = at_the_end; held = 2 * length; aside = None; beside = at_most length }

-- a lister was opened over this source, with the window that was asked for, names up to that limit and that choice of streams: of a
-- known file its header and directory are the file's, and it has room for as many ranges as the chosen memory lists count
pub record IsListerOf (access : Access) (old : SourceState) (lister : ListerState) : Type 0 where
  pub asked : IsAskedFor access.choice access.limits lister
  pub read : HasReadDirectory old lister
  pub range_room : (file : List ℕ) → old.store.content ≡ Some file → lister.rooms.ranges ≡ range_count file access.choice
  pub few_ranges : lister.rooms.ranges ≤ most_ranges

-- a lister was opened for these limits, less what the command holds, and from then on what it gave it gave by requests, each of them
-- within the budget
pub record HasAskedLister {T : Type 0} (access : Access) (old : SourceState) (answer : Result T ToolFault) (lister : ListerState) : Type 0 where
  pub first : ListerState
  pub is_new : IsNewLister old access.choice (leaving access.held access.limits) first
  pub requests : KeepsRequests access.pace first answer lister

-- a file was listed by such a lister, within the other limits: what the lister holds, and all that its source counted since it was
-- opened, is within the bounds that its numbers tell, beside what it read aside, which is no more than the command needs
pub record HasListed {T : Type 0} (access : Access) (old : SourceState) (answer : Result T ToolFault) (new : SourceState) : Type 0 where
  pub lister : ListerState
  pub opened : IsListerOf access old lister
  pub of_file : (file : List ℕ) → old.store.content ≡ Some file → AreOfFile file access.choice (numbers_of lister)
  pub budget : lister.counts.budget ≡ access.limits.budget
  pub over : HasBudgetCause answer lister
  pub entry : IsOverInChosen answer lister
  pub aside_kept : KeepsAside access.aside answer lister
  pub reads : KeepsReads access.beside access.pace lister
  pub asked : HasAskedLister access old answer lister
  -- what it has room for, and what the command holds beside it, is within the limit of memory, which it does not end by
  pub memory : is_within access.limits.memory (room_held lister + access.held) ≡ true
  pub opens : (file : List ℕ) → old.store.content ≡ Some file → opening_fault_within (leaving access.held access.limits) file access.choice ≡ None
  -- and what is read of a known file as it is opened is within the budget
  pub opening : (file : List ℕ) → old.store.content ≡ Some file → KeepsOpening access.limits.budget file access.choice
  pub within : IsWithinMemory answer
  pub source : lister.source ≡ new
  pub start : lister.counts.start ≡ record { bytes = old.fetched; calls = old.calls }
  pub held : AreHeld lister (numbers_of lister)
  pub spent : AreSpent lister (numbers_of lister)

-- before all was opened a run does not end so
abbrev pub IsEarly : {T : Type 0} → Result T ToolFault → Type 0
IsEarly (Ok x) = ⊥
IsEarly (Err (BadList fault)) = ⊥
IsEarly (Err (AsideLimit offset size)) = ⊥
IsEarly answer = Unit {0}

-- an opening was refused with this fault, and is told so, unless the flush was refused
abbrev pub TellsRefusal : {T : Type 0} → ℕ → OpenFault → Result T ToolFault → Type 0
TellsRefusal held fault answer = (answer ≡ Err (opening_beside held fault)) ⊎ (answer ≡ Err Out)

-- or it was refused, and its source was left as the lister hands it back: a fault of the header, or of the place of the directory,
-- has asked for no entry, and over a known file none was asked for that the file does not have
pub data IsReadThrough {T : Type 0} (access : Access) (old : SourceState) (answer : Result T ToolFault) (new : SourceState) : Type 0 where
  listed : HasListed access old answer new → IsReadThrough access old answer new
  refused : (fault : OpenFault) → IsEarly answer → HasOpeningBudget access.choice access.limits old answer new → HasMemoryCause access.limits access.choice access.held old answer new
      → IsHandedBack access.choice old fault new → TellsRefusal access.held fault answer → IsReadThrough access old answer new

-- ---- where the source is gone

-- a source over a store that has fetched nothing
abbrev pub source_over : StoreState → SourceState
source_over store = record { store = store; size = store.size; fetched = 0; calls = 0; fault = None }

-- a store was read by such a source, which is gone: it was left so, as one that is handed back
pub record ReadsStore {T : Type 0} (access : Access) (store : StoreState) (answer : Result T ToolFault) : Type 0 where
  pub gone : SourceState
  pub reads : ReadsSource (source_over store) answer gone
  pub through : IsReadThrough access (source_over store) answer gone
