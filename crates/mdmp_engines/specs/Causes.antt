-- Why a call ended with a fault, of whatever file.
use Rattle.std.specs.Prelude.{◌≡◌, ◌≤◌, ◌+◌, ◌*◌, ℕ, List, Option, None, Some, Result, Err, false, true, max, min}
use Rattle.mdmp_source.specs.Range.{IsInside}
use Rattle.mdmp_source.specs.Output.{HasRefused, OutState}
use Rattle.mdmp_source.specs.Source.{SourceState}
use Rattle.mdmp_lister.specs.declared.fault.OpenFault.{OpenFault}
use Rattle.mdmp_lister.specs.declared.fault.OpenFault.TheVariants as opening
use Rattle.mdmp_lister.specs.declared.fault.FaultKind.TheVariants as kind
use Rattle.mdmp_lister.specs.declared.fault.ListFault.{ListFault}
use Rattle.mdmp_lister.specs.declared.limits.Limits.{Limits}
use Rattle.mdmp_lister.specs.Calls.{IsOutOfMemory}
use Rattle.mdmp_lister.specs.Lister.{ListerState, standpoint_in}
use Rattle.mdmp_lister.specs.declared.choice.Choice.{Choice}
use Rattle.mdmp_lister.specs.Format.Bounds.{held_bound}
use Rattle.mdmp_lister.specs.Memory.{is_within, leaving, opening_fault_within}
use Rattle.mdmp_lister.specs.Meter.{IsRefusedFetch}
use Rattle.mdmp_lister.specs.NextFetch.{TellsNextOpening, TellsSomeFetch}
use Rattle.mdmp_lister.specs.Opening.{IsOpenRefusal, KeepsToBudget}
use Rattle.mdmp_lister.specs.Fault.{IsUnobtained}
use Rattle.mdmp_lister.specs.Following.{FitsFile}
use Rattle.mdmp_summary.specs.InEntry.{IsInChosen, StandsInChosen}
use Rattle.mdmp_dump.specs.Reading.{IsLastTold, MayBeTold}
use Rattle.mdmp_engines.specs.declared.fault.ToolFault.{ToolFault}
use Rattle.mdmp_engines.specs.declared.fault.ToolFault.TheVariants.{Opening, List as BadList, Reading, Layout, Source, Budget, Memory, MemoryLimit, AsideLimit, Out, NotCopied}

-- all bytes that were asked for were obtained
abbrev pub IsNoSourceFault : {T : Type 0} → Result T ToolFault → Type 0
IsNoSourceFault (Err (Source fault)) = ⊥
IsNoSourceFault _ = Unit {0}

-- a source's fault is told as the source answered it, and has its cause in this call
abbrev pub HasSourceCause : {T : Type 0} → SourceState → Result T ToolFault → SourceState → Type 0
HasSourceCause old (Err (Source fault)) new = IsLastTold fault old new
HasSourceCause old _ new = Unit {0}

-- the fetch of these bytes for the listing was not made, since with it more than the budget would have been fetched
pub record HasBudgetFetch (offset size : ℕ) (v : ListerState) : Type 0 where
  -- it is of no more than the window or a name may have
  pub unmade : IsRefusedFetch (max v.rooms.window v.limit) offset size v.counts v.source.size
  -- and came next in the entry that is the current one
  pub next : TellsSomeFetch (standpoint_in v) kind.Budget offset size v.counts.fetched

-- the budget is told only of such a fetch
abbrev pub HasBudgetCause : {T : Type 0} → Result T ToolFault → ListerState → Type 0
HasBudgetCause (Err (Budget offset size)) v = HasBudgetFetch offset size v
HasBudgetCause answer v = Unit {0}

-- that entry is one of those that are listed
abbrev pub IsOverInChosen : {T : Type 0} → Result T ToolFault → ListerState → Type 0
IsOverInChosen (Err (Budget offset size)) v = IsInChosen v
IsOverInChosen answer v = Unit {0}

-- a call that goes on with a listing tells the budget only of such a fetch, in such an entry if it began in one or in none
abbrev pub EndsByBudget : {T : Type 0} → ListerState → Result T ToolFault → ListerState → Type 0
EndsByBudget old (Err (Budget offset size)) new = HasBudgetFetch offset size new × (StandsInChosen old → IsInChosen new)
EndsByBudget old answer new = Unit {0}

-- no budget is told of what is read beside a listing
abbrev pub IsWithinBudget : {T : Type 0} → Result T ToolFault → Type 0
IsWithinBudget (Err (Budget offset size)) = ⊥
IsWithinBudget answer = Unit {0}

-- an opening did not make the fetch of these bytes, for the same reason
pub record HasOpeningFetch (choice : Choice) (limits : Limits) (old : SourceState) (offset size : ℕ) (new : SourceState) : Type 0 where
  pub unmade : KeepsToBudget limits old (opening.Budget offset size) new
  -- it came next: of the header, of the directory, or of the head of a chosen memory list
  pub next : TellsNextOpening (Some choice) limits old (opening.Budget offset size) new

-- what was fetched of a file that was refused is within the budget, which is told only of such a fetch
abbrev pub HasOpeningBudget : {T : Type 0} → Choice → Limits → SourceState → Result T ToolFault → SourceState → Type 0
HasOpeningBudget choice limits old (Err (Budget offset size)) new = HasOpeningFetch choice limits old offset size new
HasOpeningBudget choice limits old answer new = KeepsToBudget limits old opening.Memory new

-- of a file of so many bytes the budget may be told only where there is one, of bytes inside, no more than the window or a
-- name may have
abbrev pub MayReachBudget : {T : Type 0} → Limits → ℕ → Result T ToolFault → Type 0
MayReachBudget limits size (Err (Budget offset len)) = (limits.budget ≡ None → ⊥) × (IsInside offset len size × (len ≤ max limits.window limits.name))
MayReachBudget limits size answer = Unit {0}

-- a command that was run is not refused by its limit of memory
abbrev pub IsWithinMemory : {T : Type 0} → Result T ToolFault → Type 0
IsWithinMemory (Err (MemoryLimit held)) = ⊥
IsWithinMemory answer = Unit {0}

-- a file needs more memory than there may be: so many bytes for the lists of a lister of its entries and ranges, and so many that
-- are held beside them; of a known file this is what keeps it from being opened
pub record IsOverMemoryLimit (limits : Limits) (choice : Choice) (beside : ℕ) (old : SourceState) (held : ℕ) : Type 0 where
  pub over : is_within limits.memory held ≡ false
  pub listed : ℕ
  pub entries : ℕ
  pub ranges : ℕ
  pub held_is : held ≡ listed + beside
  pub listed_is : listed ≡ held_bound limits.window limits.name entries ranges
  pub inside : 12 * entries ≤ old.size
  pub of_file : (file : List ℕ) → old.store.content ≡ Some file → opening_fault_within (leaving beside limits) file choice ≡ Some (opening.MemoryLimit listed)

-- the limit of memory is reported only if the file needs more, out of memory only if the limit allows what was asked for. A known file
-- is refused for its first error within the limits.
abbrev pub HasMemoryCause : {T : Type 0} → Limits → Choice → ℕ → SourceState → Result T ToolFault → SourceState → Type 0
HasMemoryCause limits choice beside old (Err (MemoryLimit held)) new = IsOverMemoryLimit limits choice beside old held
HasMemoryCause limits choice beside old (Err Memory) new = IsOutOfMemory (leaving beside limits) choice old new
HasMemoryCause limits choice beside old (Err (Opening fault)) new = (file : List ℕ) → old.store.content ≡ Some file → opening_fault_within (leaving beside limits) file choice ≡ Some fault
HasMemoryCause limits choice beside old answer new = Unit {0}

-- which is so only if there is one
abbrev pub MayReachMemory : {T : Type 0} → Limits → Result T ToolFault → Type 0
MayReachMemory limits (Err (MemoryLimit held)) = is_within limits.memory held ≡ false
MayReachMemory limits answer = Unit {0}

-- ---- CodeView records

-- how many bytes of a CodeView record of so many are read at most, with names of at most `limit` bytes
abbrev pub symbols_cost : ℕ → ℕ → ℕ
symbols_cost limit size = min size (24 + limit)

-- the listing ends by the limit of what is read aside only at a record that lies inside the file, and with which more bytes than
-- that might have been read
abbrev pub HasAsideCause : {T : Type 0} → Option ℕ → Result T ToolFault → ListerState → Type 0
HasAsideCause aside (Err (AsideLimit offset size)) v = (is_within aside (v.counts.aside.bytes + size) ≡ false) × (IsInside offset size v.source.size × (size ≤ 24 + v.limit))
HasAsideCause aside answer v = Unit {0}

-- no more was read aside than may be
pub record KeepsAside {T : Type 0} (aside : Option ℕ) (answer : Result T ToolFault) (v : ListerState) : Type 0 where
  pub kept : is_within aside v.counts.aside.bytes ≡ true
  pub over : HasAsideCause aside answer v

-- of a file of so many bytes that limit may be told only if there is one, of a record inside
abbrev pub MayReachAside : {T : Type 0} → Option ℕ → Limits → ℕ → Result T ToolFault → Type 0
MayReachAside aside limits size (Err (AsideLimit offset len)) = (aside ≡ None → ⊥) × (IsInside offset len size × (len ≤ 24 + limits.name))
MayReachAside aside limits size answer = Unit {0}

-- the limits of a command that drops its source: each is reported only as these say. `most` is the limit on CodeView records.
pub record MayReachLimits {T : Type 0} (most : Option ℕ) (limits : Limits) (size : ℕ) (answer : Result T ToolFault) : Type 0 where
  pub budget : MayReachBudget limits size answer
  pub memory : MayReachMemory limits answer
  pub aside : MayReachAside most limits size answer

-- the output is at fault only where it refused
abbrev pub HasOutCause : {T : Type 0} → OutState → Result T ToolFault → OutState → Type 0
HasOutCause before (Err Out) after = HasRefused before.failures after.failures
HasOutCause before _ after = after.failures ≡ before.failures

-- a fault of the store and a limit that was reached are told as such, and so is that memory ran out
abbrev pub IsOfFile : OpenFault → Type 0
IsOfFile (opening.Source fault) = ⊥
IsOfFile (opening.Budget offset size) = ⊥
IsOfFile opening.Memory = ⊥
IsOfFile (opening.MemoryLimit held) = ⊥
IsOfFile fault = Unit {0}

-- an opening is refused for what is in a file of `size` bytes, and such a file may be refused so
abbrev pub IsOpeningTold : ℕ → OpenFault → Type 0
IsOpeningTold size fault = IsOfFile fault × IsOpenRefusal size fault

-- a fault of the listing is the file's own, and such a file may have it
abbrev pub IsListTold : ℕ → ListFault → Type 0
IsListTold size fault = (IsUnobtained fault.kind → ⊥) × FitsFile size fault

-- that the store has changed is told only where its content is not known
abbrev pub MayChange : {T : Type 0} → Option (List ℕ) → Result T ToolFault → Type 0
MayChange content (Err (Source fault)) = MayBeTold content (Some fault)
MayChange content answer = Unit {0}

-- a listing of a file of size bytes that is refused may be, and what is told of the file is its own; no listing is a copy
abbrev pub IsRefusal : {T : Type 0} → ℕ → Result T ToolFault → Type 0
IsRefusal size (Err (Opening fault)) = IsOpeningTold size fault
IsRefusal size (Err (BadList fault)) = IsListTold size fault
IsRefusal size (Err (Reading fault)) = ⊥
IsRefusal size (Err (Layout fault)) = ⊥
IsRefusal size (Err (NotCopied t)) = ⊥
IsRefusal size answer = Unit {0}
