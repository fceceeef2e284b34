-- What `summary --json` answers, and what it writes and reads.
use Rattle.std.specs.Prelude.{◌≡◌, ◌≤◌, ◌+◌, ◌*◌, ◌++◌, ℕ, List, Option, None, Some, Result, Ok, Err, IfErr, IfOk, false, sum_by}
use Rattle.mdmp_source.specs.Output.{OutState, PutsAll, PutsPrefix}
use Rattle.mdmp_source.specs.Source.{SourceState}
use Rattle.mdmp_source.specs.Store.{IsGood}
use Rattle.mdmp_lister.specs.Fault.{IsUnobtained}
use Rattle.mdmp_lister.specs.Lister.{ListerState}
use Rattle.mdmp_lister.specs.Memory.{IsWalkRefusal, leaving, walk_fault}
use Rattle.mdmp_lister.specs.Refused.{IsRefusedWalker}
use Rattle.mdmp_lister.specs.Walker.{IsNewWalker, WalkerState, is_failed}
use Rattle.mdmp_lister.specs.declared.choice.Choice.TheVariants.{All}
use Rattle.mdmp_lister.specs.declared.fault.OpenFault.{OpenFault}
use Rattle.mdmp_lister.specs.declared.item.Item.{Item}
use Rattle.mdmp_lister.specs.declared.limits.Limits.{Limits}
use Rattle.mdmp_lister.specs.declared.meter.Amount.{Amount}
use Rattle.mdmp_lister.specs.declared.sink.Stopped.{Stopped}
use Rattle.mdmp_summary.specs.BadEntries.{all_items}
use Rattle.mdmp_summary.specs.Spending.{PaysPasses, ReadsOutside, SpendsPasses}
use Rattle.mdmp_summary.specs.Summary.{file_summary}
use Rattle.mdmp_summary.specs.Summing.{IsCallFault, SpendsToFault}
use Rattle.mdmp_summary.specs.Visiting.{RisesOutside, Visits}
use Rattle.mdmp_summary.specs.Walking.{IsSameListing, KeepsItsBudget}
use Rattle.mdmp_summary.specs.declared.summary.SummaryFault.{SummaryFault}
use Rattle.mdmp_summary.specs.declared.visiting.VisitEnd.{VisitEnd}
use Rattle.mdmp_summary.specs.declared.visiting.VisitEnd.TheVariants as ends
use Rattle.mdmp_summary.specs.declared.visiting.VisitFault.{VisitFault}
use Rattle.mdmp_summary.specs.declared.visiting.VisitFault.TheVariants as faults
use Rattle.mdmp_summary_lines.specs.declared.names.SummaryNames.{SummaryNames}
use Rattle.mdmp_engines.specs.Causes.{HasBudgetCause, HasSourceCause, IsNoSourceFault}
use Rattle.mdmp_engines.specs.Engines.{RefusesWithin, StopsShort}
use Rattle.mdmp_engines.specs.KeptNames.{IsNameFault, ReadsNames, names_cost, names_room}
use Rattle.mdmp_engines.specs.ObjectVisits.{module_room, thread_room}
use Rattle.mdmp_engines.specs.SummaryObject.{object_text}
use Rattle.mdmp_engines.specs.SummaryRuns.{IsUnreadFault, summary_names, summary_told}
use Rattle.mdmp_engines.specs.Telling.{listing_told, opening_beside}
use Rattle.mdmp_engines.specs.declared.fault.ToolFault.{ToolFault}
use Rattle.mdmp_engines.specs.declared.fault.ToolFault.TheVariants as tool

-- how many bytes four names take at most
abbrev pub object_held : Limits → ℕ
object_held limits = 4 * limits.name

abbrev pub within_object : Limits → Limits
within_object limits = leaving (object_held limits) limits

-- the error of a pass, as a command tells it
abbrev pub visit_told : VisitFault → ToolFault
visit_told (faults.List fault) = listing_told fault
visit_told (faults.Ended ends.Stopped) = tool.Out
visit_told (faults.Ended (ends.Source fault)) = tool.Source fault

-- ---- a text that is printed while a file is read

-- all of it; or its first part, if the output refused or bytes were not read
abbrev pub PrintsWhileRead : {T : Type 0} → List ℕ → OutState → Result T ToolFault → OutState → Type 0
PrintsWhileRead text before (Ok x) after = PutsAll before text after
PrintsWhileRead text before (Err tool.Out) after = PutsPrefix before text after
PrintsWhileRead text before (Err fault) after = IsUnreadFault fault × StopsShort before text after

-- what may end the printing of an object: that the output refused, or that bytes were not read
abbrev pub IsPrintEnd : {T : Type 0} → Result T ToolFault → Type 0
IsPrintEnd (Ok x) = Unit {0}
IsPrintEnd (Err tool.Out) = Unit {0}
IsPrintEnd (Err (tool.Source fault)) = Unit {0}
IsPrintEnd (Err (tool.Budget offset size)) = Unit {0}
IsPrintEnd (Err fault) = ⊥

-- ---- what is read, whatever the file holds

abbrev pub AreItems : {T : Type 0} → List Item → List Item → Result T ToolFault → Type 0
AreItems all items (Ok x) = all ≡ items
AreItems all items (Err fault) = (rest : List Item) × (all ≡ items ++ rest)

-- items were shown to a visitor, of a known file all of them or the first; it read no more than there is room for
pub record ReadsItems {T : Type 0} (room : Item → Amount) (limit : ℕ) (content : Option (List ℕ)) (result : Result T ToolFault) (old new : Amount) : Type 0 where
  pub items : List Item
  pub outside : RisesOutside room items old new
  pub all : (file : List ℕ) → content ≡ Some file → AreItems (all_items file limit) items result

-- how a pass ended, as a command tells it
abbrev pub outcome_told : Result (Unit {0}) VisitFault → Result (Unit {0}) ToolFault
outcome_told (Ok done) = Ok done
outcome_told (Err fault) = Err (visit_told fault)

-- an error of the listing is one of bytes that were not read
abbrev pub IsUnreadPass : Result (Unit {0}) VisitFault → Type 0
IsUnreadPass (Err (faults.List fault)) = IsUnobtained fault.kind
IsUnreadPass outcome = Unit {0}

-- what a visitor was shown in a pass
pub record ShowsAll {K : Type 0} (taken : K → Item → Result (Unit {0}) Stopped → K → Type 0) (looked : Option (List ℕ) → ℕ → K → Result (Unit {0}) VisitEnd → K → Type 0)
    (room : Item → Amount) (old : ListerState) (k : K) (result : Result (Unit {0}) ToolFault) (new : ListerState) (l : K) : Type 0 where
  pub outcome : Result (Unit {0}) VisitFault
  pub told : result ≡ outcome_told outcome
  pub unread : IsUnreadPass outcome
  pub visits : Visits taken looked room old k outcome new l

-- so many passes were made or begun, and what they leave
pub record LeavesPasses {T : Type 0} (passes : ℕ) (old : WalkerState) (result : Result T ToolFault) (new : WalkerState) : Type 0 where
  pub pays : PaysPasses passes old new
  pub same : IsSameListing old.list new.list
  pub good : (file : List ℕ) → IsGood old.list.source.store file → IsNoSourceFault result
  pub cause : HasSourceCause old.list.source result new.list.source
  pub over : HasBudgetCause result new.list
  pub going : IfOk result (λ x. is_failed new.list.stop ≡ false)
  pub stops : IsPrintEnd result

-- the items of both passes
pub record ReadsLists {T : Type 0} (limit : ℕ) (content : Option (List ℕ)) (result : Result T ToolFault) (old new : Amount) : Type 0 where
  pub modules : List Item
  pub threads : List Item
  -- of each module its CodeView record, at most 24 bytes and a name, and 272 bytes for each thread
  pub bytes : new.bytes ≤ old.bytes + sum_by (λ x. (module_room limit x).bytes) modules + sum_by (λ x. (thread_room 0 x).bytes) threads
  pub all : (file : List ℕ) → content ≡ Some file → AreItems (all_items file limit) modules result × AreItems (all_items file limit) threads result

-- an object is printed, and then the answer is how many entries are bad
abbrev pub PrintsAnswer : List ℕ → ℕ → OutState → Result ℕ ToolFault → OutState → Type 0
PrintsAnswer text bad before (Ok n) after = (n ≡ bad) × PutsAll before text after
PrintsAnswer text bad before (Err fault) after = PrintsWhileRead {T = ℕ} text before (Err fault) after

-- the same through blocks, the last of which is flushed
abbrev pub PrintsThrough : List ℕ → ℕ → OutState → Result ℕ ToolFault → OutState → Type 0
PrintsThrough text bad before (Err tool.Out) after = RefusesWithin before text after
PrintsThrough text bad before answer after = PrintsAnswer text bad before answer after

-- how an open file was read after the passes of its summary: a name was not read, or memory ran out, and nothing was printed; or
-- both lists were printed
pub data ReadsObject (told : List ℕ → SummaryNames) (old : WalkerState) (before : OutState) (answer : Result ℕ ToolFault) (new : WalkerState) (after : OutState) : Type 0 where
  unread : IfErr answer (IsNameFault old.list.source new.list.source) → ReadsOutside (names_cost (names_room old.list.limit)) old new → after ≡ before
      → ReadsObject told old before answer new after
  printed : (named : WalkerState) → ReadsNames old.list.limit told old named → LeavesPasses 2 named answer new
      → ReadsLists old.list.limit old.list.source.store.content answer named.list.counts.aside new.list.counts.aside → ReadsObject told old before answer new after

-- how the source was read, whatever it holds: the file was not opened; or the passes of its summary were made, or ended by an error
-- that has its cause and its place in them; or its object was printed too. They read no more than is said here, and all passes together
-- no more than the budget. Nothing was printed before the passes of the summary were made and the names were read
pub data IsObjectThrough (limits : Limits) (old : SourceState) (before : OutState) (answer : Result ℕ ToolFault) (new : SourceState) (after : OutState) : Type 0 where
  refused : (fault : OpenFault) → IsRefusedWalker (within_object limits) old fault new → answer ≡ Err (opening_beside (object_held limits) fault) → after ≡ before
      → IsObjectThrough limits old before answer new after
  unread : (opened ended : WalkerState) (fault : SummaryFault) → IsNewWalker old All (within_object limits) opened → SpendsToFault fault opened ended
      → KeepsItsBudget opened.list ended.list → IsCallFault opened.list ended.list fault → answer ≡ Err (summary_told fault) → new ≡ ended.list.source → after ≡ before
      → IsObjectThrough limits old before answer new after
  printed : (opened ended last : WalkerState) → IsNewWalker old All (within_object limits) opened → SpendsPasses 2 1 opened ended
      → KeepsItsBudget opened.list ended.list → ReadsObject (summary_names limits.name) ended before answer last after → KeepsItsBudget ended.list last.list → new ≡ last.list.source → IsObjectThrough limits old before answer new after

-- an error leaves the output as it was, but the output's own, and that bytes were not read
abbrev pub IsQuietObject : Result ℕ ToolFault → Type 0 → Type 0
IsQuietObject (Ok bad) untouched = Unit {0}
IsQuietObject (Err tool.Out) untouched = Unit {0}
IsQuietObject (Err (tool.Source fault)) untouched = Unit {0}
IsQuietObject (Err (tool.Budget offset size)) untouched = Unit {0}
IsQuietObject (Err fault) untouched = untouched

-- ---- the object

-- `summary --json` of a file of this name with these bytes: it can't be opened; or its object is printed, as far as its bytes are
-- read
pub data PrintsObject (name F : List ℕ) (limits : Limits) (before : OutState) (answer : Result ℕ ToolFault) (after : OutState) : Type 0 where
  refused : (fault : OpenFault) → IsWalkRefusal (within_object limits) F fault → answer ≡ Err (opening_beside (object_held limits) fault) → after ≡ before
      → PrintsObject name F limits before answer after
  printed : walk_fault (within_object limits) F ≡ None → PrintsThrough (object_text name F limits) (file_summary F limits.name).bad.count before answer after
      → PrintsObject name F limits before answer after
