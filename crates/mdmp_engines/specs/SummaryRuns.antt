-- What `summary` answers, and what it writes.
use Rattle.std.specs.Prelude.{◌≡◌, ◌*◌, ℕ, List, None, Some, Result, Ok, Err, IfErr, MatchResult, false}
use Rattle.mdmp_source.specs.Output.{OutState, Puts}
use Rattle.mdmp_source.specs.Source.{FetchesAtMost, FetchesSome, IsTold, SourceState}
use Rattle.mdmp_lister.specs.Memory.{IsWalkRefusal, leaving, walk_fault}
use Rattle.mdmp_lister.specs.Refused.{IsRefusedWalker}
use Rattle.mdmp_lister.specs.Walker.{IsNewWalker, WalkerState, is_failed}
use Rattle.mdmp_lister.specs.declared.choice.Choice.TheVariants.{All}
use Rattle.mdmp_lister.specs.declared.fault.OpenFault.{OpenFault}
use Rattle.mdmp_lister.specs.declared.limits.Limits.{Limits}
use Rattle.mdmp_summary.specs.Spending.{SpendsPasses}
use Rattle.mdmp_summary.specs.Summary.{file_summary}
use Rattle.mdmp_summary.specs.Summing.{IsCallFault, SpendsToFault}
use Rattle.mdmp_summary.specs.Walking.{KeepsItsBudget}
use Rattle.mdmp_summary.specs.declared.summary.FileSummary.{FileSummary}
use Rattle.mdmp_summary.specs.declared.summary.SummaryFault.{SummaryFault}
use Rattle.mdmp_summary.specs.declared.summary.SummaryFault.TheVariants as faults
use Rattle.mdmp_summary_lines.specs.SummaryText.{summary_text}
use Rattle.mdmp_summary_lines.specs.declared.names.SummaryNames.{SummaryNames}
use Rattle.mdmp_engines.specs.KeptNames.{told_names, told_bytes, names_room}
use Rattle.mdmp_engines.specs.Telling.{listing_told, opening_beside, opening_told}
use Rattle.mdmp_engines.specs.declared.fault.ToolFault.{ToolFault}
use Rattle.mdmp_engines.specs.declared.fault.ToolFault.TheVariants as tool

-- how many bytes three names take at most
abbrev pub names_held : Limits → ℕ
names_held limits = 3 * limits.name

-- the limits of a walk beside which three names are held
abbrev pub within_names : Limits → Limits
within_names limits = leaving (names_held limits) limits

-- the error of a summary, as a command tells it
abbrev pub summary_told : SummaryFault → ToolFault
summary_told (faults.Opening fault) = opening_told fault
summary_told (faults.List fault) = listing_told fault
summary_told (faults.Source fault) = tool.Source fault

-- ---- a summary, for a command that holds so many bytes beside the walk

-- the file was opened, and both passes were made within the budget
pub record IsSummed (beside : ℕ) (limits : Limits) (old : SourceState) (walker : WalkerState) (summary : FileSummary) : Type 0 where
  pub opened : WalkerState
  pub is_new : IsNewWalker old All (leaving beside limits) opened
  pub spends : SpendsPasses 2 1 opened walker
  pub keeps : KeepsItsBudget opened.list walker.list
  pub fetches : FetchesSome old walker.list.source
  pub choice_is : walker.list.choice ≡ All
  pub limit_is : walker.list.limit ≡ limits.name
  pub going : is_failed walker.list.stop ≡ false
  pub opens : (file : List ℕ) → old.store.content ≡ Some file → walk_fault (leaving beside limits) file ≡ None
  pub sums : (file : List ℕ) → old.store.content ≡ Some file → summary ≡ file_summary file limits.name

-- the file was not opened; or the passes ended by an error, which has its cause and its place in them
pub data IsUnsummed (beside : ℕ) (limits : Limits) (old : SourceState) (answer : Result ℕ ToolFault) (new : SourceState) : Type 0 where
  refused : (fault : OpenFault) → IsRefusedWalker (leaving beside limits) old fault new
      → ((file : List ℕ) → old.store.content ≡ Some file → IsWalkRefusal (leaving beside limits) file fault)
      → answer ≡ Err (opening_beside beside fault) → IsUnsummed beside limits old answer new
  unread : (opened ended : WalkerState) (fault : SummaryFault) → IsNewWalker old All (leaving beside limits) opened
      → ((file : List ℕ) → old.store.content ≡ Some file → walk_fault (leaving beside limits) file ≡ None) → SpendsToFault fault opened ended
      → KeepsItsBudget opened.list ended.list → IsCallFault opened.list ended.list fault → answer ≡ Err (summary_told fault) → new ≡ ended.list.source
      → IsUnsummed beside limits old answer new

-- the names that the summary of a file tells
abbrev pub summary_names : (limit : ℕ) → List ℕ → SummaryNames
summary_names limit F = told_names F limit (file_summary F limit)

-- ---- a run

-- the summary of F, a file of this name
abbrev pub file_lines : (name F : List ℕ) → ℕ → List ℕ
file_lines name F limit = summary_text name (file_summary F limit) (summary_names limit F)

-- bytes of an open file were not read, or memory ran out
abbrev pub IsUnreadFault : ToolFault → Type 0
IsUnreadFault (tool.Source fault) = Unit {0}
IsUnreadFault (tool.Budget offset size) = Unit {0}
IsUnreadFault tool.Memory = Unit {0}
IsUnreadFault fault = ⊥

-- how many entries are bad, or that the output failed
abbrev pub TellsBad : List ℕ → ℕ → Result ℕ ToolFault → Type 0
TellsBad F limit answer = MatchResult answer (λ bad. bad ≡ (file_summary F limit).bad.count) (λ fault. fault ≡ tool.Out)

-- `summary` of a file of this name with these bytes: it can't be opened, bytes of it are not read, or its lines are printed. Only
-- then something is written
pub data Summarizes (name F : List ℕ) (limits : Limits) (before : OutState) (answer : Result ℕ ToolFault) (after : OutState) : Type 0 where
  refused : (fault : OpenFault) → IsWalkRefusal (within_names limits) F fault → answer ≡ Err (opening_beside (names_held limits) fault) → after ≡ before
      → Summarizes name F limits before answer after
  unread : (fault : ToolFault) → walk_fault (within_names limits) F ≡ None → IsUnreadFault fault → answer ≡ Err fault → after ≡ before
      → Summarizes name F limits before answer after
  printed : walk_fault (within_names limits) F ≡ None → TellsBad F limits.name answer → Puts answer before (file_lines name F limits.name) after
      → Summarizes name F limits before answer after

-- the names of a summary of F were read, and its lines printed; or a name was not read
pub data IsPrintedOrUnread (name F : List ℕ) (limit : ℕ) (summary : FileSummary) (before : OutState) (answer : Result ℕ ToolFault) (after : OutState) : Type 0 where
  unread : (fault : ToolFault) → IsUnreadFault fault → answer ≡ Err fault → after ≡ before → IsPrintedOrUnread name F limit summary before answer after
  printed : MatchResult answer (λ bad. bad ≡ summary.bad.count) (λ fault. fault ≡ tool.Out)
      → Puts answer before (summary_text name summary (told_names F limit summary)) after → IsPrintedOrUnread name F limit summary before answer after

-- all names of a summary were read: its lines were printed, or the output refused
abbrev pub IsNamed : Result ℕ ToolFault → Type 0
IsNamed (Ok bad) = Unit {0}
IsNamed (Err tool.Out) = Unit {0}
IsNamed (Err fault) = ⊥

-- so much was fetched for these names: at most three of `limit` bytes, and of a known file those that are told, if all were read
pub record FetchesTold (limit : ℕ) (told : List ℕ → SummaryNames) (answer : Result ℕ ToolFault) (old new : SourceState) : Type 0 where
  pub most : FetchesAtMost (names_room limit) old new
  pub all : IsNamed answer → (file : List ℕ) → old.store.content ≡ Some file → FetchesAtMost (told_bytes (told file)) old new

-- the error of a name, or the output's
abbrev pub IsNameEnd : SourceState → SourceState → ToolFault → Type 0
IsNameEnd old new tool.Out = Unit {0}
IsNameEnd old new tool.Memory = Unit {0}
IsNameEnd old new (tool.Source fault) = IsTold fault old new
IsNameEnd old new fault = ⊥

-- how the source was read, whatever it holds: the file was not opened; or both passes were made, or ended by an error that has
-- its cause and its place in them; or the names were read too. They read no more than is said here, and the passes no more than the
-- budget
pub data IsSummedThrough (limits : Limits) (old : SourceState) (answer : Result ℕ ToolFault) (new : SourceState) : Type 0 where
  refused : (fault : OpenFault) → IsRefusedWalker (within_names limits) old fault new → answer ≡ Err (opening_beside (names_held limits) fault)
      → IsSummedThrough limits old answer new
  unread : (opened ended : WalkerState) (fault : SummaryFault) → IsNewWalker old All (within_names limits) opened → SpendsToFault fault opened ended
      → KeepsItsBudget opened.list ended.list → IsCallFault opened.list ended.list fault → answer ≡ Err (summary_told fault) → new ≡ ended.list.source
      → IsSummedThrough limits old answer new
  summed : (opened ended : WalkerState) → IsNewWalker old All (within_names limits) opened → SpendsPasses 2 1 opened ended
      → KeepsItsBudget opened.list ended.list → FetchesTold limits.name (summary_names limits.name) answer ended.list.source new
      → IfErr answer (IsNameEnd ended.list.source new) → IsSummedThrough limits old answer new

-- an error but the output's leaves the output as it was
abbrev pub IsQuietSummary : Result ℕ ToolFault → Type 0 → Type 0
IsQuietSummary (Ok bad) untouched = Unit {0}
IsQuietSummary (Err tool.Out) untouched = Unit {0}
IsQuietSummary (Err fault) untouched = untouched
