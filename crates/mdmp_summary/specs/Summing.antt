-- Why there may be no summary.
use Rattle.std.specs.Prelude.{◌≡◌, ℕ, List, Option, None, Some, Result, Ok, Err, IfErr, false}
use Rattle.mdmp_source.specs.Source.{IsTold, SourceState}
use Rattle.mdmp_source.specs.declared.fault.SourceFault.{SourceFault}
use Rattle.mdmp_lister.specs.declared.choice.Choice.TheVariants.{All}
use Rattle.mdmp_lister.specs.declared.fault.OpenFault.{OpenFault}
use Rattle.mdmp_lister.specs.declared.fault.OpenFault.TheVariants as opening
use Rattle.mdmp_lister.specs.declared.limits.Limits.{Limits}
use Rattle.mdmp_lister.specs.Fault.{IsOfStore, IsUnobtained}
use Rattle.mdmp_lister.specs.Lister.{ListerState}
use Rattle.mdmp_lister.specs.Memory.{IsWalkRefusal}
use Rattle.mdmp_lister.specs.Opening.{IsUnread}
use Rattle.mdmp_lister.specs.Refused.{IsRefusedWalker}
use Rattle.mdmp_lister.specs.Walker.{IsNewWalker, WalkerState, is_failed}
use Rattle.mdmp_summary.specs.Spending.{ReadsNoneSince, SpendsPasses}
use Rattle.mdmp_summary.specs.Walking.{IsPassFault, KeepsItsBudget}
use Rattle.mdmp_summary.specs.declared.summary.Crash.{Crash}
use Rattle.mdmp_summary.specs.declared.summary.FileSummary.{FileSummary}
use Rattle.mdmp_summary.specs.declared.summary.SummaryFault.{SummaryFault}
use Rattle.mdmp_summary.specs.declared.summary.SummaryFault.TheVariants as faults

-- the file can't be listed within these limits, or memory ran out; or bytes were not read, because the store failed or the read
-- limit was reached
abbrev pub IsSummaryFault : Limits → List ℕ → SummaryFault → Type 0
IsSummaryFault limits F (faults.Opening fault) = IsWalkRefusal limits F fault
IsSummaryFault limits F (faults.List fault) = IsUnobtained fault.kind
IsSummaryFault limits F (faults.Source fault) = Unit {0}

-- if the store never fails and there is no read limit, only the file or the memory can be at fault
abbrev pub IsFileFault : Limits → List ℕ → SummaryFault → Type 0
IsFileFault limits F (faults.Opening (opening.Source fault)) = ⊥
IsFileFault limits F (faults.Opening (opening.Budget offset size)) = ⊥
IsFileFault limits F (faults.Opening fault) = IsWalkRefusal limits F fault
IsFileFault limits F (faults.List fault) = ⊥
IsFileFault limits F (faults.Source fault) = ⊥

-- the error of a context that was not read: the store failed in this call, and the listing has not failed
pub record IsContextFault (old new : ListerState) (fault : SourceFault) : Type 0 where
  pub told : IsTold fault old.source new.source
  pub going : is_failed new.stop ≡ false

-- the error of a summary of a file that is open: bytes were not read. It has its cause in this call, and its place: that of an entry is
-- the one with which the listing has failed
abbrev pub IsCallFault : ListerState → ListerState → SummaryFault → Type 0
IsCallFault old new (faults.Opening fault) = ⊥
IsCallFault old new (faults.List fault) = IsPassFault old new fault
IsCallFault old new (faults.Source fault) = IsContextFault old new fault

-- it is the store that failed
abbrev pub IsUnreadIn : SummaryFault → Type 0
IsUnreadIn (faults.Opening fault) = IsUnread fault
IsUnreadIn (faults.List fault) = IsOfStore fault.kind
IsUnreadIn (faults.Source fault) = Unit {0}

-- a summary without a crash takes one pass and no context, another one takes two passes and a context
abbrev pub passes_for : {C : Type 0} → Option C → ℕ
passes_for None = 1
passes_for (Some crash) = 2

abbrev pub contexts_for : {C : Type 0} → Option C → ℕ
contexts_for None = 0
contexts_for (Some crash) = 1

-- before an error one pass was made and a context was not read, and nothing after that; or an entry was not read in the first pass
-- or the second, and nothing outside the listing since that entry was begun
abbrev pub SpendsToFault : SummaryFault → WalkerState → WalkerState → Type 0
SpendsToFault (faults.Opening fault) old new = ⊥
SpendsToFault (faults.List fault) old new = SpendsPasses 2 1 old new × ReadsNoneSince new
SpendsToFault (faults.Source fault) old new = SpendsPasses 1 1 old new

-- the same of a crash, which is told by a context and one pass
abbrev pub SpendsCrash : Result Crash SummaryFault → WalkerState → WalkerState → Type 0
SpendsCrash (Ok crash) old new = SpendsPasses 1 1 old new
SpendsCrash (Err (faults.Opening fault)) old new = ⊥
SpendsCrash (Err (faults.List fault)) old new = SpendsPasses 1 1 old new × ReadsNoneSince new
SpendsCrash (Err (faults.Source fault)) old new = SpendsPasses 0 1 old new

-- so many were made, or those before an error
abbrev pub SpendsSummary : Result FileSummary SummaryFault → WalkerState → WalkerState → Type 0
SpendsSummary (Ok summary) old new = SpendsPasses (passes_for summary.crash) (contexts_for summary.crash) old new
SpendsSummary (Err fault) old new = SpendsToFault fault old new

-- how a source was read before it was dropped: its opening was refused, and says why; or a walker that was just opened made the
-- passes, and read no more than these, with an error that has its cause and its place in them, and kept to its budget
pub data IsSummarizedThrough (may_go : SourceState → Type 0) (limits : Limits) (source : SourceState) (result : Result FileSummary SummaryFault) : Type 0 where
  refused : (fault : OpenFault) (new : SourceState) → result ≡ Err (faults.Opening fault) → IsRefusedWalker limits source fault new → may_go new
      → IsSummarizedThrough may_go limits source result
  passed : (old new : WalkerState) → IsNewWalker source All limits old → SpendsSummary result old new → KeepsItsBudget old.list new.list
      → IfErr result (IsCallFault old.list new.list) → may_go new.list.source → IsSummarizedThrough may_go limits source result
