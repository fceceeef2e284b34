-- A summary that was refused, or whose bytes were not read, of whatever file.
use Rattle.std.proofs.Common.{◌≡◌, ℕ, List, None, refl, subst}
use Rattle.std.specs.Prelude.{Result, Ok, Err, IfErr}
use Rattle.mdmp_source.specs.Output.{OutState}
use Rattle.mdmp_source.specs.Source.{FetchesAtMost, FetchesSome, IsTold, SourceState}
use Rattle.mdmp_source.specs.SourceLaws.{told_later}
use Rattle.mdmp_source.specs.declared.fault.SourceFault.{SourceFault}
use Rattle.mdmp_source.specs.declared.fault.SourceFault.TheVariants.{Changed, Failed, ShortRead}
use Rattle.mdmp_lister.specs.declared.fault.OpenFault.{OpenFault}
use Rattle.mdmp_lister.specs.declared.fault.OpenFault.TheVariants as opening
use Rattle.mdmp_lister.specs.declared.fault.FaultKind.{FaultKind}
use Rattle.mdmp_lister.specs.declared.fault.FaultKind.TheVariants as kinds
use Rattle.mdmp_lister.specs.declared.fault.ListFault.{ListFault}
use Rattle.mdmp_lister.specs.Fault.{IsOfStore, IsToldByFetch, IsUnobtained, TellsNoChange}
use Rattle.mdmp_lister.specs.Lister.{ListerState}
use Rattle.mdmp_lister.specs.Opening.{IsUnread, IsUnreadFor}
use Rattle.mdmp_lister.specs.Memory.{walk_fault}
use Rattle.mdmp_lister.specs.declared.limits.Limits.{Limits}
use Rattle.mdmp_summary.specs.Summary.{file_summary}
use Rattle.mdmp_summary.specs.declared.summary.FileSummary.{FileSummary}
use Rattle.mdmp_summary.specs.Summing.{IsCallFault, IsUnreadIn}
use Rattle.mdmp_summary.specs.declared.summary.SummaryFault.{SummaryFault}
use Rattle.mdmp_summary.specs.declared.summary.SummaryFault.TheVariants as faults
use Rattle.mdmp_engines.specs.Causes.{HasOutCause, HasSourceCause, IsNoSourceFault}
use Rattle.mdmp_engines.specs.SummaryRuns.{IsNameEnd, IsPrintedOrUnread, IsUnreadFault, Summarizes, summary_told, within_names}
use Rattle.mdmp_engines.specs.Telling.{opening_beside, opening_told, told_by}
use Rattle.mdmp_engines.specs.declared.fault.ToolFault.{ToolFault}
use Rattle.mdmp_engines.specs.declared.fault.ToolFault.TheVariants as tool
use Rattle.mdmp_dump.specs.Reading.{IsLastTold}

-- ---- a file that was not opened

pub out-refused : (beside : ℕ) (fault : OpenFault) (before : OutState) → HasOutCause {T = ℕ} before (Err (opening_beside beside fault)) before
out-refused beside (opening.Source f) before = refl
out-refused beside (opening.Budget offset size) before = refl
out-refused beside opening.Memory before = refl
out-refused beside (opening.MemoryLimit held) before = refl
out-refused beside fault before = refl

pub good-refused : (beside : ℕ) (fault : OpenFault) → (IsUnread fault → ⊥) → IsNoSourceFault {T = ℕ} (Err (opening_beside beside fault))
good-refused beside (opening.Source f) never = never tt
good-refused beside (opening.Budget offset size) never = tt
good-refused beside opening.Memory never = tt
good-refused beside (opening.MemoryLimit held) never = tt
good-refused beside fault never = tt

-- a fault that a fetch answered is never that the store has changed
pub last_told : (fault : SourceFault) (old new : SourceState) → IsTold fault old new → IsLastTold fault old new
last_told (Failed at) old new told = told
last_told (ShortRead at) old new told = told
last_told (Changed at) old new told = absurd told.cause

pub cause-refused : (beside : ℕ) (fault : OpenFault) (old new : SourceState) → IsUnreadFor fault old new → HasSourceCause {T = ℕ} old (Err (opening_beside beside fault)) new
cause-refused beside (opening.Source f) old new told = last_told f old new told.0
cause-refused beside (opening.Budget offset size) old new told = tt
cause-refused beside opening.Memory old new told = tt
cause-refused beside (opening.MemoryLimit held) old new told = tt
cause-refused beside fault old new told = tt

-- ---- errors as a command tells them

good-opening : (fault : OpenFault) → (IsUnread fault → ⊥) → IsNoSourceFault {T = ℕ} (Err (opening_told fault))
good-opening (opening.Source f) never = never tt
good-opening (opening.Budget offset size) never = tt
good-opening opening.Memory never = tt
good-opening (opening.MemoryLimit held) never = tt
good-opening fault never = tt

pub good-kind : (T : Type 0) (kind : FaultKind) (f : ListFault) → (IsOfStore kind → ⊥) → IsNoSourceFault {T = T} (Err (told_by kind f))
good-kind T (kinds.Source fault) f never = never tt
good-kind T kinds.Budget f never = tt
good-kind T kind f never = tt

unread-kind : (kind : FaultKind) (f : ListFault) → IsUnobtained kind → IsUnreadFault (told_by kind f)
unread-kind (kinds.Source fault) f is = tt
unread-kind kinds.Budget f is = tt
unread-kind kind f is = absurd is

pub cause-kind : (T : Type 0) (first : SourceState) (old new : ListerState) (kind : FaultKind) (f : ListFault) → FetchesSome first old.source
    → IsToldByFetch new.current kind old.source new.source → TellsNoChange kind → HasSourceCause {T = T} first (Err (told_by kind f)) new.source
cause-kind T first old new (kinds.Source (Failed at)) f fetches told same = told_later (Failed at) fetches.count first old.source new.source fetches.fetches told
cause-kind T first old new (kinds.Source (ShortRead at)) f fetches told same = told_later (ShortRead at) fetches.count first old.source new.source fetches.fetches told
cause-kind T first old new (kinds.Source (Changed at)) f fetches told same = absurd same
cause-kind T first old new kinds.Budget f fetches told same = tt
cause-kind T first old new kind f fetches told same = tt

-- ---- a file whose bytes were not all read

pub good-unread : (fault : SummaryFault) → (IsUnreadIn fault → ⊥) → IsNoSourceFault {T = ℕ} (Err (summary_told fault))
good-unread (faults.Opening fault) never = good-opening fault never
good-unread (faults.List f) never = good-kind ℕ f.kind f never
good-unread (faults.Source fault) never = never tt

pub is_unread : (old new : ListerState) (fault : SummaryFault) → IsCallFault old new fault → IsUnreadFault (summary_told fault)
is_unread old new (faults.Opening fault) told = absurd told
is_unread old new (faults.List f) told = unread-kind f.kind f told.unobtained
is_unread old new (faults.Source fault) told = tt

pub cause-unread : (first : SourceState) (old new : ListerState) (fault : SummaryFault) → FetchesSome first old.source → IsCallFault old new fault
    → HasSourceCause {T = ℕ} first (Err (summary_told fault)) new.source
cause-unread first old new (faults.Opening fault) fetches told = absurd told
cause-unread first old new (faults.List f) fetches told = cause-kind ℕ first old new f.kind f fetches told.look.told.by told.look.unchanged
cause-unread first old new (faults.Source fault) fetches told = last_told fault first new.source (told_later fault fetches.count first old.source new.source fetches.fetches told.told)

-- ---- a file whose names were read, or not

pub cause-named : (first old new : SourceState) (n : ℕ) (answer : Result ℕ ToolFault) → FetchesAtMost n first old → IfErr answer (IsNameEnd old new)
    → HasSourceCause first answer new
cause-named first old new n (Ok bad) fetches end = tt
cause-named first old new n (Err (tool.Source fault)) fetches end = last_told fault first new (told_later fault n first old new fetches end)
cause-named first old new n (Err tool.Out) fetches end = tt
cause-named first old new n (Err tool.Memory) fetches end = tt
cause-named first old new n (Err fault) fetches end = absurd end

-- the lines are those of the file
lines_of : (name F : List ℕ) (limits : Limits) (before : OutState) (answer : Result ℕ ToolFault) (after : OutState) → walk_fault (within_names limits) F ≡ None
    → IsPrintedOrUnread name F limits.name (file_summary F limits.name) before answer after → Summarizes name F limits before answer after
lines_of name F limits before answer after walks (IsPrintedOrUnread.unread fault unread is same) = Summarizes.unread fault walks unread is same
lines_of name F limits before answer after walks (IsPrintedOrUnread.printed tells puts) = Summarizes.printed walks tells puts

-- if the summary is
pub summarizes_told : (name F : List ℕ) (limits : Limits) (summary : FileSummary) (before : OutState) (answer : Result ℕ ToolFault) (after : OutState)
    → walk_fault (within_names limits) F ≡ None → summary ≡ file_summary F limits.name
    → IsPrintedOrUnread name F limits.name summary before answer after → Summarizes name F limits before answer after
summarizes_told name F limits summary before answer after walks is told =
    lines_of name F limits before answer after walks (subst (λ (s : FileSummary). IsPrintedOrUnread name F limits.name s before answer after) is told)
