-- What is printed and read of an object around its names.
use Rattle.std.proofs.Common.{◌≡◌, ℕ, List, [], Some, Result, Ok, Err, refl, subst}
use Rattle.mdmp_source.specs.Output.{OutState}
use Rattle.mdmp_source.specs.OutputLaws.{PutsAll-nothing}
use Rattle.mdmp_source.specs.Source.{SourceState}
use Rattle.mdmp_lister.specs.Walker.{WalkerState}
use Rattle.mdmp_summary.specs.Spending.{ReadsOutside}
use Rattle.mdmp_summary_lines.specs.declared.names.SummaryNames.{SummaryNames}
use Rattle.mdmp_engines.specs.Causes.{HasOutCause, HasSourceCause}
use Rattle.mdmp_engines.specs.KeptNames.{IsNameFault, told_bytes, names_cost}
use Rattle.mdmp_engines.specs.ObjectRuns.{IsPrintEnd, IsQuietObject, PrintsThrough, ReadsObject}
use Rattle.mdmp_engines.specs.SummaryRuns.{IsUnreadFault}
use Rattle.mdmp_engines.specs.declared.fault.ToolFault.{ToolFault}
use Rattle.mdmp_engines.specs.declared.fault.ToolFault.TheVariants as tool
use Rattle.mdmp_engines.proofs.Objects.{short_put}
use Rattle.mdmp_engines.proofs.Summarizing.{last_told}

-- ---- a name that was not read

pub unread_prints : (old new : SourceState) (f : ToolFault) (text : List ℕ) (bad : ℕ) (before : OutState) → IsNameFault old new f → PrintsThrough text bad before (Err f) before
unread_prints old new tool.Memory text bad before is = (tt, short_put before before [] text (PutsAll-nothing before))
unread_prints old new (tool.Source s) text bad before is = (tt, short_put before before [] text (PutsAll-nothing before))
unread_prints old new f text bad before is = absurd is

pub unread_cause : (old new : SourceState) (f : ToolFault) → IsNameFault old new f → HasSourceCause {T = ℕ} old (Err f) new
unread_cause old new tool.Memory is = tt
unread_cause old new (tool.Source s) is = last_told s old new is
unread_cause old new f is = absurd is

pub unread_out : (old new : SourceState) (f : ToolFault) (before : OutState) → IsNameFault old new f → HasOutCause {T = ℕ} before (Err f) before
unread_out old new tool.Memory before is = refl
unread_out old new (tool.Source s) before is = refl
unread_out old new f before is = absurd is

-- ---- bytes of the listing that were not read

pub unread_answer : (f : ToolFault) (text : List ℕ) (bad : ℕ) (before : OutState) → IsUnreadFault f → PrintsThrough text bad before (Err f) before
unread_answer (tool.Source s) text bad before is = (tt, short_put before before [] text (PutsAll-nothing before))
unread_answer (tool.Budget offset size) text bad before is = (tt, short_put before before [] text (PutsAll-nothing before))
unread_answer tool.Memory text bad before is = (tt, short_put before before [] text (PutsAll-nothing before))
unread_answer f text bad before is = absurd is

pub unread_steady : (f : ToolFault) (before : OutState) → IsUnreadFault f → HasOutCause {T = ℕ} before (Err f) before
unread_steady (tool.Source s) before is = refl
unread_steady (tool.Budget offset size) before is = refl
unread_steady tool.Memory before is = refl
unread_steady f before is = absurd is

-- ---- nothing was printed

pub quiet_untouched : (r : Result ℕ ToolFault) (untouched : Type 0) → untouched → IsQuietObject r untouched
quiet_untouched (Ok bad) untouched is = tt
quiet_untouched (Err tool.Out) untouched is = tt
quiet_untouched (Err (tool.Source s)) untouched is = tt
quiet_untouched (Err (tool.Budget offset size)) untouched is = tt
quiet_untouched (Err f) untouched is = is

-- or no such error ended it
pub quiet_printed : (r : Result ℕ ToolFault) (untouched : Type 0) → IsPrintEnd r → IsQuietObject r untouched
quiet_printed (Ok bad) untouched stops = tt
quiet_printed (Err tool.Out) untouched stops = tt
quiet_printed (Err (tool.Source s)) untouched stops = tt
quiet_printed (Err (tool.Budget offset size)) untouched stops = tt
quiet_printed (Err f) untouched stops = absurd stops

-- ---- the names that are told

pub object_as_told : (told other : List ℕ → SummaryNames) (old : WalkerState) (before : OutState) (answer : Result ℕ ToolFault) (new : WalkerState) (after : OutState)
    → ((file : List ℕ) → old.list.source.store.content ≡ Some file → told file ≡ other file) → ReadsObject told old before answer new after → ReadsObject other old before answer new after
object_as_told told other old before answer new after same (ReadsObject.unread fault reads quiet) = ReadsObject.unread fault reads quiet
object_as_told told other old before answer new after same (ReadsObject.printed named reads leaves lists) = ReadsObject.printed named (record {
  most = reads.most;
  all = λ file known. subst (λ (n : SummaryNames). ReadsOutside (names_cost (told_bytes n)) old named) (same file known) (reads.all file known);
}) leaves lists
