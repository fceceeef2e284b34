-- What a command answers and leaves that has no summary to print.
use Rattle.std.proofs.Common.{◌≡◌, ℕ, List, Some, Ok, Err, refl, subst, sym}
use Rattle.std.specs.Prelude.{Result}
use Rattle.mdmp_source.specs.Output.{OutState}
use Rattle.mdmp_source.specs.Source.{SourceState}
use Rattle.mdmp_lister.specs.declared.limits.Limits.{Limits}
use Rattle.mdmp_summary.specs.Summary.{file_summary}
use Rattle.mdmp_engines.specs.Causes.{HasOutCause}
use Rattle.mdmp_engines.specs.ObjectRuns.{IsObjectThrough, PrintsObject, PrintsThrough, object_held}
use Rattle.mdmp_engines.specs.SummaryObject.{object_text}
use Rattle.mdmp_engines.specs.SummaryRuns.{IsQuietSummary, IsSummedThrough, IsUnsummed, Summarizes, names_held, summary_told}
use Rattle.mdmp_engines.specs.declared.fault.ToolFault.{ToolFault}
use Rattle.mdmp_engines.specs.declared.fault.ToolFault.TheVariants as tool
use Rattle.mdmp_engines.proofs.ObjectNames.{unread_answer, unread_steady}
use Rattle.mdmp_engines.proofs.Summarizing.{is_unread, out-refused}

-- the output is as it was
pub quiet_unsummed : (answer : Result ℕ ToolFault) (untouched : Type 0) → untouched → IsQuietSummary answer untouched
quiet_unsummed (Ok bad) untouched is = tt
quiet_unsummed (Err tool.Out) untouched is = tt
quiet_unsummed (Err fault) untouched is = is

pub unsummed_out : (beside : ℕ) (limits : Limits) (old : SourceState) (answer : Result ℕ ToolFault) (new : SourceState) (before : OutState) → IsUnsummed beside limits old answer new
    → HasOutCause before answer before
unsummed_out beside limits old answer new before (IsUnsummed.refused fault refused within is) =
    subst (λ (r : Result ℕ ToolFault). HasOutCause before r before) (sym is) (out-refused beside fault before)
unsummed_out beside limits old answer new before (IsUnsummed.unread opened ended fault walk within spends same call is last) =
    subst (λ (r : Result ℕ ToolFault). HasOutCause before r before) (sym is) (unread_steady (summary_told fault) before (is_unread opened.list ended.list fault call))

module _ (limits : Limits) (old : SourceState) (answer : Result ℕ ToolFault) (new : SourceState) where
  -- ---- lines

  pub unsummed_lines : (name F : List ℕ) (before : OutState) → old.store.content ≡ Some F → IsUnsummed (names_held limits) limits old answer new → Summarizes name F limits before answer before
  unsummed_lines name F before known (IsUnsummed.refused fault refused within is) = Summarizes.refused fault (within F known) is refl
  unsummed_lines name F before known (IsUnsummed.unread opened ended fault walk within spends same call is last) =
      Summarizes.unread (summary_told fault) (within F known) (is_unread opened.list ended.list fault call) is refl

  pub unsummed_through : IsUnsummed (names_held limits) limits old answer new → IsSummedThrough limits old answer new
  unsummed_through (IsUnsummed.refused fault refused within is) = IsSummedThrough.refused fault refused is
  unsummed_through (IsUnsummed.unread opened ended fault walk within spends same call is last) = IsSummedThrough.unread opened ended fault walk spends same call is last

  -- ---- an object

  pub unsummed_object : (name F : List ℕ) (before : OutState) → old.store.content ≡ Some F → IsUnsummed (object_held limits) limits old answer new → PrintsObject name F limits before answer before
  unsummed_object name F before known (IsUnsummed.refused fault refused within is) = PrintsObject.refused fault (within F known) is refl
  unsummed_object name F before known (IsUnsummed.unread opened ended fault walk within spends same call is last) =
      let bad = (file_summary F limits.name).bad.count in
      PrintsObject.printed (within F known)
      (subst (λ (r : Result ℕ ToolFault). PrintsThrough (object_text name F limits) bad before r before) (sym is)
      (unread_answer (summary_told fault) (object_text name F limits) bad before (is_unread opened.list ended.list fault call)))

  pub unsummed_object_through : (before : OutState) → IsUnsummed (object_held limits) limits old answer new → IsObjectThrough limits old before answer new before
  unsummed_object_through before (IsUnsummed.refused fault refused within is) = IsObjectThrough.refused fault refused is refl
  unsummed_object_through before (IsUnsummed.unread opened ended fault walk within spends same call is last) = IsObjectThrough.unread opened ended fault walk spends same call is last refl
