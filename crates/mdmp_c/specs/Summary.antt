-- What a call that gives a summary answers.
use Rattle.std.specs.Prelude.{◌≡◌, ℕ, List, Some, None}
use Rattle.mdmp_lister.specs.declared.choice.Choice.TheVariants.{All}
use Rattle.mdmp_lister.specs.declared.fault.OpenFault.{OpenFault}
use Rattle.mdmp_lister.specs.declared.limits.Limits.{Limits}
use Rattle.mdmp_lister.specs.Format.Refusal.{directory_refusal}
use Rattle.mdmp_lister.specs.Memory.{walk_fault}
use Rattle.mdmp_summary.specs.SpendingLaws.{KeepsSummary}
use Rattle.mdmp_summary.specs.Summary.{file_summary}
use Rattle.mdmp_summary.specs.declared.summary.SummaryFault.{SummaryFault}
use Rattle.mdmp_summary.specs.declared.summary.SummaryFault.TheVariants as faults
use Rattle.mdmp_c.specs.declared.fault.PlainFault.{PlainFault}
use Rattle.mdmp_c.specs.declared.limits.PlainLimits.{PlainLimits}
use Rattle.mdmp_c.specs.declared.summary_rows.SummaryRow.{SummaryRow}
use Rattle.mdmp_c.specs.Fault.{no_fault, no_memory, of_kind, open_fault, plain_list_fault, status_of}
use Rattle.mdmp_c.specs.Giving.{bad_limits}
use Rattle.mdmp_c.specs.Limits.{AreGiven, AreLimits, ReachesLimit}
use Rattle.mdmp_c.specs.SummaryRows.{summary_row}

-- why there is no summary
abbrev pub summary_fault : SummaryFault → PlainFault
summary_fault (faults.Opening fault) = open_fault fault
summary_fault (faults.List fault) = plain_list_fault fault
summary_fault (faults.Source fault) = of_kind 69

-- F can be walked over within the limits: the window, the directory and a name take no more memory than there may be; and the header,
-- the directory and, in each pass of its summary, the names of all items have no more bytes than may be read
pub record KeepsWalk (plain : PlainLimits) (F : List ℕ) : Type 0 where
  pub limits : Limits
  pub given : AreGiven plain limits
  pub within : walk_fault limits F ≡ None
  pub reads : KeepsSummary limits.budget F limits.name

-- there is no summary of F within good limits: its header or directory is bad, or memory ran out, or a limit was reached
pub data IsUnsummarized (F : List ℕ) (plain : PlainLimits) (told : PlainFault) : Type 0 where
  of_file : (fault : OpenFault) → directory_refusal F ≡ Some fault → told ≡ open_fault fault → IsUnsummarized F plain told
  of_memory : told ≡ no_memory → IsUnsummarized F plain told
  of_limit : ReachesLimit plain F All None None told → IsUnsummarized F plain told

-- nothing was given, for this reason
pub record LeavesSummary (told : PlainFault) (status : ℕ) (fault : PlainFault) (before after : SummaryRow) : Type 0 where
  pub status_is : status ≡ status_of told
  pub fault_is : fault ≡ told
  pub out : after ≡ before

-- what the call answers: the summary of F, which is that of all its entries; or why there is none
pub data EndsSummary (F : List ℕ) (plain : PlainLimits) (status : ℕ) (fault : PlainFault) (before after : SummaryRow) : Type 0 where
  sums : KeepsWalk plain F → status ≡ 0 → fault ≡ no_fault → after ≡ summary_row F plain.name (file_summary F plain.name) → EndsSummary F plain status fault before after
  leaves : (told : PlainFault) → AreLimits plain → IsUnsummarized F plain told → LeavesSummary told status fault before after → EndsSummary F plain status fault before after
  refuses : (AreLimits plain → ⊥) → LeavesSummary bad_limits status fault before after → EndsSummary F plain status fault before after
