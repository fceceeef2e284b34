-- The verdicts on entries, as plain structures.
use Rattle.std.specs.Prelude.{◌≡◌, ◌∷◌, [], ℕ, List, map, Option, Some, None}
use Rattle.mdmp_lister.specs.declared.choice.Choice.TheVariants.{All}
use Rattle.mdmp_lister.specs.declared.fault.ListFault.{ListFault}
use Rattle.mdmp_lister.specs.declared.verdict.Verdict.{Verdict}
use Rattle.mdmp_lister.specs.Format.Listing.{verdicts}
use Rattle.mdmp_lister.specs.Format.Refusal.{opening_fault}
use Rattle.mdmp_engines.specs.CheckText.{bad_count}
use Rattle.mdmp_c.specs.declared.fault.PlainFault.{PlainFault}
use Rattle.mdmp_c.specs.Fault.{plain_list_fault, no_fault, told_unless}
use Rattle.mdmp_c.specs.Table.{rows_unless}
use Rattle.mdmp_c.specs.ToolFault.{bad_entries}

-- the first fault of an entry, or none and the entry's number
abbrev pub verdict_told : ℕ → Option ListFault → PlainFault
verdict_told e (Some fault) = plain_list_fault fault
verdict_told e None = record no_fault { entry = e }

abbrev pub verdict_row : Verdict → PlainFault
verdict_row v = verdict_told v.entry v.fault

-- why F can't be opened, or how many of its entries have a fault; and the verdict on each entry
pub record AreVerdicts (F : List ℕ) (limit : ℕ) (told : PlainFault) (rows : List PlainFault) : Type 0 where
  pub told_is : told ≡ told_unless (opening_fault F All) (bad_entries (bad_count (verdicts F All limit)))
  pub rows_are : rows ≡ rows_unless (opening_fault F All) (map verdict_row (verdicts F All limit))

-- what is given of a verdict
abbrev pub verdict_given : Verdict → List PlainFault
verdict_given v = verdict_row v ∷ []
