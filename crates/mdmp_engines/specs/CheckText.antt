-- What `check` prints.
use Rattle.std.specs.Prelude.{ℕ, List, [], ◌∷◌, Option, Some, None, codes, sum_by}
use Rattle.std.specs.List.{concat, flat_map}
use Rattle.std.specs.Fmt.{decimal}
use Rattle.mdmp_lister.specs.declared.choice.Choice.TheVariants.{All}
use Rattle.mdmp_lister.specs.declared.fault.ListFault.{ListFault}
use Rattle.mdmp_lister.specs.declared.verdict.Verdict.{Verdict}
use Rattle.mdmp_lister.specs.Format.Listing.{verdicts}
use Rattle.mdmp_lister.specs.Format.Refusal.{opening_fault}
use Rattle.mdmp_engines.specs.Engines.{unless_refused}
use Rattle.mdmp_print.specs.Forms.{verdict_line_in}
use Rattle.mdmp_print.specs.declared.form.LineForm.{LineForm}

abbrev pub verdict_lines : LineForm → List Verdict → List ℕ
verdict_lines form vs = flat_map (verdict_line_in form) vs

-- a line for each entry
abbrev pub check_text : LineForm → List ℕ → ℕ → List ℕ
check_text form F limit = unless_refused (opening_fault F All) (verdict_lines form (verdicts F All limit))

-- ---- bad entries

-- 1 for a fault
abbrev pub fault_count : Option ListFault → ℕ
fault_count None = 0
fault_count (Some fault) = 1

-- 1 for the verdict on a bad entry
abbrev pub verdict_count : Verdict → ℕ
verdict_count v = fault_count v.fault

-- how many entries have a fault
abbrev pub bad_count : List Verdict → ℕ
bad_count vs = sum_by verdict_count vs

-- `<n> bad entries`
abbrev pub bad_text : ℕ → List ℕ
bad_text n = concat (decimal n ∷ codes " bad entries" ∷ [])
