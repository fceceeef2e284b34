-- What `check --parts` prints and answers, and what it leaves written.
use Rattle.std.specs.Prelude.{ℕ, List, Bool, true, false, Option, Some, None, Result, sum_by}
use Rattle.std.specs.List.{flat_map}
use Rattle.mdmp_source.specs.Output.{OutState}
use Rattle.mdmp_lister.specs.declared.choice.Choice.TheVariants.{All}
use Rattle.mdmp_lister.specs.declared.fault.ListFault.{ListFault}
use Rattle.mdmp_lister.specs.Format.Refusal.{opening_fault}
use Rattle.mdmp_summary.specs.CheckRows.{check_rows}
use Rattle.mdmp_summary.specs.declared.check_row.CheckRow.{CheckRow}
use Rattle.mdmp_summary.specs.declared.check_row.CheckRow.TheVariants.{Part, Entry}
use Rattle.mdmp_print.specs.PartLines.{row_line_in}
use Rattle.mdmp_print.specs.declared.form.LineForm.{LineForm}
use Rattle.mdmp_engines.specs.declared.fault.ToolFault.{ToolFault}
use Rattle.mdmp_engines.specs.CheckRuns.{EndsCounted}
use Rattle.mdmp_engines.specs.Engines.{Runs, RunsThrough, past_faults, unless_refused}

-- ---- the text

abbrev pub row_lines : LineForm → List CheckRow → List ℕ
row_lines form rows = flat_map (row_line_in form) rows

-- for each entry a line for each of its parts that lies outside the file, and then the line of the entry
abbrev pub parts_text : LineForm → List ℕ → ℕ → List ℕ
parts_text form F limit = unless_refused (opening_fault F All) (row_lines form (check_rows F limit))

-- ---- bad entries

-- 1 for an error, or if parts are lost
abbrev pub loss_count : Option ListFault → Bool → ℕ
loss_count (Some fault) loses = 1
loss_count None true = 1
loss_count None false = 0

-- 1 for the row of an entry that has an error, or of whose records a part lies outside the file
abbrev pub row_count : CheckRow → ℕ
row_count (Part part) = 0
row_count (Entry row) = loss_count row.verdict.fault row.loses_parts

-- how many entries are bad
abbrev pub bad_rows : List CheckRow → ℕ
bad_rows rows = sum_by row_count rows

-- ---- a run

-- what may end the check of F and its parts, with names up to a limit
abbrev pub CheckPartsEnds : List ℕ → ℕ → Result ℕ ToolFault → Type 0
CheckPartsEnds F limit = EndsCounted (bad_rows (check_rows F limit))

-- a run of `check --parts` over F, of which the text is printed while it is read
abbrev pub ChecksParts : LineForm → List ℕ → ℕ → OutState → Result ℕ ToolFault → OutState → Type 0
ChecksParts form F limit = Runs F All (CheckPartsEnds F limit) past_faults (parts_text form F limit)

-- the same through blocks
abbrev pub ChecksPartsThrough : LineForm → List ℕ → ℕ → OutState → Result ℕ ToolFault → OutState → Type 0
ChecksPartsThrough form F limit = RunsThrough F All (CheckPartsEnds F limit) past_faults (parts_text form F limit)
