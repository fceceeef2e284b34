-- What a run of `check` answers, and what it leaves written.
use Rattle.std.specs.Prelude.{◌≡◌, ◌+◌, ◌++◌, ◌<◌, ◌≤◌, ◌^◌, ℕ, List, Result, Ok, Err, Some, sum_by}
use Rattle.mdmp_source.specs.Output.{OutState, PutsAll, PutsPrefix}
use Rattle.mdmp_source.specs.Source.{FetchesSome}
use Rattle.mdmp_lister.specs.declared.choice.Choice.TheVariants.{All}
use Rattle.mdmp_lister.specs.declared.sink.RunFault.{RunFault}
use Rattle.mdmp_lister.specs.declared.sink.Stopped.{Stopped}
use Rattle.mdmp_lister.specs.Format.Listing.{entry_count, verdicts}
use Rattle.mdmp_lister.specs.Lister.{ListerState}
use Rattle.mdmp_lister.specs.Sink.{Handed}
use Rattle.mdmp_engines.specs.declared.fault.ToolFault.{ToolFault}
use Rattle.mdmp_engines.specs.declared.fault.ToolFault.TheVariants.{Source, Budget, Out}
use Rattle.mdmp_engines.specs.CheckText.{bad_count, check_text}
use Rattle.mdmp_engines.specs.Engines.{Runs, RunsThrough, past_faults}
use Rattle.mdmp_engines.specs.ReadThrough.{FetchesAllNames}
use Rattle.mdmp_print.specs.declared.form.LineForm.{LineForm}

-- ---- the rows of a check: each has a line, and a count, which is 1 if it tells of a bad entry

-- the line of a row was put, and its count added
pub record PutsRow {R : Type 0} (line : R → List ℕ) (count : R → ℕ) (before : OutState) (bad_before : ℕ) (row : R) (after : OutState) (bad_after : ℕ) : Type 0 where
  pub put : PutsAll before (line row) after
  pub counts : bad_before + count row < 2 ^ 64 → bad_after ≡ bad_before + count row

-- so it was; or the output refused
abbrev pub TakesLine : {R : Type 0} → (R → List ℕ) → (R → ℕ) → OutState → ℕ → R → Result (Unit {0}) Stopped → OutState → ℕ → Type 0
TakesLine line count before bad_before row (Ok x) after bad_after = PutsRow line count before bad_before row after bad_after
TakesLine line count before bad_before row (Err x) after bad_after = PutsPrefix before (line row) after

module _ {R : Type 0} where
  -- these rows are the first of all, and after the last entry they are all
  abbrev pub AreFirstChecked : List R → List R → Result (Unit {0}) RunFault → Type 0
  AreFirstChecked all rows (Ok done) = all ≡ rows
  AreFirstChecked all rows (Err fault) = (rest : List R) × (all ≡ rows ++ rest)

-- a sink was handed some rows, of a known file the first of all, and the names of the items were fetched
pub record HandsChecked {K R : Type 0} (k : K) (step : K → R → Result (Unit {0}) Stopped → K → Type 0) (count : R → ℕ) (all : List ℕ → ℕ → List R)
    (old : ListerState) (result : Result (Unit {0}) RunFault) (new : ListerState) (l : K) : Type 0 where
  pub rows : List R
  pub handed : Handed step k rows result l
  pub of_file : (file : List ℕ) → old.source.store.content ≡ Some file → AreFirstChecked (all file old.limit) rows result
  -- no more entries are bad than the directory has
  pub few : (file : List ℕ) → sum_by count (all file old.limit) ≤ entry_count file
  pub fetches : FetchesSome old.source new.source
  pub named : FetchesAllNames old result new

-- ---- a run

-- what may end a check that counts so many bad entries: it answers how many, or the store or the output failed, or the budget was
-- reached
abbrev pub EndsCounted : ℕ → Result ℕ ToolFault → Type 0
EndsCounted count (Ok bad) = bad ≡ count
EndsCounted count (Err (Source fault)) = Unit {0}
EndsCounted count (Err (Budget offset size)) = Unit {0}
EndsCounted count (Err Out) = Unit {0}
EndsCounted count (Err fault) = ⊥

-- what may end the check of F, with names up to a limit
abbrev pub CheckEnds : List ℕ → ℕ → Result ℕ ToolFault → Type 0
CheckEnds F limit = EndsCounted (bad_count (verdicts F All limit))

-- a run of `check` over F, of which the text is printed while it is read
abbrev pub Checks : LineForm → List ℕ → ℕ → OutState → Result ℕ ToolFault → OutState → Type 0
Checks form F limit = Runs F All (CheckEnds F limit) past_faults (check_text form F limit)

-- the same through blocks
abbrev pub ChecksThrough : LineForm → List ℕ → ℕ → OutState → Result ℕ ToolFault → OutState → Type 0
ChecksThrough form F limit = RunsThrough F All (CheckEnds F limit) past_faults (check_text form F limit)
