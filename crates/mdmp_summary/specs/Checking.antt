-- A check of all entries and of the parts of their records.
use Rattle.std.specs.Prelude.{◌≡◌, ◌≤◌, ◌+◌, ◌++◌, ℕ, List, Bool, true, false, Some, None, Result, Ok, Err, sum_by}
use Rattle.mdmp_source.specs.Source.{FetchesAtMost}
use Rattle.mdmp_source.specs.Store.{IsGood}
use Rattle.mdmp_wire.specs.Header.{header_at}
use Rattle.mdmp_lister.specs.declared.choice.Choice.TheVariants.{All}
use Rattle.mdmp_lister.specs.declared.fault.ListFault.{ListFault}
use Rattle.mdmp_lister.specs.declared.item.Item.{Item}
use Rattle.mdmp_lister.specs.declared.sink.RunFault.{RunFault}
use Rattle.mdmp_lister.specs.declared.sink.RunFault.TheVariants as run
use Rattle.mdmp_lister.specs.declared.sink.Stopped.{Stopped}
use Rattle.mdmp_lister.specs.Check.{fault_cost, items_of, names_judged}
use Rattle.mdmp_lister.specs.Costs.{end_cost, items_cost}
use Rattle.mdmp_lister.specs.Fault.{IsOfStore, IsToldIn, IsUnobtained}
use Rattle.mdmp_lister.specs.Format.Listing.{Run, chosen, listing, verdicts}
use Rattle.mdmp_lister.specs.Format.Numbers.{faulty_name}
use Rattle.mdmp_lister.specs.Lister.{IsRefusedIn, IsSameLister, ListerState, listing_behind}
use Rattle.mdmp_lister.specs.NamesFetched.{FetchesNames}
use Rattle.mdmp_lister.specs.Sink.{Handed, names_of_all}
use Rattle.mdmp_summary.specs.BadEntries.{all_items}
use Rattle.mdmp_summary.specs.InEntry.{EndsInEntry, StandsInChosen}
use Rattle.mdmp_summary.specs.CheckRows.{AreFirstRows, check_rows, run_rows}
use Rattle.mdmp_summary.specs.declared.check_row.CheckRow.{CheckRow}
use Rattle.mdmp_summary.specs.declared.check_row.CheckRow.TheVariants.{Part, Entry}

-- nothing was given of a listing of all entries
pub record IsAllLeft (v : ListerState) : Type 0 where
  pub choice_is : v.choice ≡ All
  pub stop : v.stop ≡ None
  pub header_is : (file : List ℕ) → v.source.store.content ≡ Some file → v.header ≡ header_at file 0
  pub left : (file : List ℕ) → v.source.store.content ≡ Some file → v.left ≡ Some (listing file All v.limit)

-- the bytes of a row that are no stream's: at most those of a name with the error of an entry
abbrev pub row_cost : ℕ → CheckRow → ℕ
row_cost limit (Part part) = 0
row_cost limit (Entry row) = fault_cost limit row.verdict.fault

-- the bytes of some items, each with the stream that it begins, and of some rows
abbrev pub rows_cost : ℕ → ℕ → List Item → List CheckRow → ℕ
rows_cost z limit items rows = items_cost z items + sum_by (row_cost limit) rows

-- these items are all, or the first of them if a check ended early
abbrev pub AreRead : List Item → List Item → Result (Unit {0}) RunFault → Type 0
AreRead all items (Ok done) = all ≡ items
AreRead all items (Err fault) = (rest : List Item) × (all ≡ items ++ rest)

-- a sink was handed some rows, of a known file the first of all, and no more was fetched than their items and they cost
pub record RowsHanded {K : Type 0} (step : K → CheckRow → Result (Unit {0}) Stopped → K → Type 0) (old : ListerState) (k : K) (result : Result (Unit {0}) RunFault) (new : ListerState) (l : K) : Type 0 where
  pub rows : List CheckRow
  pub items : List Item
  pub handed : Handed step k rows result l
  pub of_file : (file : List ℕ) → old.source.store.content ≡ Some file → AreFirstRows (check_rows file old.limit) rows result
  -- the items that were read, of a known file the first of all
  pub read : (file : List ℕ) → old.source.store.content ≡ Some file → AreRead (all_items file old.limit) items result
  pub named : FetchesNames 1 items old.counts.fetched new.counts.fetched
  -- of every source
  pub fetches : FetchesAtMost (old.unread + rows_cost old.source.size old.limit items rows + end_cost old.limit result) old.source new.source

-- the fault by which a run of rows ended: bytes were not obtained. It has its cause in this run
pub record IsRunFault (old : ListerState) (fault : ListFault) (new : ListerState) : Type 0 where
  pub unobtained : IsUnobtained fault.kind
  pub told : IsToldIn new.current fault old.source new.source
  pub good : (file : List ℕ) → IsGood old.source.store file → IsOfStore fault.kind → ⊥
  pub refused : IsRefusedIn fault new

-- so it was, unless the sink stopped it
abbrev pub TellsRun : {T : Type 0} → ListerState → Result T RunFault → ListerState → Type 0
TellsRun old (Err (run.At fault)) new = IsRunFault old fault new
TellsRun old result new = Unit {0}

-- how a check leaves the lister: in the entry that was read last, with no more names than the check reached
pub record LeavesChecked (old : ListerState) (result : Result (Unit {0}) RunFault) (new : ListerState) : Type 0 where
  pub ends : EndsInEntry old result new
  pub names : (file : List ℕ) → old.source.store.content ≡ Some file
      → new.counts.names ≤ old.counts.names + names_judged (items_of file old.limit (chosen file All)) (verdicts file All old.limit) + 1
  pub same : IsSameLister old new

-- ---- a run, up to the end or the first error

-- all that was left was given
pub record EndsRun (old : ListerState) (left : Run) (items : List Item) (rows : List CheckRow) (new : ListerState) : Type 0 where
  pub all : left ≡ record { items = items; fault = None }
  pub rows_are : rows ≡ run_rows left
  pub names : new.counts.names ≤ old.counts.names + names_of_all items

-- the error of an entry was met, and told, and the entry was dropped
pub record MeetsBad (old : ListerState) (left : Run) (items : List Item) (rows : List CheckRow) (new : ListerState) : Type 0 where
  pub fault : ListFault
  pub all : left ≡ record { items = items; fault = Some fault }
  pub rows_are : rows ≡ run_rows left
  pub names : new.counts.names ≤ old.counts.names + names_of_all items + faulty_name fault.kind
  pub entry : fault.entry + 1 ≡ new.passed

-- the first of what was left was given
pub record EndsEarly (old : ListerState) (left : Run) (items : List Item) (rows : List CheckRow) (new : ListerState) : Type 0 where
  pub more : List Item
  pub items_first : left.items ≡ items ++ more
  pub rest : List CheckRow
  pub rows_first : run_rows left ≡ rows ++ rest
  pub names : new.counts.names ≤ old.counts.names + names_of_all items + 1

abbrev pub GivesRows : ListerState → Run → List Item → List CheckRow → Result Bool RunFault → ListerState → Type 0
GivesRows old left items rows (Ok false) new = EndsRun old left items rows new
GivesRows old left items rows (Ok true) new = MeetsBad old left items rows new
GivesRows old left items rows (Err fault) new = EndsEarly old left items rows new

-- how it ends, whether there is more or not
abbrev pub run_end : Result Bool RunFault → Result (Unit {0}) RunFault
run_end (Ok more) = Ok tt
run_end (Err fault) = Err fault

-- a sink was handed the rows of some items, and of their error
pub record TellsRows {K : Type 0} (step : K → CheckRow → Result (Unit {0}) Stopped → K → Type 0) (old : ListerState) (k : K) (result : Result Bool RunFault) (new : ListerState) (l : K) : Type 0 where
  pub items : List Item
  pub rows : List CheckRow
  pub handed : Handed step k rows (run_end result) l
  pub fetches : FetchesAtMost (old.unread + rows_cost old.source.size old.limit items rows + end_cost old.limit (run_end result)) old.source new.source
  pub named : FetchesNames 1 items old.counts.fetched new.counts.fetched
  pub gives : (left : Run) → old.left ≡ Some left → GivesRows old left items rows result new

-- the same listing of the same file, and what is left after a bad entry
pub record LeavesRun (old : ListerState) (result : Result Bool RunFault) (new : ListerState) : Type 0 where
  pub same : IsSameLister old new
  pub ends : EndsInEntry old (run_end result) new
  pub stands : result ≡ Ok true → StandsInChosen new
  pub going : result ≡ Ok true → new.stop ≡ None
  pub unread : result ≡ Ok true → new.unread ≡ 0
  pub left : result ≡ Ok true → new.left ≡ listing_behind new new.passed
