-- What the opening of a view tells its caller.
use Rattle.std.specs.Prelude.{◌≡◌, ◌≤◌, ℕ, Err, IsTrue, List, None, Some}
use Rattle.mdmp_source.specs.Count.{raised}
use Rattle.mdmp_source.specs.Source.{SourceState}
use Rattle.mdmp_source.specs.Store.{IsGood}
use Rattle.mdmp_source.specs.declared.store.Store.{Ghosts}
use Rattle.mdmp_lister.specs.declared.choice.Choice.{Choice}
use Rattle.mdmp_lister.specs.declared.limits.Limits.{Limits}
use Rattle.mdmp_dump.specs.declared.fault.ReadFault.{ReadFault}
use Rattle.mdmp_dump.specs.declared.file_view.FileView.{FileView}
use Rattle.mdmp_dump.specs.FileRefusal.{IsViewRefusal}
use Rattle.mdmp_dump.specs.InFile.{dump_in}
use Rattle.mdmp_dump.specs.LaysOut.{LaysOut}
use Rattle.mdmp_dump.specs.Opening.{FetchesWithin, HasSpentOpening, IsLimited, IsShortOf, copy_bound, fetched_by, needed_by, opened_by, opening_bound}
use Rattle.mdmp_dump.specs.Reading.{Fetches, TellsOf, store_fault}
use Rattle.mdmp_dump.specs.Shape.{IsViewOf, ViewShape}

-- ---- a view that was opened

-- a view of a known file, seen in this shape, is one of the dump that the file lays out
pub record ShowsFile (Z : Type 0) (source : SourceState) (choice : Choice) (shape : ViewShape) : Type 0 where
  pub lays_out : (file : List ℕ) → source.store.content ≡ Some file → LaysOut file choice (dump_in {Z = Z} file choice)
  pub shows : (file : List ℕ) → source.store.content ≡ Some file → IsViewOf (dump_in {Z = Z} file choice) shape
  -- over a store that never fails it never fails
  pub reliable : (file : List ℕ) → IsGood source.store file → IsTrue shape.is_reliable

module _ {S A : Type 0} {G : Ghosts S} where
  -- what its opening may fetch, and a copy of all that it gives: of a known file, just what its streams cost
  pub record CostsOpening (source : SourceState) (limits : Limits) (choice : Choice) (v : FileView S A G) : Type 0 where
    pub cost : (file : List ℕ) → source.store.content ≡ Some file → opened_by v ≡ opening_bound file choice
    pub needs : (file : List ℕ) → source.store.content ≡ Some file → needed_by v ≡ raised 0 (copy_bound A file choice)
    -- what was fetched is within the budget
    pub kept : (most : ℕ) → limits.budget ≡ Some most → fetched_by v ≤ most

-- ---- a view that is refused

-- why there is no view of a source
pub record RefusesView (limits : Limits) (choice : Choice) (source : SourceState) (fault : ReadFault) : Type 0 where
  -- the fault fits the size of the file, whatever its bytes, and the budget is told only if there is one
  pub refusal : IsViewRefusal limits.budget source.size fault
  -- a store that never fails has no fault
  pub good : (file : List ℕ) → IsGood source.store file → store_fault fault ≡ None
  -- memory runs out only behind a good header and directory, and a known content has not changed
  pub tells : TellsOf source.store.content fault
  -- the limit of memory is reported only if a copy would hold more, out of memory only if it would not
  pub limited : IsLimited limits source.store.content fault
  -- the budget is told with the first fetch that it has no room for
  pub over : (file : List ℕ) → source.store.content ≡ Some file → IsShortOf limits.budget limits.window file choice fault

-- what became of the source, which is handed back
pub record HandsSourceBack (limits : Limits) (choice : Choice) (old : SourceState) (fault : ReadFault) (new : SourceState) : Type 0 where
  -- a fault of the store is the last that the source told
  pub cause : Fetches {T = Unit {0}} (Err fault) old new
  -- no more was fetched than the header, the directory, and the streams up to the one that is refused
  pub spends : HasSpentOpening choice old new
  -- nor more than the budget
  pub within : FetchesWithin limits.budget old new
