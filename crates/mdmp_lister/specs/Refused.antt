-- What a refused opening tells its caller.
use Rattle.std.specs.Prelude.{◌≡◌, ◌⊎◌, ℕ, List, Option, Some, None}
use Rattle.mdmp_source.specs.Source.{SourceState, FetchesAtMost}
use Rattle.mdmp_source.specs.Store.{IsGood}
use Rattle.mdmp_lister.specs.declared.choice.Choice.{Choice}
use Rattle.mdmp_lister.specs.declared.fault.OpenFault.{OpenFault}
use Rattle.mdmp_lister.specs.declared.fault.OpenFault.TheVariants.{Memory}
use Rattle.mdmp_lister.specs.declared.limits.Limits.{Limits}
use Rattle.mdmp_lister.specs.Memory.{TellsMemory, TellsWalkMemory, opening_fault_within}
use Rattle.mdmp_lister.specs.NextFetch.{TellsNextOpening}
use Rattle.mdmp_lister.specs.Opening.{IsBareRefusal, IsHandedBack, IsHandedBackBare, IsOpenRefusal, IsUnread, IsUnreadFor, KeepsToBudget}

-- what a refusal tells of the fetches of the opening, of a lister that counts the ranges of this choice or of a walker that counts none
pub record TellsFetches (counted : Option Choice) (limits : Limits) (old : SourceState) (fault : OpenFault) (new : SourceState) : Type 0 where
  -- a fault of the store is that of the last fetch, and no other fetch failed
  pub cause : IsUnreadFor fault old new
  -- a store that never fails has none
  pub good : (file : List ℕ) → IsGood old.store file → IsUnread fault → ⊥
  -- what was fetched is within the budget
  pub kept : KeepsToBudget limits old fault new
  -- the fetch that would have passed the budget is the one that comes next
  pub next : TellsNextOpening counted limits old fault new

-- a lister was refused: why, and what became of the source, which is handed back
pub record IsRefusedLister (choice : Choice) (limits : Limits) (old : SourceState) (fault : OpenFault) (new : SourceState) : Type 0 where
  -- the fault fits the size of the file, whatever its bytes
  pub refusal : IsOpenRefusal old.size fault
  -- memory runs out before the directory is read, or in a file that can be opened within the limits
  pub memory : fault ≡ Memory → FetchesAtMost 32 old new ⊎ ((file : List ℕ) → old.store.content ≡ Some file → opening_fault_within limits file choice ≡ None)
  -- the limit of memory is told with what the lists would take, which is more
  pub over : TellsMemory limits old fault new
  -- no more was fetched than the header, the directory and the heads of chosen memory lists
  pub handed_back : IsHandedBack choice old fault new
  pub fetches : TellsFetches (Some choice) limits old fault new

-- a walker was refused, in the same way
pub record IsRefusedWalker (limits : Limits) (old : SourceState) (fault : OpenFault) (new : SourceState) : Type 0 where
  pub refusal : IsBareRefusal old.size fault
  -- memory is taken before the directory is read
  pub memory : fault ≡ Memory → FetchesAtMost 32 old new
  pub over : TellsWalkMemory limits old fault new
  -- no more was fetched than the header and the directory
  pub handed_back : IsHandedBackBare old fault new
  pub fetches : TellsFetches None limits old fault new
