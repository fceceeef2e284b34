-- An opening for which there is no memory.
use Rattle.std.proofs.Common.{◌≡◌, ◌⊎◌, ℕ, List, None, Some}
use Rattle.mdmp_source.specs.Source.{FetchesAtMost, SourceState}
use Rattle.mdmp_lister.specs.declared.choice.Choice.{Choice}
use Rattle.mdmp_lister.specs.declared.fault.OpenFault.{OpenFault}
use Rattle.mdmp_lister.specs.declared.fault.OpenFault.TheVariants.{Memory}
use Rattle.mdmp_lister.specs.declared.limits.Limits.{Limits}
use Rattle.mdmp_lister.specs.Calls.{AskedRoom, IsOutOfMemory, TellsLacking}
use Rattle.mdmp_lister.specs.Memory.{opening_fault_within}

-- the limits allow what was asked for
pub out_of_memory-allowed : {A : Type 0} (may_lack : A → Limits → AskedRoom → Type 0) (alloc : A) (limits : Limits) (choice : Choice) (old : SourceState) (fault : OpenFault) (new : SourceState)
    → TellsLacking may_lack alloc limits choice old.store.content fault
    → (fault ≡ Memory → FetchesAtMost 32 old new ⊎ ((file : List ℕ) → old.store.content ≡ Some file → opening_fault_within limits file choice ≡ None))
    → fault ≡ Memory → IsOutOfMemory limits choice old new
out_of_memory-allowed may_lack alloc limits choice old fault new lacks stage is =
    let told = rw is at lacks in
    record { asked = told.0; allowed = told.1.allowed; of_file = told.1.of_file; stage = stage is }
