-- A reading that ends within a budget or none.
use Rattle.std.proofs.Common.{◌≡◌, ◌⊎◌, inl, inr, ℕ, List, Option, Some, None, Err, refl, subst, sym}
use Rattle.mdmp_source.specs.Source.{SourceState}
use Rattle.mdmp_lister.specs.declared.fault.FaultKind.{FaultKind}
use Rattle.mdmp_lister.specs.declared.fault.FaultKind.TheVariants as kinds
use Rattle.mdmp_lister.specs.declared.fault.ListFault.{ListFault}
use Rattle.mdmp_lister.specs.declared.fault.OpenFault.{OpenFault}
use Rattle.mdmp_lister.specs.declared.fault.OpenFault.TheVariants as opening
use Rattle.mdmp_lister.specs.declared.choice.Choice.{Choice}
use Rattle.mdmp_lister.specs.declared.limits.Limits.{Limits}
use Rattle.mdmp_lister.specs.Memory.{IsRefusalWithin, TellsMemory}
use Rattle.mdmp_dump.specs.FileRefusal.{IsUnbudgeted}
use Rattle.mdmp_dump.specs.declared.fault.ReadFault.{ReadFault}
use Rattle.mdmp_dump.specs.declared.fault.ReadFault.TheVariants as faults
use Rattle.mdmp_dump.specs.Reading.{Fetches, IsWithoutBudget, OpensWithin, Settles, TellsLimit, listed_within, opened_within, read_within}
use Rattle.mdmp_dump.specs.Refusal.{refusal_of}
use Rattle.mdmp_dump.proofs.Opened.{TellsNone}
use Rattle.mdmp_dump.proofs.Taking.{Fetches_memory}

-- it is told as it is, or as want of memory
listed-either : (budget : Option ℕ) (kind : FaultKind) (fault : ListFault) → (listed_within budget kind fault ≡ faults.List fault) ⊎ (listed_within budget kind fault ≡ faults.Memory)
listed-either None kinds.Budget fault = inr refl
listed-either (Some budget) kinds.Budget fault = inl refl
listed-either (Some budget) kind fault = inl refl
listed-either None kind fault = inl refl

opened-either : (budget : Option ℕ) (fault : OpenFault) → (opened_within budget fault ≡ faults.Opening fault) ⊎ (opened_within budget fault ≡ faults.Memory)
opened-either None (opening.Budget offset size) = inr refl
opened-either None (opening.MemoryLimit held) = inr refl
opened-either (Some budget) (opening.MemoryLimit held) = inr refl
opened-either (Some budget) (opening.Budget offset size) = inl refl
opened-either (Some budget) fault = inl refl
opened-either None fault = inl refl

either : (budget : Option ℕ) (fault : ReadFault) → (read_within budget fault ≡ fault) ⊎ (read_within budget fault ≡ faults.Memory)
either budget (faults.List fault) = listed-either budget fault.kind fault
either budget (faults.Opening fault) = opened-either budget fault
either budget fault = inl refl

-- without a budget none is told
listed-without : (fault : ListFault) (kind : FaultKind) → fault.kind ≡ kind → IsWithoutBudget (listed_within None kind fault)
listed-without fault kinds.Budget is = tt
listed-without fault kind is = subst IsUnbudgeted (sym is) tt

opened-without : (fault : OpenFault) → IsWithoutBudget (opened_within None fault)
opened-without (opening.Budget offset size) = tt
opened-without (opening.MemoryLimit held) = tt
opened-without fault = tt

pub without : (fault : ReadFault) → IsWithoutBudget (read_within None fault)
without (faults.List fault) = listed-without fault fault.kind refl
without (faults.Opening fault) = opened-without fault
without fault = tt

-- nor where the opening tells none
pub refusal-without : (fault : OpenFault) → TellsNone fault → IsWithoutBudget (refusal_of fault)
refusal-without (opening.Budget offset size) none = absurd (none offset size refl)
refusal-without opening.Memory none = tt
refusal-without fault none = tt

-- the limit of memory is told by the opening
pub opening-limited : (limits : Limits) (choice : Choice) (old : SourceState) (fault : OpenFault) (new : SourceState) → TellsMemory limits old fault new
    → ((file : List ℕ) → old.store.content ≡ Some file → IsRefusalWithin limits file choice fault) → TellsLimit limits choice old.store.content (refusal_of fault)
opening-limited limits choice old (opening.MemoryLimit held) new over within = (over.1.1.over, within)
opening-limited limits choice old opening.Memory new over within = tt
opening-limited limits choice old fault new over within = tt

-- and not behind it
opened-limited : (limits : Limits) (choice : Choice) (content : Option (List ℕ)) (budget : Option ℕ) (fault : OpenFault) → TellsLimit limits choice content (opened_within budget fault)
opened-limited limits choice content None (opening.Budget offset size) = tt
opened-limited limits choice content (Some budget) (opening.Budget offset size) = tt
opened-limited limits choice content None (opening.MemoryLimit held) = tt
opened-limited limits choice content (Some budget) (opening.MemoryLimit held) = tt
opened-limited limits choice content None fault = tt
opened-limited limits choice content (Some budget) fault = tt

listed-limited : (limits : Limits) (choice : Choice) (content : Option (List ℕ)) (budget : Option ℕ) (kind : FaultKind) (fault : ListFault) → OpensWithin limits choice content
    → TellsLimit limits choice content (listed_within budget kind fault)
listed-limited limits choice content None kinds.Budget fault opens = tt
listed-limited limits choice content (Some budget) kinds.Budget fault opens = opens
listed-limited limits choice content None kind fault opens = opens
listed-limited limits choice content (Some budget) kind fault opens = opens

pub limited-within : (limits : Limits) (choice : Choice) (content : Option (List ℕ)) (budget : Option ℕ) (fault : ReadFault) → OpensWithin limits choice content
    → TellsLimit limits choice content (read_within budget fault)
limited-within limits choice content budget (faults.List fault) opens = listed-limited limits choice content budget fault.kind fault opens
limited-within limits choice content budget (faults.Opening fault) opens = opened-limited limits choice content budget fault
limited-within limits choice content budget faults.Memory opens = tt
limited-within limits choice content budget fault opens = opens

pub settles-within : {T : Type 0} (budget : Option ℕ) (old : Option ReadFault) (fault : ReadFault) (new : T → Option ReadFault) → Settles {T = T} old (Err fault) new → Settles {T = T} old (Err (read_within budget fault)) new
settles-within budget old fault new settles = by (either budget fault) where
  by : (read_within budget fault ≡ fault) ⊎ (read_within budget fault ≡ faults.Memory) → Settles old (Err (read_within budget fault)) new
  by (inl same) = subst (λ (f : ReadFault). Settles old (Err f) new) (sym same) settles
  by (inr memory) = subst (λ (f : ReadFault). Settles old (Err f) new) (sym memory) (λ own. absurd (own tt))

pub fetches-within : {T : Type 0} (budget : Option ℕ) (fault : ReadFault) (old new : SourceState) → Fetches {T = T} (Err fault) old new → Fetches {T = T} (Err (read_within budget fault)) old new
fetches-within {T = T} budget fault old new fetches = by (either budget fault) where
  by : (read_within budget fault ≡ fault) ⊎ (read_within budget fault ≡ faults.Memory) → Fetches {T = T} (Err (read_within budget fault)) old new
  by (inl same) = subst (λ (f : ReadFault). Fetches {T = T} (Err f) old new) (sym same) fetches
  by (inr memory) = subst (λ (f : ReadFault). Fetches {T = T} (Err f) old new) (sym memory) (Fetches_memory old new fetches.fetches)
