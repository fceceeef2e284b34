-- What a source is, and what a fetch does to it.
use Rattle.std.specs.Prelude.{◌≡◌, ◌≤◌, ◌<◌, ◌+◌, ◌-◌, ◌*◌, ℕ, None, Option, Some, Result, Ok, Err}
use Rattle.mdmp_source.specs.Count.{raised, HasRisen}
use Rattle.mdmp_source.specs.Store.{StoreState}
use Rattle.mdmp_source.specs.Fault.{HasFetchCause, fault_at}
use Rattle.mdmp_source.specs.declared.fault.SourceFault.{SourceFault}
use Rattle.mdmp_source.specs.declared.fault.SourceFault.TheVariants.{Failed, ShortRead, Changed}
use Rattle.mdmp_source.specs.declared.store.StoreCounts.{StoreCounts}

-- a source as its callers see it
pub record SourceState : Type 0 where
  pub store : StoreState
  pub size : ℕ
  -- bytes fetched, and calls of `fetch`; both stop at the greatest u128
  pub fetched : ℕ
  pub calls : ℕ
  -- the fault that the last `fetch` answered, or none
  pub fault : Option SourceFault

-- some fetches later: the same file, of which at most n bytes were asked
pub record FetchesAtMost (n : ℕ) (old new : SourceState) : Type 0 where
  pub same_content : new.store.content ≡ old.store.content
  pub same_reliable : new.store.is_reliable ≡ old.store.is_reliable
  pub same_least : new.store.least ≡ old.store.least
  pub same_size : new.size ≡ old.size
  pub same_store_size : new.store.size ≡ old.store.size
  pub failures : old.store.counts.failures ≤ new.store.counts.failures
  pub empties : old.store.counts.empties ≤ new.store.counts.empties
  pub store_calls : new.store.counts.calls ≤ old.store.counts.calls + n
  pub more_store_calls : old.store.counts.calls ≤ new.store.counts.calls
  pub fetched : new.fetched ≤ raised old.fetched n
  pub no_fewer : old.fetched ≤ new.fetched

-- the fault of an answer
abbrev pub fault_of : {T : Type 0} → Result T SourceFault → Option SourceFault
fault_of (Ok x) = None
fault_of (Err fault) = Some fault

-- one call of the store failed in a fetch that answers `Failed`, one gave no bytes in one that answers `ShortRead`, and no
-- other
abbrev pub FailsOnce : {T : Type 0} → Result T SourceFault → StoreCounts → StoreCounts → Type 0
FailsOnce (Ok x) old new = (new.failures ≡ old.failures) × (new.empties ≡ old.empties)
FailsOnce (Err (Failed at)) old new = (new.failures ≡ raised old.failures 1) × (new.empties ≡ old.empties)
FailsOnce (Err (ShortRead at)) old new = (new.failures ≡ old.failures) × (new.empties ≡ raised old.empties 1)
FailsOnce (Err (Changed at)) old new = ⊥

-- the last of some fetches answered this fault: it has its cause in them, and names where the store gave nothing last
pub record IsTold (fault : SourceFault) (old new : SourceState) : Type 0 where
  pub last : new.fault ≡ Some fault
  pub place : fault_at fault ≡ new.store.counts.place
  pub cause : HasFetchCause fault
      (HasRisen old.store.counts.failures new.store.counts.failures)
      (HasRisen old.store.counts.empties new.store.counts.empties)

-- the same, and it names one of the n bytes at this offset
pub record IsToldAmong (at n : ℕ) (fault : SourceFault) (old new : SourceState) : Type 0 where
  pub told : IsTold fault old new
  pub from : at ≤ fault_at fault
  pub before : fault_at fault < at + n

-- a store was called for n bytes: each call but the last gave as many as a call gives at least, and n bytes were not given yet
abbrev pub CallsFew : (n : ℕ) → StoreState → StoreState → Type 0
CallsFew n old new = old.counts.calls < new.counts.calls → (new.counts.calls - old.counts.calls - 1) * old.least < n

-- so many calls of `fetch`, of n bytes together, are counted, and the store was called no oftener than that takes
pub record CountsBytes (calls n : ℕ) (old new : SourceState) : Type 0 where
  pub bytes : new.fetched ≡ raised old.fetched n
  pub fetches : new.calls ≡ raised old.calls calls
  pub store_calls : CallsFew n old.store new.store

-- some fetches later, of however many bytes
pub record FetchesSome (old new : SourceState) : Type 0 where
  pub count : ℕ
  pub fetches : FetchesAtMost count old new
