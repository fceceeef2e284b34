-- Fetches one after another.
use Rattle.std.proofs.Common.{◌≤◌, ◌+◌, ◌∙◌, ℕ, arith}
use Rattle.mdmp_source.specs.Count.{HasRisen}
use Rattle.mdmp_source.specs.Fault.{HasFetchCause}
use Rattle.mdmp_source.specs.Source.{SourceState, FetchesAtMost, IsTold}
use Rattle.mdmp_source.specs.declared.fault.SourceFault.{SourceFault}
use Rattle.mdmp_source.specs.declared.fault.SourceFault.TheVariants.{Failed, ShortRead, Changed}

-- some fetches, and then some more
pub fetches_then : (m n : ℕ) (a b c : SourceState) → FetchesAtMost m a b → FetchesAtMost n b c → FetchesAtMost (m + n) a c
fetches_then m n a b c first then = record {
  same_content = then.same_content ∙ first.same_content;
  same_reliable = then.same_reliable ∙ first.same_reliable;
  same_least = then.same_least ∙ first.same_least;
  same_size = then.same_size ∙ first.same_size;
  same_store_size = then.same_store_size ∙ first.same_store_size;
  failures = omega (arith, first.failures, then.failures);
  empties = omega (arith, first.empties, then.empties);
  store_calls = omega (arith, first.store_calls, then.store_calls);
  more_store_calls = omega (arith, first.more_store_calls, then.more_store_calls);
  fetched = omega (arith, first.fetched, then.fetched);
  no_fewer = omega (arith, first.no_fewer, then.no_fewer);
}

-- what has risen since a later state has risen since an earlier one
risen_later : (a b c : ℕ) → a ≤ b → HasRisen b c → HasRisen a c
risen_later a b c le risen = omega (arith, le, risen)

cause_later : (fault : SourceFault) (n : ℕ) (a b c : SourceState) → FetchesAtMost n a b
    → HasFetchCause fault (HasRisen b.store.counts.failures c.store.counts.failures) (HasRisen b.store.counts.empties c.store.counts.empties)
    → HasFetchCause fault (HasRisen a.store.counts.failures c.store.counts.failures) (HasRisen a.store.counts.empties c.store.counts.empties)
cause_later (Failed at) n a b c first cause = risen_later a.store.counts.failures b.store.counts.failures c.store.counts.failures first.failures cause
cause_later (ShortRead at) n a b c first cause = risen_later a.store.counts.empties b.store.counts.empties c.store.counts.empties first.empties cause
cause_later (Changed at) n a b c first cause = cause

-- a fault that is told behind some fetches is told by them all
pub told_later : (fault : SourceFault) (n : ℕ) (a b c : SourceState) → FetchesAtMost n a b → IsTold fault b c → IsTold fault a c
told_later fault n a b c first told = record {
  last = told.last;
  place = told.place;
  cause = cause_later fault n a b c first told.cause;
}
