-- What some fetches leave to those behind them.
use Rattle.std.proofs.Common.{◌≡◌, ◌≤◌, ◌∙◌, ℕ, List, Option, Some, None, Result, Ok, Err, IfErr, IsOk, ap, arith, refl, subst, sym}
use Rattle.mdmp_source.specs.Count.{raised}
use Rattle.mdmp_source.specs.Source.{SourceState, FailsOnce, FetchesAtMost, IsTold, fault_of}
use Rattle.mdmp_source.specs.declared.fault.SourceFault.{SourceFault}
use Rattle.mdmp_source.specs.SourceLaws.{told_later}
use Rattle.mdmp_source.specs.Store.{IsGood}
use Rattle.mdmp_wire.specs.declared.entry.Entry.{Entry}
use Rattle.mdmp_lister.specs.declared.fault.Fault.{Fault}
use Rattle.mdmp_lister.specs.declared.fault.FaultKind.{FaultKind}
use Rattle.mdmp_lister.specs.declared.fault.FaultKind.TheVariants as kinds
use Rattle.mdmp_lister.specs.declared.fault.ListFault.{ListFault}
use Rattle.mdmp_lister.specs.Fault.{IsCaused, IsCausedAt, IsUnobtained, NamesPlace, IsPlacedAt, IsSteady, IsToldByFetch, IsToldIn, TellsNoChange, source_of_answer, source_of, IsOfStore}
use Rattle.mdmp_source.specs.declared.fault.SourceFault.TheVariants.{Failed, ShortRead, Changed}
use Rattle.mdmp_lister.specs.declared.fault.OpenFault.{OpenFault}
use Rattle.mdmp_lister.specs.declared.fault.OpenFault.TheVariants.{Source}
use Rattle.mdmp_lister.specs.Opening.{IsUnread, IsUnreadFor, unread_of}

pub FetchesAtMost-none : (a : SourceState) → FetchesAtMost 0 a a
FetchesAtMost-none a = record {
  same_content = refl;
  same_reliable = refl;
  same_least = refl;
  same_size = refl;
  same_store_size = refl;
  failures = omega arith;
  empties = omega arith;
  store_calls = omega arith;
  more_store_calls = omega arith;
  fetched = omega arith;
  no_fewer = omega arith;
}

pub FetchesAtMost-within : (m n : ℕ) (a b : SourceState) → m ≤ n → FetchesAtMost m a b → FetchesAtMost n a b
FetchesAtMost-within m n a b le f = record {
  same_content = f.same_content;
  same_reliable = f.same_reliable;
  same_least = f.same_least;
  same_size = f.same_size;
  same_store_size = f.same_store_size;
  failures = f.failures;
  empties = f.empties;
  store_calls = omega (arith, f.store_calls, le);
  more_store_calls = f.more_store_calls;
  fetched = omega (arith, f.fetched, le);
  no_fewer = f.no_fewer;
}

-- a store that was good still is
pub IsGood-later : (F : List ℕ) (n : ℕ) (a b : SourceState) → FetchesAtMost n a b → IsGood a.store F → IsGood b.store F
IsGood-later F n a b f good = record { known = f.same_content ∙ good.known; reliable = rw f.same_reliable good.reliable }

pub IsSteady-then : (a b c : SourceState) → IsSteady a b → IsSteady b c → IsSteady a c
IsSteady-then a b c first then = (then.0 ∙ first.0, then.1 ∙ first.1)

-- one call at fault behind fetches of which none was is the only one of them all
pub once_later : (fault : SourceFault) (a b c : SourceState) → IsSteady a b → FailsOnce {T = Unit {0}} (Err fault) b.store.counts c.store.counts → FailsOnce {T = Unit {0}} (Err fault) a.store.counts c.store.counts
once_later (Failed at) a b c first once = (once.0 ∙ ap (λ n. raised n 1) first.0, once.1 ∙ first.1)
once_later (ShortRead at) a b c first once = (once.0 ∙ first.0, once.1 ∙ ap (λ n. raised n 1) first.1)
once_later (Changed at) a b c first once = once

pub IsCaused_none : (a : SourceState) → IsCaused None a a
IsCaused_none a = record { once = (refl, refl); told = tt; good = λ file good. refl }

-- a fault that some fetches end with is that with which all end, where none was at fault before
pub IsCaused_later : (fault : Option SourceFault) (n : ℕ) (a b c : SourceState) → FetchesAtMost n a b → IsCaused None a b → IsCaused fault b c → IsCaused fault a c
IsCaused_later None n a b c f before caused = record { once = IsSteady-then a b c before.once caused.once; told = tt; good = λ file good. refl }
IsCaused_later (Some fault) n a b c f before caused = record {
  once = once_later fault a b c before.once caused.once;
  told = told_later fault n a b c f caused.told;
  good = λ file good. caused.good file (IsGood-later file n a b f good);
}

-- and so of an answer
pub IsCausedAt_later : {T : Type 0} (result : Result T Fault) (n : ℕ) (a b c : SourceState) → FetchesAtMost n a b → IsCaused None a b → IsCausedAt result b c → IsCausedAt result a c
IsCausedAt_later result n a b c f before caused = record { caused = IsCaused_later (source_of_answer result) n a b c f before caused.caused; placed = caused.placed }

-- ---- faults that are told

-- fetches that end with another fault have none of the store
pub IsCaused_other : {T : Type 0} (fault : Fault) (old new : SourceState) → IsCausedAt {T = T} (Err fault) old new → (IsUnobtained fault.kind → ⊥) → IsCaused None old new
IsCaused_other fault old new caused other = subst (λ f. IsCaused f old new) (of_none fault.kind other) caused.caused where
  of_none : (kind : FaultKind) → (IsUnobtained kind → ⊥) → source_of kind ≡ None
  of_none (kinds.Source f) not = absurd (not tt)
  of_none _ not = refl

-- over a good store there is no fault of it
pub not_of_source : (kind : FaultKind) → source_of kind ≡ None → IsOfStore kind → ⊥
not_of_source (kinds.Source fault) none of = absurd (cc)
not_of_source _ none of = of

pub not_unread : (fault : OpenFault) → unread_of fault ≡ None → IsUnread fault → ⊥
not_unread (Source fault) none unread = absurd (cc)
not_unread _ none unread = unread

module _ {T : Type 0} (old new : SourceState) where
  pub good_caused : (result : Result T SourceFault) (file : List ℕ) → IsCaused (fault_of result) old new → IsGood old.store file → IsOk result
  good_caused (Ok x) file caused good = refl
  good_caused (Err fault) file caused good = let none = caused.good file good in absurd (cc)

  pub told_caused : (result : Result T SourceFault) → IsCaused (fault_of result) old new → IfErr result (λ fault. IsTold fault old new)
  told_caused (Ok x) caused = tt
  told_caused (Err fault) caused = caused.told

pub unread_caused : (fault : OpenFault) (old new : SourceState) → IsCaused (unread_of fault) old new → IsUnreadFor fault old new
unread_caused (Source fault) old new caused = (caused.told, caused.once)
unread_caused _ old new caused = caused.once

told_by_caused : (e : Entry) (kind : FaultKind) (old new : SourceState) → IsCaused (source_of kind) old new → IsToldByFetch e kind old new
told_by_caused e (kinds.Source (Changed at)) old new caused = absurd caused.told.cause
told_by_caused e (kinds.Source (Failed at)) old new caused = caused.told
told_by_caused e (kinds.Source (ShortRead at)) old new caused = caused.told
told_by_caused e _ old new caused = tt

placed_in : (kind : FaultKind) (f : ListFault) (offset size : ℕ) → IsPlacedAt kind offset size → f.offset ≡ offset → f.size ≡ size → (IsUnobtained kind → f.index ≡ None) → NamesPlace kind f
placed_in (kinds.Source fault) f offset size placed at len none = (at ∙ placed.0, (len ∙ placed.1, none tt))
placed_in kinds.Budget f offset size placed at len none = none tt
placed_in _ f offset size placed at len none = tt

-- the fault of an answer, as a listing tells it
pub told_in_caused : {T : Type 0} (e : Entry) (fault : Fault) (f : ListFault) (old new : SourceState) → IsCausedAt {T = T} (Err fault) old new → f.kind ≡ fault.kind → (f.offset ≡ fault.offset) × (f.size ≡ fault.size)
    → (IsUnobtained fault.kind → f.index ≡ None) → IsToldIn e f old new
told_in_caused e fault f old new caused kind place none = record {
  by = subst (λ k. IsToldByFetch e k old new) (sym kind) (told_by_caused e fault.kind old new caused.caused);
  placed = subst (λ k. NamesPlace k f) (sym kind) (placed_in fault.kind f fault.offset fault.size caused.placed place.0 place.1 none);
}

-- which a fault that has its cause does not
pub unchanged_caused : {T : Type 0} (fault : Fault) (f : ListFault) (old new : SourceState) → IsCausedAt {T = T} (Err fault) old new → f.kind ≡ fault.kind → TellsNoChange f.kind
unchanged_caused fault f old new caused kind = subst TellsNoChange (sym kind) (of fault.kind caused.caused) where
  of : (k : FaultKind) → IsCaused (source_of k) old new → TellsNoChange k
  of (kinds.Source (Changed at)) by = absurd by.told.cause
  of _ by = tt

told_by_later : (e : Entry) (kind : FaultKind) (n : ℕ) (a b c : SourceState) → FetchesAtMost n a b → IsToldByFetch e kind b c → IsToldByFetch e kind a c
told_by_later e (kinds.Source (Changed at)) n a b c first told = (sym first.same_content ∙ told.0, told.1)
told_by_later e (kinds.Source (Failed at)) n a b c first told = told_later (Failed at) n a b c first told
told_by_later e (kinds.Source (ShortRead at)) n a b c first told = told_later (ShortRead at) n a b c first told
told_by_later e _ n a b c first told = tt

pub told_in_later : (e : Entry) (f : ListFault) (n : ℕ) (a b c : SourceState) → FetchesAtMost n a b → IsToldIn e f b c → IsToldIn e f a c
told_in_later e f n a b c first told = record { by = told_by_later e f.kind n a b c first told.by; placed = told.placed }
