-- What a listing has fetched, beside its source.
use Rattle.std.specs.Prelude.{◌≡◌, ◌≤◌, ◌<◌, ◌+◌, ◌*◌, ◌^◌, ℕ, Bool, false, nat_lt, IsTrue, Option, None, Some, Result, Ok, Err, IfErr}
use Rattle.mdmp_source.specs.Count.{raised}
use Rattle.mdmp_source.specs.Range.{IsInside}
use Rattle.mdmp_source.specs.Source.{SourceState, FetchesAtMost}
use Rattle.mdmp_source.specs.declared.fault.SourceFault.{SourceFault}
use Rattle.mdmp_lister.specs.declared.fault.Fault.{Fault}
use Rattle.mdmp_lister.specs.declared.fault.FaultKind.{FaultKind}
use Rattle.mdmp_lister.specs.declared.fault.FaultKind.TheVariants as kind
use Rattle.mdmp_lister.specs.declared.fault.FetchFault.{FetchFault}
use Rattle.mdmp_lister.specs.declared.fault.FetchFault.TheVariants.{Source, Budget}
use Rattle.mdmp_lister.specs.declared.meter.Amount.{Amount}
use Rattle.mdmp_lister.specs.declared.meter.MeterCounts.{MeterCounts}

-- a source that is read for a listing, as those who read through it see it
pub record MeterState : Type 0 where
  pub source : SourceState
  -- the bytes fetched for the listing, the calls of `fetch` for it, and the names that it reached
  pub fetched : ℕ
  pub calls : ℕ
  pub names : ℕ
  -- what was fetched aside
  pub aside : Amount
  -- what the source's own counts were when the listing began
  pub start : Amount
  -- the most bytes that may be fetched for the listing, where there is a most
  pub budget : Option ℕ
  -- the bytes fetched, with those of a fetch that was not made since it would have passed the budget. The bounds limit these,
  -- so that a listing whose bound is within its budget never ends by it
  pub asked : ℕ

-- what was counted, without the source
abbrev pub counts_of : MeterState → MeterCounts
counts_of m = record { fetched = m.fetched; calls = m.calls; names = m.names; aside = m.aside; start = m.start; budget = m.budget; asked = m.asked }

-- ---- the budget

-- so many bytes are more than it
abbrev pub is_passed : Option ℕ → ℕ → Bool
is_passed (Some budget) n = nat_lt budget n
is_passed None n = false

-- or they are not
abbrev pub KeepsTo : Option ℕ → ℕ → Type 0
KeepsTo budget n = is_passed budget n ≡ false

-- what was fetched is within the budget, and within what was asked for, which is the same while there is no budget
pub record IsMetered (budget : Option ℕ) (fetched asked : ℕ) : Type 0 where
  pub kept : KeepsTo budget fetched
  pub within : fetched ≤ asked
  pub same : budget ≡ None → asked ≡ fetched

-- the fault of the store that an answer is
abbrev pub store_fault_of : {T : Type 0} → Result T FetchFault → Option SourceFault
store_fault_of (Ok x) = None
store_fault_of (Err (Source fault)) = Some fault
store_fault_of (Err (Budget offset size)) = None

-- a fetch of so many bytes at an offset, which lie inside the file and are at most so many, was not made: with them the
-- budget is passed
pub record IsRefusedFetch (most offset size : ℕ) (c : MeterCounts) (file_size : ℕ) : Type 0 where
  pub passes : IsTrue (is_passed c.budget (raised c.fetched size))
  -- its bytes are counted in `asked`, which the bounds limit
  pub asked : raised c.fetched size ≤ c.asked
  pub inside : IsInside offset size file_size
  pub few : size ≤ most

-- an answer that tells the budget is of this fetch, and nothing was fetched
abbrev pub RefusesFetch : {T : Type 0} → ℕ → ℕ → Result T FetchFault → MeterState → MeterState → Type 0
RefusesFetch offset size (Err (Budget at len)) old new = ((at ≡ offset) × (len ≡ size)) × (IsRefusedFetch size offset size (counts_of new) new.source.size × (new.source ≡ old.source))
RefusesFetch offset size answer old new = Unit {0}

-- the fetch of these bytes was made and counted, or it is the one that the budget is told of, and nothing was fetched
abbrev pub TriesFetch : {T : Type 0} → (offset size : ℕ) → Result T FetchFault → MeterState → MeterState → Type 0
TriesFetch offset size (Ok x) old new = new.fetched ≡ raised old.fetched size
TriesFetch offset size (Err (Budget at len)) old new = ((at ≡ offset) × (len ≡ size)) × (new.fetched ≡ old.fetched)
TriesFetch offset size (Err (Source fault)) old new = Unit {0}

-- the same by the fault that was told behind it
abbrev pub IsTried : (offset size : ℕ) → FaultKind → (at len before after : ℕ) → Type 0
IsTried offset size kind.Budget at len before after = ((at ≡ offset) × (len ≡ size)) × (after ≡ before)
IsTried offset size (kind.Source fault) at len before after = Unit {0}
IsTried offset size kind at len before after = after ≡ raised before size

abbrev pub TriesRead : {T : Type 0} → (offset size : ℕ) → Result T Fault → MeterState → MeterState → Type 0
TriesRead offset size (Ok x) old new = new.fetched ≡ raised old.fetched size
TriesRead offset size (Err fault) old new = IsTried offset size fault.kind fault.offset fault.size old.fetched new.fetched

-- a fault that tells the budget is of some fetch that was not made, of at most so many bytes
abbrev pub IsFetchOver : ℕ → FetchFault → MeterState → Type 0
IsFetchOver most (Budget offset size) m = IsRefusedFetch most offset size (counts_of m) m.source.size
IsFetchOver most (Source fault) m = Unit {0}

abbrev pub TellsBudget : {T : Type 0} → ℕ → Result T FetchFault → MeterState → Type 0
TellsBudget most result m = IfErr result (λ fault. IsFetchOver most fault m)

-- and so is a fault of a listing
abbrev pub IsUnmade : ℕ → FaultKind → (offset size : ℕ) → MeterCounts → ℕ → Type 0
IsUnmade most kind.Budget offset size c file_size = IsRefusedFetch most offset size c file_size
IsUnmade most kind offset size c file_size = Unit {0}

-- what a fetch counts: one that was not made its bytes alone, as asked for
abbrev pub CountsFetch : {T : Type 0} → ℕ → ℕ → Result T FetchFault → MeterState → MeterState → Type 0
CountsFetch calls size (Err (Budget at len)) old new = new ≡ record old { asked = raised old.asked size }
CountsFetch calls size answer old new = new ≡ record old { source = new.source; fetched = raised old.fetched size; asked = raised old.asked size; calls = raised old.calls calls }

-- each byte and each call that a source counted since then is booked
pub record IsBookedBy (source : SourceState) (fetched calls : ℕ) (aside start : Amount) : Type 0 where
  pub bytes : source.fetched ≡ raised start.bytes (fetched + aside.bytes)
  pub calls_are : source.calls ≡ raised start.calls (calls + aside.calls)

abbrev pub IsBooked : SourceState → MeterCounts → Type 0
IsBooked source c = IsBookedBy source c.fetched c.calls c.aside c.start

-- the source of a meter, each of whose bytes and calls is booked
pub record IsSourceOf (m : MeterState) (source : SourceState) : Type 0 where
  pub value : source ≡ m.source
  pub booked : IsBooked source (counts_of m)
  pub kept : KeepsTo m.budget m.fetched

-- some fetches for the listing and of no name, in at most so many calls, of at most n bytes together
pub record Books (calls n : ℕ) (old new : MeterState) : Type 0 where
  pub fetches : FetchesAtMost n old.source new.source
  pub source_calls : new.source.calls ≤ raised old.source.calls calls
  pub asked : new.asked ≤ old.asked + n
  pub most : new.fetched ≤ old.fetched + n
  pub more : old.fetched ≤ new.fetched
  pub more_calls : old.calls ≤ new.calls
  pub most_calls : new.calls ≤ old.calls + calls
  pub same_names : new.names ≡ old.names
  pub same_aside : new.aside ≡ old.aside
  pub same_start : new.start ≡ old.start
  pub same_budget : new.budget ≡ old.budget

-- some fetches for the listing, in at most so many calls, of at most n bytes and, where a name was reached, `limit` and 4
-- more in 2 more calls
pub record Spends (calls n limit : ℕ) (old new : MeterState) : Type 0 where
  pub paid : old.names + 1 < 2 ^ 128 → new.asked + old.names * (limit + 4) ≤ old.asked + n + new.names * (limit + 4)
  pub paid_fetched : old.names + 1 < 2 ^ 128 → new.fetched + old.names * (limit + 4) ≤ old.fetched + n + new.names * (limit + 4)
  pub paid_calls : old.names + 1 < 2 ^ 128 → new.calls + old.names * 2 ≤ old.calls + calls + new.names * 2
  pub more : old.fetched ≤ new.fetched
  pub more_calls : old.calls ≤ new.calls
  pub more_names : old.names ≤ new.names
  pub one_name : new.names ≤ old.names + 1
  pub same_aside : new.aside ≡ old.aside
  pub same_start : new.start ≡ old.start
  pub same_budget : new.budget ≡ old.budget

-- what was counted rose, the names by at most n, and nothing was fetched aside
pub record Moves (n : ℕ) (old new : MeterCounts) : Type 0 where
  pub more : old.fetched ≤ new.fetched
  pub more_calls : old.calls ≤ new.calls
  pub more_names : old.names ≤ new.names
  pub most_names : new.names ≤ old.names + n
  pub same_aside : new.aside ≡ old.aside
  pub same_start : new.start ≡ old.start
  pub same_budget : new.budget ≡ old.budget

-- a count that has begun over a source, of no name and of nothing aside, with this budget
pub record IsBegunOver (source : SourceState) (budget : Option ℕ) (new : MeterCounts) : Type 0 where
  pub budget_is : new.budget ≡ budget
  pub names : new.names ≡ 0
  pub aside : new.aside ≡ record { bytes = 0; calls = 0 }
  pub start : new.start ≡ record { bytes = source.fetched; calls = source.calls }

-- some fetches aside, in at most so many calls, of at most n bytes
pub record SpendsAside (calls n : ℕ) (old new : MeterCounts) : Type 0 where
  pub aside : new.aside.bytes ≤ old.aside.bytes + n
  pub more : old.aside.bytes ≤ new.aside.bytes
  pub aside_calls : new.aside.calls ≤ old.aside.calls + calls
  pub more_aside_calls : old.aside.calls ≤ new.aside.calls
  pub same_fetched : new.fetched ≡ old.fetched
  pub same_calls : new.calls ≡ old.calls
  pub same_names : new.names ≡ old.names
  pub same_start : new.start ≡ old.start
  pub same_budget : new.budget ≡ old.budget
  pub same_asked : new.asked ≡ old.asked

-- the same of the source that they are fetched from
pub record BooksAside (calls n : ℕ) (old new : MeterState) : Type 0 where
  pub fetches : FetchesAtMost n old.source new.source
  pub source_calls : new.source.calls ≤ raised old.source.calls calls
  pub spends : SpendsAside calls n (counts_of old) (counts_of new)
