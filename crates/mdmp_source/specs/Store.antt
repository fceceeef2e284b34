-- What a store is, and what its calls say.
use Rattle.std.specs.Prelude.{◌≡◌, ◌≢◌, ◌≤◌, ◌<◌, ◌-◌, ◌^◌, ◌&&◌, ◌==◌, ℕ, Bool, false, List, Option, Result, Some, Ok, Err, IsTrue, length, min, take, IfOk, IfSome, is_err, nat_lt, if◌then◌else◌, slice_index}
use Rattle.mdmp_source.specs.Count.{raised, raised_if}
use Rattle.mdmp_source.specs.Range.{bytes_at}
use Rattle.mdmp_source.specs.declared.store.StoreCounts.{StoreCounts}

-- a store as its callers see it
pub record StoreState : Type 0 where
  -- the bytes of the file, where they are known
  pub content : Option (List ℕ)
  -- how many it says that it has
  pub size : ℕ
  -- it never fails, and gives at least one byte where one inside the content is asked for
  pub is_reliable : Bool
  -- a call that does not fail gives at least so many bytes, if as many are asked for and there; 0 where that is not known
  pub least : ℕ
  -- its calls so far
  pub counts : StoreCounts

-- the content is known to be this file, and each byte of it is given
pub record IsGood (store : StoreState) (file : List ℕ) : Type 0 where
  pub known : store.content ≡ Some file
  pub reliable : IsTrue store.is_reliable

-- each number of a file is a byte
abbrev pub AreBytes : List ℕ → Type 0
AreBytes file = (k : ℕ) → slice_index file k < 2 ^ 8

-- a known content is one of bytes
abbrev pub IsOfBytes : Option (List ℕ) → Type 0
IsOfBytes content = (file : List ℕ) → content ≡ Some file → AreBytes file

-- a store that was just made: its content where that is known, whether it never fails, and no calls yet
pub record IsNew (store : StoreState) (content : Option (List ℕ)) (is_reliable : Bool) : Type 0 where
  pub same_content : store.content ≡ content
  pub same_reliable : store.is_reliable ≡ is_reliable
  pub no_calls : store.counts ≡ record { calls = 0; failures = 0; empties = 0; place = 0 }

-- a known content has this length
abbrev pub IsSizeOf : Option (List ℕ) → ℕ → Type 0
IsSizeOf content size = IfSome content (λ file. size ≡ length file)

-- `Ok(k)` gave k bytes of the content at this place, where the content is known
abbrev pub GivesContent : {E : Type 0} → Option (List ℕ) → ℕ → Result ℕ E → List ℕ → Type 0
GivesContent content at result out = IfOk result (λ k. IfSome content (λ file. take k out ≡ bytes_at file at k))

-- a call at a place inside a known content gave some of it
abbrev pub GivesSome : {E : Type 0} → Option (List ℕ) → ℕ → Result ℕ E → Type 0
GivesSome content at result = IfSome content (λ file. at < length file → result ≢ Ok 0)

-- a call for so many bytes at a place gave as many as a call of this store gives at least, or all that were asked for and are there
abbrev pub GivesLeast : {E : Type 0} → StoreState → ℕ → ℕ → Result ℕ E → Type 0
GivesLeast store at asked result = IfOk result (λ k. min store.least (min asked (store.size - at)) ≤ k)

-- whether a call answered no bytes where some were asked for
abbrev pub is_empty_answer : {E : Type 0} → Result ℕ E → ℕ → Bool
is_empty_answer (Ok k) asked = (k == 0) && nat_lt 0 asked
is_empty_answer (Err e) asked = false

-- where the last call gave nothing, once a call at this place gave this answer
abbrev pub place_after : {E : Type 0} → Result ℕ E → ℕ → ℕ → ℕ → ℕ
place_after (Ok k) at asked before = if (k == 0) && nat_lt 0 asked then at else before
place_after (Err e) at asked before = at

-- the counts after a call at this place with this answer
abbrev pub counts_after : {E : Type 0} → StoreCounts → Result ℕ E → ℕ → ℕ → StoreCounts
counts_after before result at asked = record {
  calls = raised before.calls 1;
  failures = raised_if (is_err result) before.failures;
  empties = raised_if (is_empty_answer result asked) before.empties;
  place = place_after result at asked before.place;
}

-- the store after a call at this place with this answer: its content stays
abbrev pub after_call : {E : Type 0} → StoreState → Result ℕ E → ℕ → ℕ → StoreState
after_call before result at asked = record before { counts = counts_after before.counts result at asked }
