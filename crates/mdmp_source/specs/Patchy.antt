-- The store and the output in memory that tests use.
use Rattle.std.specs.Prelude.{◌-◌, ◌%◌, ◌==◌, ◌&&◌, ℕ, Bool, false, List, Option, Some, None, length, min, is_none, nat_lt, slice_index}
use Rattle.std.specs.List.{list_all}
use Rattle.mdmp_source.specs.Store.{StoreState}
use Rattle.mdmp_source.specs.declared.store.StoreCounts.{StoreCounts}

-- such a store as its callers see it: its file, how much a call reads, which call fails, and its calls so far
pub record PatchyStoreState : Type 0 where
  pub bytes : List ℕ
  pub caps : List ℕ
  pub fail_at : Option ℕ
  pub counts : StoreCounts

-- the same as any store: it is reliable where no cap is 0 and no call fails
abbrev pub patchy_state : PatchyStoreState → StoreState
patchy_state s = record {
  content = Some s.bytes;
  size = length s.bytes;
  is_reliable = is_none s.fail_at && list_all (λ cap. nat_lt 0 cap) s.caps;
  least = 0;
  counts = s.counts;
}

-- such an output as its callers see it: what it took, how much it takes in all and a call, which call fails, its calls
-- so far, and how often it refused
pub record PatchyOutState : Type 0 where
  pub taken : List ℕ
  pub room : ℕ
  pub cap : ℕ
  pub fail_at : Option ℕ
  pub calls : ℕ
  pub failures : ℕ

-- whether the call of this number, counted from 0, is the one that fails
abbrev pub is_failing_call : Option ℕ → ℕ → Bool
is_failing_call None call = false
is_failing_call (Some fail_at) call = call == fail_at

-- the cap of the call of this number, counted from 0: the caps come round
abbrev pub cap_of : List ℕ → ℕ → ℕ
cap_of caps call = slice_index caps (call % length caps)

-- how many bytes the store's next call gives, where it does not fail
abbrev pub given_count : PatchyStoreState → ℕ → ℕ → ℕ
given_count s at asked = min (min asked (cap_of s.caps s.counts.calls)) (length s.bytes - at)

-- how many bytes the output's next call takes, where it does not fail
abbrev pub taken_count : PatchyOutState → ℕ → ℕ
taken_count o offered = min (min offered o.cap) (o.room - length o.taken)
