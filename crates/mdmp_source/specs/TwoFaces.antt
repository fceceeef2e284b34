-- The store that changes, which tests use.
use Rattle.std.specs.Prelude.{ℕ, List, None, true, length, nat_lt, if◌then◌else◌}
use Rattle.mdmp_source.specs.Store.{StoreState}
use Rattle.mdmp_source.specs.declared.store.StoreCounts.{StoreCounts}

-- such a store as its callers see it: its two contents, the call from which on it gives the second, and its calls so far
pub record TwoFacesState : Type 0 where
  pub first : List ℕ
  pub second : List ℕ
  pub turn : ℕ
  pub counts : StoreCounts

-- the same as any store: it never fails, gives all that it is asked for, and no content is known
abbrev pub two_faces_state : TwoFacesState → StoreState
two_faces_state s = record {
  content = None;
  size = length s.first;
  is_reliable = true;
  least = length s.first;
  counts = s.counts;
}

-- the content that the next call reads
abbrev pub face_of : TwoFacesState → List ℕ
face_of s = if nat_lt s.counts.calls s.turn then s.first else s.second
