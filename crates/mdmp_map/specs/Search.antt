-- A search that is shown ranges one after another.
use Rattle.std.specs.Prelude.{◌≡◌, ℕ, List, None}
use Rattle.mdmp_map.specs.declared.range.Range.{Range}
use Rattle.mdmp_map.specs.Ranges.{address_end, first_range, next_start}

pub record SearchState : Type 0 where
  -- the address that is sought
  pub address : ℕ
  -- the lowest start behind it among the ranges so far, or where addresses end
  pub next_start : ℕ

-- it was shown these ranges, and none of them holds the address
pub record HasSeen (seen : List Range) (s : SearchState) : Type 0 where
  pub none : first_range seen s.address ≡ None
  pub lowest : s.next_start ≡ next_start address_end s.address seen
