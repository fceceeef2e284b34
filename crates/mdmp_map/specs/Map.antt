-- The ranges that a map of addresses holds.
use Rattle.std.specs.Prelude.{ℕ, ◌-◌, List, length}
use Rattle.mdmp_map.specs.declared.range.Range.{Range}

-- a map as its callers see it: its ranges in listing order, and how many it may hold in all
pub record MapState : Type 0 where
  pub ranges : List Range
  pub room : ℕ

-- how many more ranges it may hold
abbrev pub free_of : MapState → ℕ
free_of map = map.room - length map.ranges
