use Rattle.std.proofs.Common.{◌≡◌, ◌≤◌, ◌-◌, length}
use Rattle.mdmp_dump.specs.Walking.{IsPlace}
use Rattle.mdmp_dump.proofs.entry_walk.place_of.Given as goal

abbrev pub invariant-loop-place : goal.invariant-loop-place
invariant-loop-place g l = record {
  stands : IsPlace l.walker.list l.place;
  before : l.place.stream ≤ l.stream;
  count : l.entries ≡ length l.walker.list.entries;
}

abbrev pub decreases-loop-place : goal.decreases-loop-place
decreases-loop-place g l = l.entries - l.place.number
