use Rattle.std.proofs.Common.{◌≡◌, ◌-◌, drop, length}
use Rattle.std.specs.Char.Utf16.{has_unpaired_surrogate}
use Rattle.mdmp_wire.specs.Units.{units_in}
use Rattle.mdmp_print.proofs.json_units.is_lossy.Given as goal

abbrev pub invariant-loop-at : goal.invariant-loop-at
invariant-loop-at l = has_unpaired_surrogate (drop l.at (units_in l.units)) ≡ has_unpaired_surrogate (units_in l.units)

abbrev pub decreases-loop-at : goal.decreases-loop-at
decreases-loop-at l = length (units_in l.units) - l.at
