use Rattle.std.proofs.Common.{◌≡◌, ◌<◌, ℕ}
use Rattle.std.specs.Prelude.{length, slice_index}
use Rattle.mdmp_wire.specs.Units.{units_in}
use Rattle.mdmp_wire.proofs.units_ref.UnitsRefPartialEq.eq.Given as goal

-- they are as many, and those before the index are the same
abbrev pub invariant-loop-index : goal.invariant-loop-index
invariant-loop-index l =
    (length (units_in l.self) ≡ length (units_in l.other))
    × ((k : ℕ) → k < l.index → slice_index (units_in l.self) k ≡ slice_index (units_in l.other) k)
