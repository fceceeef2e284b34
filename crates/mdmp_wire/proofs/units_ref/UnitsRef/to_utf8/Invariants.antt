use Rattle.std.proofs.Common.{◌≡◌, take}
use Rattle.mdmp_wire.specs.Units.{units_of}
use Rattle.mdmp_wire.proofs.units_ref.UnitsRef.to_utf8.Given as goal

abbrev pub invariant-loop-index : goal.invariant-loop-index
invariant-loop-index g l = l.units.items ≡ take l.index (units_of l.self.bytes.now)
