use Rattle.std.proofs.Common.{◌*◌, take}
use Rattle.mdmp_source.specs.Output.{PutsAll}
use Rattle.mdmp_wire.specs.Escape.{escaped}
use Rattle.mdmp_wire.specs.Units.{units_of}
use Rattle.mdmp_wire.proofs.units_ref.UnitsRef.escape_into.Given as goal

abbrev pub invariant-loop-chunk : goal.invariant-loop-chunk
invariant-loop-chunk g l =
    PutsAll (g.O.Out.state l.fn.out) (escaped (take (64 * l.chunk) (units_of l.self.bytes.now))) (g.O.Out.state l.out)
