use Rattle.std.proofs.Common.{arith}
use Rattle.mdmp_wire.specs.Units.{units_in}
use Rattle.mdmp_print.proofs.Unitwise.{chars-end}
use Rattle.mdmp_print.proofs.json_units.is_lossy.Goals as goal

pub returns : goal.returns
returns c =
    let none = chars-end (units_in c.args.units.now) c.loop-at.at (omega (arith, c.loop-at-test.false, c.len.ensures)) in
    rw none at c.loop-at.invariant
