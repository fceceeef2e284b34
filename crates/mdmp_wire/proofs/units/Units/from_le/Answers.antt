use Rattle.std.proofs.Common.{rules}
use Rattle.mdmp_wire.proofs.units.Units.from_le.Goals as goal

pub returns : goal.returns
returns g c = search rules
