use Rattle.std.proofs.Common.{arith, length}
use Rattle.mdmp_wire.specs.Units.{units_in}
use Rattle.mdmp_print.proofs.Unitwise.{text-end}
use Rattle.mdmp_print.proofs.json_units.QuotedParts.places.Goals as goal

pub returns-clause-end : goal.returns-clause-end
returns-clause-end c = text-end (units_in c.args.self.now.units) (length (units_in c.args.self.now.units)) (omega arith)
