use Rattle.std.proofs.Common.{arith, refl, sym}
use Rattle.mdmp_wire.specs.UnitsLaws.{les_of_units, units_of_whole}
use Rattle.mdmp_wire.proofs.units_ref.whole_units.Goals as goal

pub returns-clause-units : goal.returns-clause-units
returns-clause-units c = units_of_whole c.args.bytes.now _ refl

pub returns-clause-bytes : goal.returns-clause-bytes
returns-clause-bytes c = sym (les_of_units c.args.bytes.now _ (λ k. omega (arith, c.type_inv.bytes k)) refl)
