use Rattle.std.proofs.Common.{arith, rules}
use Rattle.std.proofs.lemmas.Grind.{common_steps}
use Rattle.std.proofs.lemmas.Slice.{overwrites}
use Rattle.mdmp_wire.proofs.record.put_at.Goals as goal

pub returns-clause-rest : goal.returns-clause-rest
returns-clause-rest g c = search (rules, overwrites)

pub returns-clause-bytes : goal.returns-clause-bytes
returns-clause-bytes g c = grind (arith, common_steps)
