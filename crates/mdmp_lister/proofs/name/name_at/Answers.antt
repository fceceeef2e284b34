use Rattle.std.proofs.Common.{rules}
use Rattle.mdmp_wire.specs.Number.{array_at}
use Rattle.mdmp_lister.specs.Format.Name.{name_at}
use Rattle.mdmp_lister.proofs.name.name_at.Goals as goal

pub returns-then-limit-length : goal.returns-then-limit-length
unfolding name_at array_at
returns-then-limit-length c = search rules
