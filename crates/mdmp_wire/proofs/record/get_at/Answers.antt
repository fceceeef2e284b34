use Rattle.std.proofs.Common.{rules}
use Rattle.mdmp_wire.proofs.record.get_at.Goals as goal

pub returns : goal.returns
returns g c = search rules
