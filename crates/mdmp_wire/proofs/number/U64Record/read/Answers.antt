use Rattle.std.proofs.Common.{rules}
use Rattle.mdmp_wire.specs.Number.{number_at}
use Rattle.mdmp_wire.proofs.number.U64Record.read.Goals as goal

pub returns : goal.returns
unfolding number_at
returns c = search rules
