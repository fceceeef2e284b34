use Rattle.std.proofs.Common.{rules}
use Rattle.mdmp_wire.specs.Number.{array_at, number_at}
use Rattle.mdmp_wire.proofs.codeview.CodeView.read.Goals as goal

pub returns : goal.returns
unfolding array_at number_at
returns c = search rules
