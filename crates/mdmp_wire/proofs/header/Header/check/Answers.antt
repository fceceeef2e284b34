use Rattle.std.proofs.Common.{rules}
use Rattle.mdmp_wire.proofs.header.Header.check.Goals as goal

pub returns-then-low : goal.returns-then-low
returns-then-low c = search rules

pub returns-else-low : goal.returns-else-low
returns-else-low c = search rules
