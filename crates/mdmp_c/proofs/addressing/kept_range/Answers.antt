use Rattle.std.proofs.Common.{rules}
use Rattle.mdmp_c.proofs.addressing.kept_range.Goals as goal

pub returns-then-row-size-2 : goal.returns-then-row-size-2
returns-then-row-size-2 c = search rules
