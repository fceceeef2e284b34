use Rattle.std.proofs.Common.{rules}
use Rattle.mdmp_source.proofs.range.inside.Goals as goal

pub returns-then-len-size-clause-value : goal.returns-then-len-size-clause-value
returns-then-len-size-clause-value c = search rules

pub returns-then-len-size-clause-fact : goal.returns-then-len-size-clause-fact
returns-then-len-size-clause-fact c = search rules
