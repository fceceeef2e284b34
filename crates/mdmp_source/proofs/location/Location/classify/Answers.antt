use Rattle.std.proofs.Common.{rules}
use Rattle.mdmp_source.proofs.location.Location.classify.Goals as goal

pub returns-then-self-eq0-2 : goal.returns-then-self-eq0-2
returns-then-self-eq0-2 c = search rules
