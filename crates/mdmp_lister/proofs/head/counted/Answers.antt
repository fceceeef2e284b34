use Rattle.std.proofs.Common.{rules}
use Rattle.mdmp_lister.proofs.head.counted.Goals as goal

pub returns-clause-shape : goal.returns-clause-shape
returns-clause-shape c = search rules
