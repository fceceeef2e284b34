use Rattle.std.proofs.Common.{rules}
use Rattle.mdmp_lister.proofs.held_step.bytes_behind.Goals as goal

pub returns-in-Memory64 : goal.returns-in-Memory64
returns-in-Memory64 c = search rules
