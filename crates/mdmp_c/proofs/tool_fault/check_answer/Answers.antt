use Rattle.std.proofs.Common.{rules}
use Rattle.mdmp_c.proofs.tool_fault.check_answer.Goals as goal

pub returns-in-Ok-eq0 : goal.returns-in-Ok-eq0
returns-in-Ok-eq0 c = search rules
