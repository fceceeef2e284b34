use Rattle.std.proofs.Common.{rules}
use Rattle.mdmp_lister.proofs.walk.Walk.next_record.Goals as goal

pub returns-in-Err-clause-taken : goal.returns-in-Err-clause-taken
returns-in-Err-clause-taken g c = search rules
