use Rattle.std.proofs.Common.{rules}
use Rattle.mdmp_source.proofs.store.StoreCounts.count.Goals as goal

pub returns-in-Err : goal.returns-in-Err
returns-in-Err c = search rules
