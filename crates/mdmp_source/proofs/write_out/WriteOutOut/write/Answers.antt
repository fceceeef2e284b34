use Rattle.std.proofs.Common.{rules}
use Rattle.mdmp_source.proofs.write_out.WriteOutOut.write.Goals as goal

pub returns-clause-failures : goal.returns-clause-failures
returns-clause-failures g c = search rules
