use Rattle.std.proofs.Common.{rules}
use Rattle.mdmp_source.proofs.patchy_out.PatchyOutOut.write.Goals as goal

pub returns-clause-count : goal.returns-clause-count
returns-clause-count g c = search rules

pub returns-clause-took : goal.returns-clause-took
returns-clause-took g c = search rules
