use Rattle.std.proofs.Common.{rules}
use Rattle.mdmp_source.proofs.placed_file.read_from.Goals as goal

pub returns-clause-sought : goal.returns-clause-sought
returns-clause-sought g c = search rules
