use Rattle.mdmp_dump.proofs.FileRefusals.{read_too, viewed}
use Rattle.mdmp_dump.proofs.laws.a_file_that_is_read_is_viewed.Goals as goal

pub returns-clause-viewed : goal.returns-clause-viewed
returns-clause-viewed c = viewed

pub returns-clause-same : goal.returns-clause-same
returns-clause-same c = read_too
