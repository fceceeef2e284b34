use Rattle.std.proofs.Common.{refl}
use Rattle.mdmp_lister.proofs.walk.Walk.records_left.Goals as goal

pub returns-in-Records : goal.returns-in-Records
returns-in-Records g c = rw c.in-Records.is refl
