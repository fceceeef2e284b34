use Rattle.std.proofs.Common.{refl}
use Rattle.mdmp_dump.proofs.view.PartSize.size.Goals as goal

pub returns-in-Absent : goal.returns-in-Absent
returns-in-Absent c = rw c.in-Absent.is refl
