use Rattle.std.proofs.Common.{refl}
use Rattle.mdmp_dump.proofs.placed.location.Goals as goal

pub returns-in-NoPart : goal.returns-in-NoPart
returns-in-NoPart c = rw c.in-NoPart.is refl

pub returns-in-Absent : goal.returns-in-Absent
returns-in-Absent c = rw c.in-Absent.is refl
