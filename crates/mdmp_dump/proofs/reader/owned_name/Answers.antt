use Rattle.std.proofs.Common.{refl}
use Rattle.mdmp_dump.proofs.reader.owned_name.Goals as goal

pub returns-in-None : goal.returns-in-None
returns-in-None g c = rw c.in-None.is (refl, refl)

pub returns-in-Ok : goal.returns-in-Ok
returns-in-Ok g c = rw (c.in-Units.is, c.in-Ok.ensures) (refl, refl)

pub returns-in-Err : goal.returns-in-Err
returns-in-Err g c = tt

pub returns-in-Long : goal.returns-in-Long
returns-in-Long g c = rw c.in-Long.is refl
