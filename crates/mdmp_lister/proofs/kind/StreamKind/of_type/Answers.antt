use Rattle.std.proofs.Common.{refl}
use Rattle.mdmp_lister.proofs.kind.StreamKind.of_type.Goals as goal

pub returns-in-16 : goal.returns-in-16
returns-in-16 c = rw c.in-16.is refl

pub returns-in-24 : goal.returns-in-24
returns-in-24 c = rw c.in-24.is refl
