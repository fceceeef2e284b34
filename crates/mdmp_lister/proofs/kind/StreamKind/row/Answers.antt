use Rattle.std.proofs.Common.{refl}
use Rattle.mdmp_lister.proofs.kind.StreamKind.row.Goals as goal

pub returns-in-Unloaded : goal.returns-in-Unloaded
returns-in-Unloaded c = rw c.in-Unloaded.is refl
