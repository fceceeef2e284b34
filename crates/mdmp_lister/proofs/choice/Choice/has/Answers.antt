use Rattle.std.proofs.Common.{refl}
use Rattle.mdmp_lister.proofs.choice.Choice.has.Goals as goal

pub returns-in-All : goal.returns-in-All
returns-in-All c = rw c.in-All.is refl
