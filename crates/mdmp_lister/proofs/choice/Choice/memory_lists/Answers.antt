use Rattle.std.proofs.Common.{refl}
use Rattle.mdmp_lister.proofs.choice.Choice.memory_lists.Goals as goal

pub returns : goal.returns
returns c = refl
