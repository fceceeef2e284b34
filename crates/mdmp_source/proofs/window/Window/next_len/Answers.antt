use Rattle.std.proofs.Common.{arith}
use Rattle.std.proofs.lemmas.Grind.{common_steps}
use Rattle.mdmp_source.proofs.window.Window.next_len.Goals as goal

pub returns : goal.returns
returns g c = grind (arith, common_steps)
