use Rattle.mdmp_tool.proofs.StandingCopy.{copy_stands}
use Rattle.mdmp_tool.proofs.standing.what_is_copied_stands.Goals as goal

pub returns : goal.returns
returns g c = copy_stands g.row.A.Denot
