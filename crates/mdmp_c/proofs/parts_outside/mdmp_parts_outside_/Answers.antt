use Rattle.mdmp_c.proofs.Judging.{Ends-as}
use Rattle.mdmp_c.proofs.Losing.{are_parts}
use Rattle.mdmp_c.proofs.parts_outside.mdmp_parts_outside_.Goals as goal

pub returns : goal.returns
returns c = Ends-as _ _ (are_parts c.args.file.now c.args.limits.now.name) c.give_checked.ensures
