use Rattle.mdmp_c.proofs.Judging.{Ends-as, are_verdicts}
use Rattle.mdmp_c.proofs.verdicts.mdmp_verdicts_.Goals as goal

pub returns : goal.returns
returns c = Ends-as _ _ (are_verdicts c.args.file.now c.args.limits.now.name) c.give_checked.ensures
