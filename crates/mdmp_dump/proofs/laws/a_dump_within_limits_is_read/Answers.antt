use Rattle.mdmp_dump.proofs.Within.Dump.{unrefused}
use Rattle.mdmp_dump.proofs.laws.a_dump_within_limits_is_read.Goals as goal

pub returns : goal.returns
returns g c = λ file choice name_limit part_limit. unrefused file choice name_limit part_limit c.args.dump.now
