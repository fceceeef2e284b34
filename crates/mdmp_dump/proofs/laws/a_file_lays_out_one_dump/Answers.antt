use Rattle.mdmp_dump.proofs.Unique.Dump.{lays_out_once}
use Rattle.mdmp_dump.proofs.laws.a_file_lays_out_one_dump.Goals as goal

pub returns : goal.returns
returns g c = λ file choice. lays_out_once file choice c.args.one.now c.args.other.now
