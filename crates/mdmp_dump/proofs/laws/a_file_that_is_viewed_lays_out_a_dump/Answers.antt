use Rattle.mdmp_dump.proofs.Laid.{viewed_lays}
use Rattle.mdmp_dump.proofs.Unique.Dump.{lays_out_once}
use Rattle.mdmp_dump.specs.InFile.{dump_in}
use Rattle.mdmp_dump.proofs.laws.a_file_that_is_viewed_lays_out_a_dump.Goals as goal

pub returns-clause-lays_out : goal.returns-clause-lays_out
returns-clause-lays_out c = λ given file choice names none. viewed_lays _ file names choice none

pub returns-clause-only : goal.returns-clause-only
returns-clause-only c = λ given file choice names none lays. lays_out_once file choice given.args.dump.now (dump_in file choice) lays (viewed_lays _ file names choice none)
