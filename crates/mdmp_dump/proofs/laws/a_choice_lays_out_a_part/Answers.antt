use Rattle.mdmp_dump.proofs.Selected.{lays_out_selected}
use Rattle.mdmp_dump.proofs.laws.a_choice_lays_out_a_part.Goals as goal

pub returns : goal.returns
returns g c = lays_out_selected c.args.file.now c.args.types.now c.args.dump.now
