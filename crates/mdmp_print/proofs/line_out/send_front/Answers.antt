use Rattle.mdmp_print.specs.BlockLaws.{MovesFront-take}
use Rattle.mdmp_print.proofs.line_out.send_front.Goals as goal

pub returns-clause-moved : goal.returns-clause-moved
returns-clause-moved g c = MovesFront-take _ _ _ _ c.send-sent.result c.send-sent.ensures.took c.drop_front.ensures
