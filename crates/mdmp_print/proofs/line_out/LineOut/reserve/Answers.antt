use Rattle.mdmp_print.proofs.Printing.{Puts-moved}
use Rattle.mdmp_print.proofs.line_out.LineOut.reserve.Goals as goal

pub returns-then-self-lt-LINE_ROOM-clause-nothing : goal.returns-then-self-lt-LINE_ROOM-clause-nothing
returns-then-self-lt-LINE_ROOM-clause-nothing g c =
    Puts-moved c.flush.result c.args.self.now c.flush.new.self c.flush.ensures.moved c.flush.ensures.failures
