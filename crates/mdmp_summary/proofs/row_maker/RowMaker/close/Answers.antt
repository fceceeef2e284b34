use Rattle.std.proofs.Common.{None}
use Rattle.mdmp_summary.specs.CheckRows.{result_row}
use Rattle.mdmp_summary.proofs.RowsTaken.{one_row}
use Rattle.mdmp_summary.proofs.row_maker.RowMaker.close.Goals as goal

pub returns-in-Some-clause-puts : goal.returns-in-Some-clause-puts
returns-in-Some-clause-puts g c =
    rw c.in-Some.is (one_row g.K.CheckRowSink.step (result_row c.in-Some.entry None c.args.self.now.loses_parts) c.args.self.now.sink.now c.take.new.self c.take.result c.take.ensures)
