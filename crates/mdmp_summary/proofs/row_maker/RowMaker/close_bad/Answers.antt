use Rattle.std.proofs.Common.{Some}
use Rattle.mdmp_summary.specs.CheckRows.{result_row}
use Rattle.mdmp_summary.proofs.RowsTaken.{one_row}
use Rattle.mdmp_summary.proofs.row_maker.RowMaker.close_bad.Goals as goal

pub returns-clause-puts : goal.returns-clause-puts
returns-clause-puts g c =
    one_row g.K.CheckRowSink.step (result_row c.args.fault.entry (Some c.args.fault) c.args.self.now.loses_parts) c.args.self.now.sink.now c.take.new.self c.take.result c.take.ensures
