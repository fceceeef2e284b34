use Rattle.mdmp_summary.specs.declared.check_row.CheckRow.TheVariants.{Part}
use Rattle.mdmp_summary.proofs.RowsTaken.{one_row}
use Rattle.mdmp_summary.proofs.row_maker.RowMaker.tell_part.Goals as goal

pub returns-in-Some-clause-puts : goal.returns-in-Some-clause-puts
returns-in-Some-clause-puts g c =
    rw c.in-Some.is (one_row g.K.CheckRowSink.step (Part c.in-Some.part) c.args.self.now.sink.now c.take.new.self c.take.result c.take.ensures)
