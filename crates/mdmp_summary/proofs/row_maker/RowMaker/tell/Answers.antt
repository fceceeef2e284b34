use Rattle.mdmp_summary.specs.Part.{part_told}
use Rattle.mdmp_summary.proofs.RowsTaken.{more_parts}
use Rattle.mdmp_summary.proofs.row_maker.RowMaker.tell.Goals as goal

pub returns-clause-puts : goal.returns-clause-puts
returns-clause-puts g c =
    more_parts g.K.CheckRowSink.step (part_told c.args.parts.first) (part_told c.args.parts.second) c.args.self.now.sink.now c.tell_part.new.self.sink.now c.tell_part-2.new.self.sink.now
    c.tell_part-2.result c.in_ok-tell_part.ensures.puts c.tell_part-2.ensures.puts
