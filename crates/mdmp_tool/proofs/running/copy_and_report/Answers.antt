use Rattle.mdmp_tool.proofs.running.copy_and_report.Goals as goal

pub returns : goal.returns
returns g c =
    let copy = c.copy_source-answer in
    record { answer = copy.result.answer; ends = c.report.ensures; copies = copy.ensures.copies; good = copy.ensures.good; reads = copy.ensures.reads; unread = copy.ensures.unread; spends = copy.ensures.spends; budget = copy.ensures.budget; within = copy.ensures.within; memory = copy.ensures.memory }
