use Rattle.mdmp_tool.proofs.running.print_and_report.Goals as goal

pub returns : goal.returns
returns g c =
    let run = c.run_in_blocks-answer in
    record { answer = run.result.answer; ends = c.report.ensures; writes = run.ensures.runs; tells = run.ensures.tells; reads = run.ensures.reads; through = run.ensures.through }
