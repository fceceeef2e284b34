use Rattle.mdmp_tool.proofs.running.summarize_named.Goals as goal

pub returns : goal.returns
returns g c = record { answer = c.summarize_in-answer.result.answer; ends = c.report_summary.ensures; summarizes = c.summarize_in-answer.ensures }
