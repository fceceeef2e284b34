use Rattle.mdmp_tool.proofs.running.summarize_text.Goals as goal

pub returns : goal.returns
returns g c =
    let told = c.summary_source.ensures in
    record { summarizes = told.summarizes; good = told.good; reads = told.reads; through = told.through; quiet = told.quiet; out_cause = told.out_cause }
