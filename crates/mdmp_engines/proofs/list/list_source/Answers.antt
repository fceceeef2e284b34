use Rattle.mdmp_engines.proofs.list.list_source.Goals as goal

pub returns : goal.returns
returns g c = record { lists = c.run_source.ensures.runs; tells = c.run_source.ensures.tells; reads = c.run_source.ensures.reads; through = c.run_source.ensures.through }
