use Rattle.mdmp_engines.proofs.check_parts.check_parts_source.Goals as goal

pub returns : goal.returns
returns g c = record { checks = c.run_source.ensures.runs; tells = c.run_source.ensures.tells; reads = c.run_source.ensures.reads; through = c.run_source.ensures.through }
