use Rattle.mdmp_engines.proofs.list.run_list.Goals as goal

pub returns : goal.returns
returns g c = record { lists = c.run.ensures.runs; tells = c.run.ensures.tells; limits = c.run.ensures.limits; read = c.run.ensures.read }
