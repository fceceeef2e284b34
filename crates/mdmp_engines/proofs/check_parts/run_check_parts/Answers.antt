use Rattle.mdmp_engines.proofs.check_parts.run_check_parts.Goals as goal

pub returns : goal.returns
returns g c = record { checks = c.run.ensures.runs; tells = c.run.ensures.tells; limits = c.run.ensures.limits; read = c.run.ensures.read }
