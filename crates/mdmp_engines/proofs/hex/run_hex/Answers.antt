use Rattle.mdmp_engines.proofs.hex.run_hex.Goals as goal

pub returns : goal.returns
returns g c = record { hexes = c.run.ensures.runs; tells = c.run.ensures.tells; limits = c.run.ensures.limits; read = c.run.ensures.read }
