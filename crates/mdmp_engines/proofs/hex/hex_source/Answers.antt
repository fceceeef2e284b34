use Rattle.mdmp_engines.proofs.hex.hex_source.Goals as goal

pub returns : goal.returns
returns g c = record { hexes = c.run_source.ensures.runs; tells = c.run_source.ensures.tells; reads = c.run_source.ensures.reads; through = c.run_source.ensures.through }
