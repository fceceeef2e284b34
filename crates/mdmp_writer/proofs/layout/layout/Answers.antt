use Rattle.mdmp_writer.proofs.layout.layout.Goals as goal

pub returns-in-Some-find_ends-clause-moves : goal.returns-in-Some-find_ends-clause-moves
returns-in-Some-find_ends-clause-moves g c = g.met.V.DumpView.follows _ _ _ c.misnamed_stream.ensures.moves c.find_ends.ensures.moves

pub returns-in-None-clause-moves : goal.returns-in-None-clause-moves
returns-in-None-clause-moves g c = g.met.V.DumpView.follows _ _ _ c.misnamed_stream.ensures.moves c.find_ends.ensures.moves
