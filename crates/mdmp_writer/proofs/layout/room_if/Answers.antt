use Rattle.mdmp_writer.proofs.layout.room_if.Goals as goal

pub returns-then-body-from-clause-moves : goal.returns-then-body-from-clause-moves
returns-then-body-from-clause-moves g c = g.met.V.DumpView.follows _ _ _ (g.met.V.DumpView.follows _ _ _ c.body_size-body.ensures.moves c.parts_size-parts.ensures.moves) c.kind-kind.ensures.moves

pub returns-then-is_far-clause-moves : goal.returns-then-is_far-clause-moves
returns-then-is_far-clause-moves g c = g.met.V.DumpView.follows _ _ _ (g.met.V.DumpView.follows _ _ _ c.body_size-body.ensures.moves c.parts_size-parts.ensures.moves) c.kind-kind.ensures.moves

pub returns-clause-moves : goal.returns-clause-moves
returns-clause-moves g c = g.met.V.DumpView.follows _ _ _ (g.met.V.DumpView.follows _ _ _ c.body_size-body.ensures.moves c.parts_size-parts.ensures.moves) c.kind-kind.ensures.moves
