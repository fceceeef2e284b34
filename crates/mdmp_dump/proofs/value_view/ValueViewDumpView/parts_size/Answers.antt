use Rattle.std.proofs.Common.{◌∙◌, ap, refl}
use Rattle.mdmp_dump.specs.Shape.{StreamShape, told}
use Rattle.mdmp_dump.proofs.Values.{chosen_shape, value_length}
use Rattle.mdmp_dump.proofs.value_view.ValueViewDumpView.parts_size.Goals as goal

pub returns-clause-size : goal.returns-clause-size
returns-clause-size g c = c.parts_size.ensures ∙ ap (λ (t : StreamShape). told t.parts) (chosen_shape c.args.self.now.dump.now c.args.stream _ _ c.stream_of.ensures c.as_slice.ensures)

pub returns-clause-shape : goal.returns-clause-shape
returns-clause-shape g c = refl

pub returns-clause-cursor : goal.returns-clause-cursor
returns-clause-cursor g c = refl

pub returns-clause-spent : goal.returns-clause-spent
returns-clause-spent g c = refl

pub returns-clause-moves : goal.returns-clause-moves
returns-clause-moves g c = tt

pub stream_of-requires : goal.stream_of-requires
stream_of-requires g c = rw (c.as_slice.ensures, ← value_length c.args.self.now.dump.now) c.requires
