use Rattle.std.proofs.Common.{refl}
use Rattle.mdmp_dump.proofs.value_view.ValueViewDumpView.header.Goals as goal

pub returns-clause-shape : goal.returns-clause-shape
returns-clause-shape g c = refl

pub returns-clause-cursor : goal.returns-clause-cursor
returns-clause-cursor g c = refl

pub returns-clause-spent : goal.returns-clause-spent
returns-clause-spent g c = refl

pub returns-clause-moves : goal.returns-clause-moves
returns-clause-moves g c = tt
