use Rattle.std.proofs.Common.{refl, sym}
use Rattle.mdmp_dump.proofs.Values.{value_length}
use Rattle.mdmp_dump.proofs.value_view.ValueViewDumpView.streams.Goals as goal

pub returns-clause-shape : goal.returns-clause-shape
returns-clause-shape g c = refl

pub returns-clause-cursor : goal.returns-clause-cursor
returns-clause-cursor g c = refl

pub returns-clause-spent : goal.returns-clause-spent
returns-clause-spent g c = refl

pub returns-clause-moves : goal.returns-clause-moves
returns-clause-moves g c = tt

pub returns-clause-count : goal.returns-clause-count
returns-clause-count g c = rw c.as_slice.ensures (sym (value_length c.args.self.now.dump.now))
