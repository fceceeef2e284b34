use Rattle.std.proofs.Common.{arith, refl}
use Rattle.mdmp_dump.proofs.Values.{value_begun}
use Rattle.mdmp_dump.proofs.value_view.ValueViewDumpView.rewind.Goals as goal

pub returns-clause-begins : goal.returns-clause-begins
returns-clause-begins g c = value_begun c.args.self.now.dump.now c.args.stream

pub returns-clause-shape : goal.returns-clause-shape
returns-clause-shape g c = refl

pub returns-clause-moves : goal.returns-clause-moves
returns-clause-moves g c = tt

pub returns-clause-told : goal.returns-clause-told
returns-clause-told g c = tt

pub returns-clause-reliable : goal.returns-clause-reliable
returns-clause-reliable g c = λ reliable. tt

pub returns-clause-passed : goal.returns-clause-passed
returns-clause-passed g c = omega arith

pub returns-clause-asked : goal.returns-clause-asked
returns-clause-asked g c = omega arith
