use Rattle.std.proofs.Common.{length, ◌-◌}
use Rattle.mdmp_source.proofs.Filling.{Filled}
use Rattle.mdmp_source.proofs.source.fill.Given as goal

abbrev pub invariant-loop-filled : goal.invariant-loop-filled
invariant-loop-filled g l = Filled (g.S.Store.state l.fn.store) (g.S.Store.state l.store) l.at l.filled l.out

abbrev pub decreases-loop-filled : goal.decreases-loop-filled
decreases-loop-filled g l = length l.initial.out - l.filled
