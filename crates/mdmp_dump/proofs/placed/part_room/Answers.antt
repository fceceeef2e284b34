use Rattle.std.proofs.Common.{arith}
use Rattle.mdmp_dump.proofs.placed.part_room.Goals as goal

pub returns-in-Size-clause-same : goal.returns-in-Size-clause-same
returns-in-Size-clause-same c = let round = c.next_multiple_of.ensures.value in rw c.in-Size.is (omega (arith, round, c.from.ensures))
