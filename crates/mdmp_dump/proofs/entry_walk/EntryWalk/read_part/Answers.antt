use Rattle.mdmp_dump.proofs.EntryWalks.{stands_beside}
use Rattle.mdmp_dump.proofs.entry_walk.EntryWalk.read_part.Goals as goal

pub invariant_of-self : goal.invariant_of-self
invariant_of-self g c =
    stands_beside c.self.inside.walker c.read_part.new.self _ c.read_part.result c.self.inside.place c.read_part.ensures.reads c.read_part.ensures.same c.self.invariant
