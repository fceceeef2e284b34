use Rattle.mdmp_lister.proofs.Walked.{aside_leaves, aside_walked}
use Rattle.mdmp_lister.proofs.walker.Walker.read_part.Goals as goal

pub returns-clause-reads : goal.returns-clause-reads
returns-clause-reads g c =
    let e = c.read_part.ensures in
    rw (← c.self.view_is) (aside_leaves _ c.self.inside.position c.self.inside.mark c.self.inside.walk c.read_part.new.self c.self.invariant e.reads.books e.same c.read_part.result e.reads.caused)

pub invariant_of-self : goal.invariant_of-self
invariant_of-self g c =
    let e = c.read_part.ensures in
    aside_walked _ c.self.inside.position c.self.inside.mark c.self.inside.walk c.read_part.new.self c.self.invariant e.reads.books e.same
