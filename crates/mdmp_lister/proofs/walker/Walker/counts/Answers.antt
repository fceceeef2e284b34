use Rattle.std.proofs.Common.{[], arith}
use Rattle.mdmp_lister.proofs.Numbers.{counts_held, counts_of_file}
use Rattle.mdmp_lister.proofs.walker.Walker.counts.Goals as goal

pub returns-clause-of_file : goal.returns-clause-of_file
returns-clause-of_file g c = rw (← c.self.view_is, c.counts.ensures.value) (λ file known. counts_of_file c.self.inside.walk 0 c.self.invariant.sound file known)

pub returns-clause-held : goal.returns-clause-held
returns-clause-held g c =
    let held = counts_held c.self.inside.walk 0 [] c.self.invariant.sound (omega arith) c.counts.ensures.booked c.counts.ensures.kept in
    rw (← c.self.view_is, c.counts.ensures.value) (record { held = held.held; entries = held.entries; ranges = held.ranges; booked = held.booked; kept = held.kept; opened = held.opened })
