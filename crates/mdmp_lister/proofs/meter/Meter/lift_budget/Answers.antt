use Rattle.std.proofs.Common.{◌≡◌, arith, refl}
use Rattle.mdmp_source.specs.Count.{raised}
use Rattle.mdmp_lister.proofs.meter.Meter.lift_budget.Goals as goal

pub invariant_of-self : goal.invariant_of-self
invariant_of-self g c = (
  c.self.invariant.0,
  record { kept = refl; within = omega (arith, c.self.ranges); same = λ none. omega (arith, c.self.ranges) },
)

pub returns-clause-lifted : goal.returns-clause-lifted
returns-clause-lifted g c =
    let asked : raised c.self.inside.fetched 0 ≡ c.self.inside.fetched = omega (arith, c.self.ranges) in
    rw (← c.self.view_is, asked) refl

pub returns-clause-within : goal.returns-clause-within
returns-clause-within g c = rw (← c.self.view_is) c.self.invariant.1.within
