use Rattle.std.proofs.Common.{◌≡◌, None, rules, sym, subst}
use Rattle.mdmp_lister.specs.Meter.{MeterState}
use Rattle.mdmp_lister.specs.Stage.{failure_of}
use Rattle.mdmp_lister.specs.Walk.Positions.{IsWalked}
use Rattle.mdmp_lister.proofs.Walked.{lifted_leaves, lifted_walked}
use Rattle.mdmp_lister.proofs.walker.Walker.lift_budget.Goals as goal

pub returns-in_default-clause-lifts : goal.returns-in_default-clause-lifts
returns-in_default-clause-lifts g c =
    let left = lifted_leaves c.self.inside.walk c.self.inside.position c.lift_budget.new.self c.lift_budget.ensures.lifted in
    rw (← c.self.view_is) (λ fresh. λ i. record { list = left i; position = c.self.inside.position; mark = c.self.inside.mark })

pub invariant_of-self : goal.invariant_of-self
invariant_of-self g c =
    let w = c.self.inside.walk in
    let unfailed : failure_of w.stage ≡ None = search rules in
    subst (λ (m : MeterState). IsWalked c.self.inside.position c.self.inside.mark (record w { meter = m })) (sym c.lift_budget.ensures.lifted)
    (lifted_walked w c.self.inside.position c.self.inside.mark c.self.invariant unfailed c.lift_budget.ensures.within)
