use Rattle.mdmp_map.proofs.Places.{held_reaches}
use Rattle.mdmp_map.proofs.map.AddressMap.look_up_counted.Goals as goal

pub returns-clause-found : goal.returns-clause-found
returns-clause-found g c = rw (← c.self.view_is) (rw (c.over-ranges.ensures, c.deref.ensures.value) at c.search.ensures.found)

pub returns-clause-reach : goal.returns-clause-reach
returns-clause-reach g c =
    let found = rw (c.over-ranges.ensures, c.deref.ensures.value) at c.search.ensures.found in
    rw (← c.self.view_is) (held_reaches c.self.inside.ranges.items c.args.address c.search.result found c.self.invariant.0)

pub returns-clause-placed : goal.returns-clause-placed
returns-clause-placed g c = rw (← c.self.view_is) c.self.invariant.0

pub returns-clause-steps : goal.returns-clause-steps
returns-clause-steps g c =
    let search = c.search.ensures in
    let sorted = c.self.invariant.1 in
    rw (← c.self.view_is) (record {
      by_halves = λ so. rw (c.over-ranges.ensures, c.deref.ensures.value) at (search.by_halves (sorted.1 so));
      one_by_one = λ not. rw (c.over-ranges.ensures, c.deref.ensures.value) at (search.one_by_one (λ so. not (sorted.0 so)));
    })
