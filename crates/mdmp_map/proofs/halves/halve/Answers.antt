use Rattle.std.proofs.Common.{◌∙◌, Some, ap, arith, sym}
use Rattle.mdmp_map.proofs.Sorted.{found_at_first, free_behind_all, free_to_first}
use Rattle.mdmp_map.proofs.halves.halve.Goals as goal

pub returns-in-None-clause-found : goal.returns-in-None-clause-found
returns-in-None-clause-found g c =
    let first = c.first_past.ensures.first in
    rw c.from.ensures (free_behind_all c.args.address first.0 c.args.ranges.now first.1 (sym c.in-None.is ∙ first.2) (omega arith) c.requires.placed)

pub returns-in-Some-clause-found : goal.returns-in-Some-clause-found
returns-in-Some-clause-found g c =
    let first = c.first_past.ensures.first in
    ap Some c.place_in.ensures
    ∙ found_at_first c.args.address first.0 c.in-Some.range c.args.ranges.now first.1 (sym c.in-Some.is ∙ first.2) (omega arith) c.if-range-address.true

pub returns-in-Some-2-clause-found : goal.returns-in-Some-2-clause-found
returns-in-Some-2-clause-found g c =
    let first = c.first_past.ensures.first in
    rw c.from-in-Some-2.ensures (free_to_first c.args.address first.0 c.in-Some.range c.args.ranges.now first.1 (sym c.in-Some.is ∙ first.2) (omega arith)
    c.requires.sorted c.requires.placed c.if-range-address.false (omega arith))
