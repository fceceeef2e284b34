use Rattle.mdmp_map.proofs.Seen.{seen_gap}
use Rattle.std.proofs.Common.{arith}
use Rattle.mdmp_map.proofs.search.Search.gap.Goals as goal

pub returns : goal.returns
returns c =
    let s = c.self.inside in
    rw (← c.self.view_is, c.from.ensures) (λ seen has placed. seen_gap (record { address = s.address; next_start = s.next_start }) seen has placed (omega (arith, c.self.invariant)))
