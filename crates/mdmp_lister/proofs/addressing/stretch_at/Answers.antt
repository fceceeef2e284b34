use Rattle.std.proofs.Common.{◌≡◌, ◌+◌, ◌-◌, None, Some, arith, false, subst, sym}
use Rattle.mdmp_map.specs.RangeLaws.{place-first_range}
use Rattle.mdmp_map.specs.Ranges.{first_range}
use Rattle.mdmp_lister.specs.Addressing.{IsStretch, is_same_range}
use Rattle.mdmp_lister.specs.AddressLaws.{gap_some, stretch_in_gap, stretch_in_range, stretch_past}
use Rattle.mdmp_lister.proofs.Stretches.{edge_of_gap, edge_of_range}
use Rattle.mdmp_lister.proofs.addressing.stretch_at.Goals as goal

pub returns-in_default-clause-stretch : goal.returns-in_default-clause-stretch
returns-in_default-clause-stretch g c = stretch_past c.args.map.now.ranges c.args.address c.args.most (omega (arith, c.in_default.ensures))

pub returns-in-Held-clause-stretch : goal.returns-in-Held-clause-stretch
returns-in-Held-clause-stretch g c =
    subst (λ n. IsStretch c.args.map.now.ranges n (Some c.in-Held.place.offset) c.min.result) c.in-Ok.ensures.1
    (stretch_in_range c.args.map.now.ranges c.in-Ok.first c.min.result c.in-Held.place c.in-Held.ensures.found c.in-Held.ensures.reach.left
    (omega (arith, c.min.ensures)))

pub returns-in-Gap-clause-some : goal.returns-in-Gap-clause-some
returns-in-Gap-clause-some g c =
    let gap = c.in-Gap.ensures.found in
    omega (arith, c.requires, c.min-in-Gap.ensures, gap_some c.args.map.now.ranges c.in-Ok.first c.in-Gap.count gap.0 (omega (arith, c.in-Ok.ensures)) gap.1)

pub returns-in-Gap-clause-stretch : goal.returns-in-Gap-clause-stretch
returns-in-Gap-clause-stretch g c =
    subst (λ n. IsStretch c.args.map.now.ranges n None c.min-in-Gap.result) c.in-Ok.ensures.1
    (stretch_in_gap c.args.map.now.ranges c.in-Ok.first c.in-Gap.count c.min-in-Gap.result c.in-Gap.ensures.found.1 (omega (arith, c.min-in-Gap.ensures)))

pub returns-in_default-clause-edge : goal.returns-in_default-clause-edge
returns-in_default-clause-edge g c = λ less. absurd (omega (arith, less))

pub returns-in-Held-clause-edge : goal.returns-in-Held-clause-edge
returns-in-Held-clause-edge g c = λ less.
    let all : c.in-Held.place.left ≡ c.min.result = omega (arith, less, c.min.ensures) in
    let of = place-first_range c.args.map.now.ranges c.in-Ok.first c.in-Held.place (sym c.in-Held.ensures.found) in
    subst (λ a. is_same_range (first_range c.args.map.now.ranges (a + (c.min.result - 1))) (first_range c.args.map.now.ranges (a + c.min.result)) ≡ false) c.in-Ok.ensures.1
    (subst (λ n. is_same_range (first_range c.args.map.now.ranges (c.in-Ok.first + (n - 1))) (first_range c.args.map.now.ranges (c.in-Ok.first + n)) ≡ false) all
    (edge_of_range c.args.map.now.ranges c.in-Ok.first c.in-Held.place.left of.0 (c.in-Held.ensures.reach.left of.0 of.1) c.in-Held.ensures.reach.some))

pub returns-in-Gap-clause-edge : goal.returns-in-Gap-clause-edge
returns-in-Gap-clause-edge g c = λ less.
    let gap = c.in-Gap.ensures.found in
    let all : c.in-Gap.count ≡ c.min-in-Gap.result = omega (arith, less, c.min-in-Gap.ensures) in
    let some = gap_some c.args.map.now.ranges c.in-Ok.first c.in-Gap.count gap.0 (omega (arith, c.in-Ok.ensures)) gap.1 in
    subst (λ a. is_same_range (first_range c.args.map.now.ranges (a + (c.min-in-Gap.result - 1))) (first_range c.args.map.now.ranges (a + c.min-in-Gap.result)) ≡ false) c.in-Ok.ensures.1
    (subst (λ n. is_same_range (first_range c.args.map.now.ranges (c.in-Ok.first + (n - 1))) (first_range c.args.map.now.ranges (c.in-Ok.first + n)) ≡ false) all
    (edge_of_gap c.args.map.now.ranges c.in-Ok.first c.in-Gap.count gap.1 some))
