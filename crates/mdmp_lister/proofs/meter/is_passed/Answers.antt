use Rattle.std.proofs.Common.{◌≡◌, ◌+◌, ◌-◌, ◌^◌, arith, min}
use Rattle.mdmp_source.specs.Count.{raised}
use Rattle.mdmp_lister.proofs.meter.is_passed.Goals as goal

pub returns-in-Some : goal.returns-in-Some
returns-in-Some c =
    let same : raised c.args.fetched c.args.size ≡ min (c.args.fetched + c.args.size) (2 ^ 128 - 1) = omega (arith, c.ranges.fetched.fits) in
    rw (c.in-Some.is, same) (cc)
