use Rattle.std.proofs.Common.{◌≡◌, Err, arith, rules}
use Rattle.mdmp_dump.proofs.RegionPassed.{region_refused, region_taken}
use Rattle.mdmp_dump.proofs.stream_walk.walk_record.Goals as goal

pub returns-in_err-pass_region : goal.returns-in_err-pass_region
returns-in_err-pass_region g c =
    let fault = c.in_err-pass_region.field-0.0 in
    let is : c.from_residual.result ≡ Err fault = search rules in
    rw is (region_refused c.args.walk.now c.args.limit c.args.room c.pass_region.new.self fault c.in_err-pass_region.ensures)

pub returns-then-is_region : goal.returns-then-is_region
returns-then-is_region g c = region_taken c.args.walk.now c.args.limit c.args.room c.pass_region.new.self (omega (arith, c.ranges.room)) c.in_ok-pass_region.ensures
