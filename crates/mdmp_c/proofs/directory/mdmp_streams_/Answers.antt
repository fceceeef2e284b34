use Rattle.std.proofs.Common.{arith, length}
use Rattle.mdmp_c.proofs.Directories.{GivesList-streams, status_fits, status_short}
use Rattle.mdmp_c.proofs.directory.mdmp_streams_.Goals as goal

pub returns-then-out-header : goal.returns-then-out-header
returns-then-out-header c =
    let h = c.in-Ok.header in
    GivesList-streams c.args.file.now h 4 c.from.result c.args.out.now c.fill_streams.new.out c.in-Ok.ensures.header.0 c.in-Ok.ensures.header.1 c.from.ensures c.from.type_inv
    (status_short (length c.args.out.now) h.number_of_streams (omega (arith, c.fill_streams.auto.out, c.if-out-header.true))) c.fill_streams.ensures

pub returns-else-out-header : goal.returns-else-out-header
returns-else-out-header c =
    let h = c.in-Ok.header in
    GivesList-streams c.args.file.now h 0 c.from.result c.args.out.now c.fill_streams.new.out c.in-Ok.ensures.header.0 c.in-Ok.ensures.header.1 c.from.ensures c.from.type_inv
    (status_fits (length c.args.out.now) h.number_of_streams (omega (arith, c.fill_streams.auto.out, c.if-out-header.false))) c.fill_streams.ensures
