use Rattle.std.proofs.Common.{◌+◌, ◌-◌, ◌++◌, [], arith, get_or, length, refl}
use Rattle.mdmp_dump.specs.Places.{up}
use Rattle.mdmp_wire.specs.Number.{zeros}
use Rattle.mdmp_wire.specs.NumberLaws.{length-le}
use Rattle.mdmp_writer.specs.Written.{padding}
use Rattle.mdmp_writer.proofs.Causes.{handed, uses_out, uses_sent}
use Rattle.mdmp_writer.proofs.Sending.{cut_before, cut_behind, puts_puts, writes_then}
use Rattle.mdmp_writer.proofs.Counting.{ok_of, ok_then, some_of, some_then}
use Rattle.mdmp_writer.proofs.Placing.{length-padding}
use Rattle.mdmp_writer.proofs.parts_out.write_units.Goals as goal

pub returns-clause-writes : goal.returns-clause-writes
returns-clause-writes g c ps known len =
    let b = get_or ps c.args.which [] in
    writes_then c.write_padding.result _ _ _ (b ++ zeros 2) (padding (4 + c.args.size + 2))
    (puts_puts _ _ _ b (zeros 2) (c.in_ok-write_part.ensures.writes ps known len) c.in_ok-write_record.ensures.writes) c.write_padding.ensures.writes

pub returns-in_err-write_record-clause-writes : goal.returns-in_err-write_record-clause-writes
returns-in_err-write_record-clause-writes g c ps known len =
    let b = get_or ps c.args.which [] in
    rw (handed c.from_residual-in_err-write_record.result _ c.from_residual-in_err-write_record.ensures.1) (cut_before _ _ (b ++ zeros 2) (padding (4 + c.args.size + 2)) (cut_behind _ _ _ b (zeros 2) (c.in_ok-write_part.ensures.writes ps known len) c.in_err-write_record.ensures.writes))

pub returns-clause-some : goal.returns-clause-some
returns-clause-some g c =
    let n = c.args.size in
    let rest = length (padding (4 + n + 2)) in
    ok_then c.write_padding.result _ _ _ (n + 2) rest (up (4 + n + 2) - 4) (omega (arith, length-padding (4 + n + 2)))
    (some_then _ _ _ n 2 c.in_ok-write_part.ensures.some (some_of _ _ (zeros 2) 2 c.in_ok-write_record.ensures.writes (length-le 2 0)))
    (ok_of c.write_padding.result _ _ (padding (4 + n + 2)) rest refl c.write_padding.ensures.writes)

pub returns-clause-uses : goal.returns-clause-uses
returns-clause-uses g c =
    uses_out (uses_sent c.in_ok-write_part.ensures.uses c.in_ok-write_record.ensures.cause) c.write_padding.ensures.cause

pub returns-in_err-write_record-clause-uses : goal.returns-in_err-write_record-clause-uses
returns-in_err-write_record-clause-uses g c =
    rw (handed c.from_residual-in_err-write_record.result _ c.from_residual-in_err-write_record.ensures.1) (uses_out c.in_ok-write_part.ensures.uses c.in_err-write_record.ensures.cause)

pub returns-in_err-write_part-clause-writes : goal.returns-in_err-write_part-clause-writes
returns-in_err-write_part-clause-writes g c ps known len =
    let b = get_or ps c.args.which [] in
    rw (handed c.from_residual.result _ c.from_residual.ensures.1) (cut_before _ _ (b ++ zeros 2) (padding (4 + c.args.size + 2)) (cut_before _ _ b (zeros 2) (c.in_err-write_part.ensures.writes ps known len)))
