use Rattle.std.proofs.Common.{◌≡◌, ◌+◌, ◌-◌, ◌++◌, [], arith, get_or, length, sym}
use Rattle.mdmp_wire.specs.NumberLaws.{length-le}
use Rattle.mdmp_dump.specs.Places.{up}
use Rattle.mdmp_wire.specs.Number.{le, zeros}
use Rattle.mdmp_writer.specs.Gather.{gathered}
use Rattle.mdmp_writer.specs.Written.{padding}
use Rattle.mdmp_writer.proofs.Causes.{handed, uses_none, uses_within}
use Rattle.mdmp_writer.proofs.Padded.{around_units}
use Rattle.mdmp_writer.proofs.Sending.{cut_before, cut_same, writes_same, writes_then}
use Rattle.mdmp_writer.proofs.Counting.{ok_then, some_of}
use Rattle.mdmp_writer.proofs.parts_out.write_name.Goals as goal

pub returns-in_ok-write_record-in-Size-clause-writes : goal.returns-in_ok-write_record-in-Size-clause-writes
returns-in_ok-write_record-in-Size-clause-writes g c ps known len =
    let state = g.O.Out.state in
    let b = get_or ps c.args.which [] in
    let n = c.in-Size.size in
    let size : length b ≡ n = rw c.in-Size.is at len in
    rw c.in-Size.is
    (writes_same c.write_units.result (gathered (state c.args.out.now) c.args.gather.now) (gathered (state c.write_units.new.out) c.write_units.new.gather) _ _ (sym (around_units n b size))
    (writes_then c.write_units.result _ _ _ (le 4 n) (b ++ zeros 2 ++ padding (4 + n + 2)) c.in_ok-write_record-in-Size.ensures.writes (c.write_units.ensures.writes ps known size)))

pub returns-in_err-write_record-in-Size-clause-writes : goal.returns-in_err-write_record-in-Size-clause-writes
returns-in_err-write_record-in-Size-clause-writes g c ps known len =
    let b = get_or ps c.args.which [] in
    let n = c.in-Size.size in
    let size : length b ≡ n = rw c.in-Size.is at len in
    rw (handed c.from_residual.result _ c.from_residual.ensures.1) (rw c.in-Size.is (cut_same _ _ _ _ (sym (around_units n b size)) (cut_before _ _ (le 4 n) (b ++ zeros 2 ++ padding (4 + n + 2)) c.in_err-write_record-in-Size.ensures.writes)))

pub returns-in_ok-write_record-in-Size-clause-some : goal.returns-in_ok-write_record-in-Size-clause-some
returns-in_ok-write_record-in-Size-clause-some g c =
    let n = c.in-Size.size in
    rw c.in-Size.is (ok_then c.write_units.result _ _ _ 4 (up (4 + n + 2) - 4) (up (4 + n + 2)) (omega arith) (some_of _ _ (le 4 n) 4 c.in_ok-write_record-in-Size.ensures.writes (length-le 4 n)) c.write_units.ensures.some)

pub returns-in-NoPart-clause-uses : goal.returns-in-NoPart-clause-uses
returns-in-NoPart-clause-uses g c = uses_within uses_none (omega arith) (omega arith)

pub returns-in-Absent-clause-uses : goal.returns-in-Absent-clause-uses
returns-in-Absent-clause-uses g c = uses_within uses_none (omega arith) (omega arith)
