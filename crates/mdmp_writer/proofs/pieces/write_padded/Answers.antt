use Rattle.std.proofs.Common.{◌≡◌, ◌∙◌, ◌+◌, [], ap, length, get_or, refl, sym, arith}
use Rattle.mdmp_dump.specs.Placed.{part_room}
use Rattle.mdmp_dump.specs.Places.{up}
use Rattle.mdmp_writer.specs.Written.{padding}
use Rattle.mdmp_writer.proofs.Counting.{ok_of, ok_then, room_up}
use Rattle.mdmp_writer.proofs.Placing.{length-padding}
use Rattle.mdmp_writer.proofs.Sending.{cut_before, writes_then}
use Rattle.mdmp_writer.proofs.Causes.{handed, uses_out, uses_within}
use Rattle.mdmp_writer.proofs.pieces.write_padded.Goals as goal

pub returns-clause-writes : goal.returns-clause-writes
returns-clause-writes g c ps known len =
    let b = get_or ps c.args.which [] in
    let size : c.size-size.result ≡ length b = c.size-size.ensures ∙ sym len in
    writes_then c.write_padding.result _ _ _ b _ (c.in_ok-write_part.ensures.writes ps known (sym size)) (rw size at c.write_padding.ensures.writes)

pub returns-clause-some : goal.returns-clause-some
returns-clause-some g c =
    let n = c.size-size.result in
    let same : n + length (padding n) ≡ part_room c.args.part = length-padding n ∙ ap up c.size-size.ensures ∙ room_up c.args.part in
    ok_then c.write_padding.result _ _ _ n (length (padding n)) (part_room c.args.part) same c.in_ok-write_part.ensures.some (ok_of c.write_padding.result _ _ (padding n) _ refl c.write_padding.ensures.writes)

pub returns-clause-uses : goal.returns-clause-uses
returns-clause-uses g c = uses_within (uses_out c.in_ok-write_part.ensures.uses c.write_padding.ensures.cause) (omega arith) (omega (arith, c.size-size.ensures))

pub returns-in_err-write_part-clause-uses : goal.returns-in_err-write_part-clause-uses
returns-in_err-write_part-clause-uses g c =
    rw (handed c.from_residual.result _ c.from_residual.ensures.1) (uses_within c.in_err-write_part.ensures.uses (omega arith) (omega (arith, c.size-size.ensures)))

pub returns-in_err-write_part-clause-writes : goal.returns-in_err-write_part-clause-writes
returns-in_err-write_part-clause-writes g c ps known len =
    let b = get_or ps c.args.which [] in
    let size : c.size-size.result ≡ length b = c.size-size.ensures ∙ sym len in
    rw (handed c.from_residual.result _ c.from_residual.ensures.1) (cut_before _ _ b (padding (length b)) (c.in_err-write_part.ensures.writes ps known (sym size)))
