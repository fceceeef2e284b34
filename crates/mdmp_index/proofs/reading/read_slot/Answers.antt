use Rattle.std.proofs.Common.{arith}
use Rattle.mdmp_index.proofs.BySlots.{copied_of_file}
use Rattle.mdmp_index.proofs.reading.read_slot.Goals as goal

pub returns-then-offset-end-clause-of_file : goal.returns-then-offset-end-clause-of_file
returns-then-offset-end-clause-of_file c =
    copied_of_file c.args.file.now c.args.out.now c.copy.new.out c.args.known.now c.copy.new.known _ c.max-first.result c.place_of-end.result c.copy.ensures.known c.copy.ensures.bytes
    (omega (arith, c.if-offset-end.true, c.if-end-first.false)) c.copy.auto.out c.copy.ensures.below c.copy.ensures.behind
