use Rattle.std.proofs.Common.{arith}
use Rattle.mdmp_wire.proofs.EscapeLemmas.{text_unit}
use Rattle.mdmp_wire.specs.Units.{units_of}
use Rattle.mdmp_wire.proofs.escape.escape_last.Goals as goal

pub loop-index-preserved : goal.loop-index-preserved
loop-index-preserved c = record {
  text = text_unit _ _ _ c.args.start c.loop-index.index (units_of c.args.bytes.now) (omega arith) (omega (arith, c.requires.within, c.loop-index-test.true)) c.loop-index.invariant.text (rw c.unit_at.ensures at c.escape_unit-len.ensures.text);
  within = omega (arith, c.escape_unit-len.ensures.within, c.loop-index.invariant.within, c.loop-index.auto.index);
}
