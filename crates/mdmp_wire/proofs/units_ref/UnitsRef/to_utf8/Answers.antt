use Rattle.std.proofs.Common.{arith, sym}
use Rattle.std.proofs.lemmas.List.{take_more}
use Rattle.mdmp_wire.specs.Units.{units_in}
use Rattle.mdmp_wire.proofs.units_ref.UnitsRef.to_utf8.Goals as goal

pub loop-index-preserved : goal.loop-index-preserved
loop-index-preserved g c =
    rw (c.in_ok-push.ensures.items, c.loop-index.invariant, c.get.ensures)
    (sym (take_more (units_in c.args.self.now) c.loop-index.index 0 (omega (arith, c.loop-index-test.true, c.len-index-end.ensures))))
