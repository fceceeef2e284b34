use Rattle.std.proofs.Common.{arith}
use Rattle.mdmp_index.proofs.Taken.{placed_kept}
use Rattle.mdmp_index.proofs.building.make.Goals as goal

pub loop-number-preserved : goal.loop-number-preserved
loop-number-preserved g c = record {
  placed = placed_kept (g.R.Ranges.ranges c.args.ranges.now) c.loop-number.cells c.take.new.cells c.take.auto.cells c.take.ensures.keeps c.loop-number.invariant.placed;
  rise = λ k n le within. omega (arith, c.take.ensures.keeps.starts k, c.take.ensures.keeps.starts n, c.loop-number.invariant.rise k n le (omega (arith, within, c.take.auto.cells)));
  skips = c.take.ensures.skips;
  taken = c.take.ensures.taken;
}
