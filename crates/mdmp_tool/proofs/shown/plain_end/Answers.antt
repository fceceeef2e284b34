use Rattle.std.proofs.Common.{◌<◌, length, arith, sym}
use Rattle.std.proofs.lemmas.Grind.{common_steps}
use Rattle.mdmp_tool.proofs.PlainRuns.{one_more}
use Rattle.mdmp_tool.proofs.shown.plain_end.Goals as goal

pub loop-end-preserved : goal.loop-end-preserved
loop-end-preserved c =
    let inside : c.loop-end.end < length c.args.bytes.now = grind (arith, common_steps) in
    record {
      first = omega (arith, c.loop-end.invariant.first);
      within = omega (arith, c.loop-end-test.true);
      plain = one_more c.args.bytes.now c.args.place c.loop-end.end c.loop-end.invariant.first inside (sym c.if-not-is_control.ensures) c.loop-end.invariant.plain;
    }
