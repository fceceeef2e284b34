use Rattle.std.proofs.Common.{arith, ◌∙◌}
use Rattle.mdmp_writer.proofs.Sending.{puts_more, cut_at}
use Rattle.mdmp_writer.proofs.Causes.{handed}
use Rattle.mdmp_writer.proofs.gather.Gather.write.Goals as goal

pub loop-at-preserved : goal.loop-at-preserved
loop-at-preserved g c =
    let so_far = c.loop-at.invariant in
    record {
      within = omega (arith, c.hold-at-in-loop-at.ensures.bound);
      puts = puts_more _ _ _ c.flush.new.self _ c.args.bytes.now c.loop-at.at c.hold-at-in-loop-at.result so_far.puts c.flush.ensures.puts c.hold-at-in-loop-at.ensures.held;
      steady = c.in_ok-flush.ensures.cause ∙ so_far.steady;
    }

pub returns-in_err-flush-clause-writes : goal.returns-in_err-flush-clause-writes
returns-in_err-flush-clause-writes g c =
    rw (handed c.from_residual.result _ c.from_residual.ensures.1) (cut_at _ _ _ c.args.bytes.now c.loop-at.at c.loop-at.invariant.puts c.flush.ensures.puts)
