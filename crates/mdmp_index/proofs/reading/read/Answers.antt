use Rattle.std.proofs.Common.{arith}
use Rattle.mdmp_index.proofs.BySlots.{all_read, read_more}
use Rattle.mdmp_index.proofs.reading.read.Goals as goal

pub loop-done-preserved : goal.loop-done-preserved
loop-done-preserved c =
    let reads = c.read_slot-done.ensures in
    record {
      within = reads.within;
      index = λ ranges is all.
          read_more c.args.file.now ranges c.args.slots.now c.args.address c.loop-done.done c.read_slot-done.result c.loop-done.number c.loop-done.out c.read_slot-done.new.out c.loop-done.known
          c.read_slot-done.new.known is all c.if-number-slots.true c.loop-done-test.true c.read_slot-done.auto.out
          (record {
            ahead = reads.ahead;
            below = reads.below;
            behind = reads.behind;
            other = reads.other;
            known = reads.known;
            bytes = reads.bytes;
            before_end = reads.before_end;
            end = reads.end;
          })
          (c.loop-done.invariant.index ranges is all);
      of_file = reads.of_file c.loop-done.invariant.of_file;
    }

pub returns-else-number-slots-clause-index : goal.returns-else-number-slots-clause-index
returns-else-number-slots-clause-index c = λ ranges is all.
    all_read c.args.file.now ranges c.args.slots.now c.args.address c.loop-done.done c.loop-done.number c.loop-done.out c.loop-done.known is (λ more. omega (arith, c.if-number-slots.false))
    (c.loop-done.invariant.index ranges is all)

pub returns-after-loop-done-clause-index : goal.returns-after-loop-done-clause-index
returns-after-loop-done-clause-index c = λ ranges is all.
    all_read c.args.file.now ranges c.args.slots.now c.args.address c.loop-done.done c.loop-done.number c.loop-done.out c.loop-done.known is
    (λ more. absurd (omega (arith, more, c.loop-done-test.false))) (c.loop-done.invariant.index ranges is all)
