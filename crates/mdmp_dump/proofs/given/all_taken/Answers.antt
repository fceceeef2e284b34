use Rattle.std.proofs.Common.{◌≡◌, ◌+◌, ◌∙◌, ap, map, drop, arith}
use Rattle.mdmp_dump.specs.Shape.{all_taken, taken}
use Rattle.mdmp_dump.proofs.Values.{taken_next, taken_end, told_next}
use Rattle.mdmp_dump.proofs.given.all_taken.Goals as goal

pub loop-record-preserved : goal.loop-record-preserved
loop-record-preserved g c =
    let see = g.T.Given.see in
    let xs = c.args.records.now in
    let far = c.args.is_far in
    let i = c.loop-record.record-index in
    let split = taken_next far see xs i c.record-item.result (omega arith) c.record-item.is in
    let more : c.taken.result ≡ taken far (see c.record-item.result).fields = c.taken.ensures.value ∙ ap (taken far) c.fields.ensures in
    record {
      bound = omega (arith, c.add_told-total.ensures);
      sum = told_next c.loop-record.total c.taken.result (all_taken far (map see (drop (i + 1) xs))) _ c.add_told-total.result _ c.add_told-total.ensures (rw more split) c.loop-record.invariant.sum;
    }

pub returns : goal.returns
returns g c = omega (arith, taken_end c.args.is_far g.T.Given.see c.args.records.now c.loop-record.record-index (omega arith), c.loop-record.invariant.sum, c.loop-record.invariant.bound)
