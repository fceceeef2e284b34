use Rattle.std.proofs.Common.{arith}
use Rattle.std.proofs.lemmas.List.{get_or_default}
use Rattle.std.proofs.lemmas.List.Elements.{AllWithin-more}
use Rattle.mdmp_index.specs.Index.{OffsetsFit}
use Rattle.mdmp_index.specs.Slots.{no_range}
use Rattle.mdmp_index.proofs.ranges.Listed.new.Goals as goal

pub loop-range-preserved : goal.loop-range-preserved
loop-range-preserved c =
    AllWithin-more OffsetsFit c.args.ranges.now 0 c.loop-range.range-index c.loop-range.invariant (λ d.
    rw (get_or_default c.args.ranges.now c.loop-range.range-index d no_range c.loop-range-test.true) (omega arith))

pub invariant_of-result : goal.invariant_of-result
invariant_of-result c = record { fit = λ k d lt. c.loop-range.invariant k d (omega arith) (omega (arith, lt, c.loop-range-test.false)) }
