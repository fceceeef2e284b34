use Rattle.std.proofs.Common.{◌≡◌, ◌≤◌, ◌+◌, ◌-◌, ◌/◌, ℕ, ap, arith, slice_index_or, sym}
use Rattle.std.proofs.lemmas.Option.{get_or_from_slice_get}
use Rattle.mdmp_map.specs.Ranges.{range_end}
use Rattle.mdmp_map.proofs.Halving.{all_halved, one_step}
use Rattle.mdmp_map.proofs.Sorted.{ends_rise}
use Rattle.mdmp_map.proofs.halves.first_past.Goals as goal

pub loop-low-preserved-then-end-from : goal.loop-low-preserved-then-end-from
loop-low-preserved-then-end-from g c =
    let before = c.loop-low.invariant in
    let middle : ℕ = c.loop-low.low + (c.loop-low.high - c.loop-low.low) / 2 in
    record {
      order = omega (arith, c.loop-low-test.true);
      within = before.within;
      behind = λ k d lt.
          let rise : range_end (slice_index_or c.args.ranges.now k d) ≤ range_end (slice_index_or c.args.ranges.now middle d) =
          ends_rise c.args.ranges.now c.requires k middle d (omega (arith, lt)) (omega (arith, before.within, c.loop-low-test.true)) in
          let same = ap range_end (get_or_from_slice_get c.args.ranges.now middle c.look-range.result d c.look-range.ensures.range) in
          omega (arith, rise, same, c.if-end-from.true, c.end.ensures, c.from.ensures);
      past = before.past;
      next = before.next;
      count = one_step _ (c.loop-low.high - c.loop-low.low) _ _ c.loop-low.steps _ (omega (arith, c.loop-low-test.true)) (omega arith)
          (omega (arith, c.loop-low-test.true)) c.look-range.ensures.steps before.count;
    }

pub loop-low-preserved : goal.loop-low-preserved
loop-low-preserved g c =
    let before = c.loop-low.invariant in
    let middle : ℕ = c.loop-low.low + (c.loop-low.high - c.loop-low.low) / 2 in
    record {
      order = omega arith;
      within = omega (arith, before.order, before.within);
      behind = before.behind;
      past = λ lt d.
          let same = ap range_end (get_or_from_slice_get c.args.ranges.now middle c.look-range.result d c.look-range.ensures.range) in
          omega (arith, same, c.if-end-from.false, c.end.ensures, c.from.ensures);
      next = sym c.look-range.ensures.range;
      count = one_step _ (c.loop-low.high - c.loop-low.low) _ _ c.loop-low.steps _ (omega (arith, c.loop-low-test.true)) (omega arith)
          (omega (arith, c.loop-low-test.true)) c.look-range.ensures.steps before.count;
    }

pub returns-clause-first : goal.returns-clause-first
returns-clause-first g c =
    let met : c.loop-low.high ≡ c.loop-low.low = omega (arith, c.loop-low.invariant.order, c.loop-low-test.false) in (
      c.loop-low.high,
      record {
        within = c.loop-low.invariant.within;
        behind = λ k d lt. c.loop-low.invariant.behind k d (omega (arith, lt, met));
        past = c.loop-low.invariant.past;
      },
      c.loop-low.invariant.next,
    )

pub returns-clause-steps : goal.returns-clause-steps
returns-clause-steps g c =
    all_halved _ (c.loop-low.high - c.loop-low.low) _ _ (omega (arith, c.loop-low-test.false)) c.loop-low.invariant.count
