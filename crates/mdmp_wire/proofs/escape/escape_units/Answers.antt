use Rattle.std.proofs.Common.{◌+◌, ◌++◌, ◌∙◌, ℕ, List, take, ap, sym, ◌-◌, ◌/◌, arith, length}
use Rattle.mdmp_wire.proofs.EscapeLemmas.{text_part, text_run, text_unit}
use Rattle.mdmp_wire.proofs.PlainRuns.{unit_stops}
use Rattle.mdmp_wire.specs.NumberLaws.{length-numbers_at}
use Rattle.mdmp_wire.specs.Units.{units_of}
use Rattle.mdmp_wire.proofs.escape.escape_units.Goals as goal

pub units_at-requires : goal.units_at-requires
units_at-requires c =
    let bytes = c.args.bytes.now in
    omega (arith, c.requires.within, c.loop-index-test.true, c.loop-index.invariant.to, length-numbers_at bytes 0 2 (length bytes / 2))

pub loop-index-preserved-then-run-lt-LANES : goal.loop-index-preserved-then-run-lt-LANES
loop-index-preserved-then-run-lt-LANES c =
    let units = units_of c.args.bytes.now in
    let next = c.loop-index.index + c.put_run-run.result in
    let run = text_part _ _ _ c.args.start c.loop-index.index c.put_run-run.result 8 units _ c.loop-index.invariant.from c.put_run-run.ensures.within c.units_at.ensures c.loop-index.invariant.text c.put_run-run.ensures.text in
    let stops = unit_stops c.loop-index.index 8 c.put_run-run.result units c.units_at.result c.units_at.ensures (omega arith) c.put_run-run.ensures.run c.if-run-lt-LANES.true in
    let other = (rw c.unit_at.ensures at c.escape_other-len.ensures.text) ∙ ap (λ (t : List ℕ). take (c.loop-index.len + c.put_run-run.result) c.put_run-run.new.text ++ t) (sym stops) in
    record {
      text = text_unit _ _ _ c.args.start next units (omega arith) (omega arith) run other;
      within = omega arith;
      from = omega arith;
      to = omega arith;
    }

pub loop-index-preserved : goal.loop-index-preserved
loop-index-preserved c = record {
  text =
      text_part _ _ _ c.args.start c.loop-index.index c.put_run-run.result 8 (units_of c.args.bytes.now) _ c.loop-index.invariant.from c.put_run-run.ensures.within c.units_at.ensures c.loop-index.invariant.text c.put_run-run.ensures.text;
  within = omega arith;
  from = omega arith;
  to = omega arith;
}

pub returns : goal.returns
returns c =
    let last = c.escape_last.ensures in
    let before = c.loop-index.invariant in
    record {
      text = text_run _ _ _ c.args.start c.loop-index.index c.args.end (c.args.end - c.loop-index.index) (units_of c.args.bytes.now) (omega arith) (omega arith) before.text last.text;
      within = omega (arith, last.within, before.within, before.from, before.to);
      same = last.same ∙ c.loop-index.auto.text;
    }
