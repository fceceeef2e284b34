use Rattle.std.proofs.Common.{rules, arith, sym}
use Rattle.std.proofs.lemmas.Grind.{same_number_lists}
use Rattle.std.specs.Cmp.Lexicographic.{bytes_decides}
use Rattle.mdmp_wire.specs.Units.{units_in}
use Rattle.mdmp_wire.proofs.units_ref.UnitsRefPartialEq.eq.Goals as goal

pub returns : goal.returns
returns c =
    let units = units_in c.args.self.now in
    let others = units_in c.args.other.now in
    let same = same_number_lists units others c.loop-index.invariant.0 (λ k below. c.loop-index.invariant.1 k (omega (arith, below, c.len-index-end.ensures, c.loop-index-test.false))) in
    sym ((bytes_decides units others).1 same)

pub returns-then-get : goal.returns-then-get
returns-then-get c = search rules

pub loop-index-preserved : goal.loop-index-preserved
loop-index-preserved c = search rules
