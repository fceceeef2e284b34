use Rattle.std.proofs.Common.{◌≡◌, ◌≤◌, ◌<◌, length, arith, rules}
use Rattle.std.proofs.Math.ListN.{length-set}
use Rattle.std.proofs.lemmas.Grind.{common_steps}
use Rattle.mdmp_wire.proofs.DigitsLemmas.{hex_less, hex_none}
use Rattle.mdmp_wire.proofs.digits.hex_digits.Goals as goal

pub loop-i-preserved : goal.loop-i-preserved
loop-i-preserved c =
    let pos : 0 < c.loop-i.i = omega arith in
    let fits : c.loop-i.i ≤ length c.loop-i.digits = grind (arith, common_steps) in
    let same : length c.loop-i.digits ≡ length c.args.digits.now = search rules in
    rw length-set (hex_less c.loop-i.i c.loop-i.left c.digit.result c.loop-i.digits _ pos fits c.digit.ensures c.loop-i.invariant)

pub returns : goal.returns
returns c =
    let same : length c.loop-i.digits ≡ length c.args.digits.now = search rules in
    rw (← same) (hex_none c.loop-i.left c.loop-i.digits _ c.loop-i.i (omega arith) c.loop-i.invariant)
