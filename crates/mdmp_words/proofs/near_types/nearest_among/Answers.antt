use Rattle.std.proofs.Common.{◌∙◌, sym, arith}
use Rattle.mdmp_words.proofs.NearLemmas.{here, later, none_left}
use Rattle.mdmp_words.proofs.near_types.nearest_among.Goals as goal

pub returns-then-is_near : goal.returns-then-is_near
returns-then-is_near c =
    sym (here c.args.word.now c.args.names.now c.loop-name.name-index _ c.loop-name-test.true (sym c.is_near.ensures ∙ c.if-is_near.true)) ∙ c.loop-name.invariant

pub loop-name-preserved : goal.loop-name-preserved
loop-name-preserved c =
    sym (later c.args.word.now c.args.names.now c.loop-name.name-index _ c.loop-name-test.true (sym c.is_near.ensures ∙ c.if-is_near.false)) ∙ c.loop-name.invariant

pub returns : goal.returns
returns c = sym (none_left c.args.word.now c.args.names.now c.loop-name.name-index (omega (arith, c.loop-name-test.false))) ∙ c.loop-name.invariant
