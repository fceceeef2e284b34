use Rattle.std.proofs.Common.{◌∙◌, sym, arith}
use Rattle.mdmp_words.proofs.BadLemmas.{here, later, none_left}
use Rattle.mdmp_words.proofs.bad_word.bad_type_of.Goals as goal

pub returns-then-not-is_expected : goal.returns-then-not-is_expected
returns-then-not-is_expected c =
    sym (here c.args.words.now c.loop-word.word-index _ c.loop-word-test.true (sym c.is_expected.ensures ∙ c.if-not-is_expected.true)) ∙ c.loop-word.invariant

pub loop-word-preserved : goal.loop-word-preserved
loop-word-preserved c =
    sym (later c.args.words.now c.loop-word.word-index _ c.loop-word-test.true (sym c.is_expected.ensures ∙ c.if-not-is_expected.false)) ∙ c.loop-word.invariant

pub returns : goal.returns
returns c = sym (none_left c.args.words.now c.loop-word.word-index (omega (arith, c.loop-word-test.false))) ∙ c.loop-word.invariant
