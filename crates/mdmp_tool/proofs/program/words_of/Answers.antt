use Rattle.std.proofs.Common.{Global, String, ◌∙◌, ap, refl, sym}
use Rattle.mdmp_tool.proofs.Wording.{texts_done, texts_next}
use Rattle.mdmp_tool.proofs.program.words_of.Goals as goal

pub loop-number-init : goal.loop-number-init
loop-number-init c = rw c.new-words.ensures.items refl

pub loop-number-preserved : goal.loop-number-preserved
loop-number-preserved c =
    rw (c.in_ok-push.ensures.items)
    (c.loop-number.invariant ∙ texts_next c.args.args.now c.loop-number.words.items c.loop-number.number c.as_str.result c.index-args-number.result c.loop-number-test.true (c.as_str.ensures.value ∙ ap (λ (a : String Global). a.bytes.items) c.index-args-number.is))

pub returns : goal.returns
returns c = sym (c.loop-number.invariant ∙ texts_done c.args.args.now c.loop-number.words.items c.loop-number.number c.loop-number-test.false)
