use Rattle.std.proofs.Common.{◌∙◌, sym}
use Rattle.mdmp_engines.specs.CheckText.{bad_text}
use Rattle.mdmp_c.proofs.Worded.{TellsWords-given, bad_told, fixed_told}
use Rattle.mdmp_c.proofs.wording.give_words.Goals as goal

pub returns-in-Ok : goal.returns-in-Ok
returns-in-Ok c =
    let p = c.args.plain.now in
    TellsWords-given p (bad_text p.size) _ c.give.result c.give.new.size c.give.new.fault c.args.out.now c.give.new.out (bad_told p (sym c.in_default.ensures) c.if-plain-eq64.true)
    (c.as_bytes.ensures.value ∙ c.in-Ok.ensures.ok) c.give.ensures

pub returns-in-Some-fixed_words : goal.returns-in-Some-fixed_words
returns-in-Some-fixed_words c =
    let p = c.args.plain.now in
    TellsWords-given p c.in-Some-fixed_words.text.now _ c.give-in-Some-fixed_words.result c.give-in-Some-fixed_words.new.size c.give-in-Some-fixed_words.new.fault c.args.out.now c.give-in-Some-fixed_words.new.out
    (fixed_told p c.in-Some-fixed_words.text.now (sym c.in_default.ensures) c.if-plain-eq64.false (sym c.in-Some-fixed_words.ensures))
    c.as_bytes-in-Some-fixed_words.ensures.value c.give-in-Some-fixed_words.ensures
