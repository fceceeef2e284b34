use Rattle.std.proofs.Common.{◌≡◌, ◌∙◌, Some, ap, arith, length, refl, sym}
use Rattle.mdmp_source.specs.Output.{OutState}
use Rattle.mdmp_engines.specs.Faults.{fault_text}
use Rattle.mdmp_print.specs.Lines.{error_line}
use Rattle.mdmp_c.specs.FaultText.{words_of}
use Rattle.mdmp_c.proofs.Told.{taken}
use Rattle.mdmp_c.proofs.Worded.{TellsWords-given, cut_words, error_length}
use Rattle.mdmp_c.proofs.wording.give_line.Goals as goal

pub overflow_sub-len : goal.overflow_sub-len
overflow_sub-len c =
    let text = fault_text c.args.fault.now in
    let none = ap (λ (o : OutState). o.taken) c.new-line.ensures ∙ ap Some c.new.ensures.items in
    let is : c.into_inner-line.result.items ≡ error_line text = taken _ _ (error_line text) _ none (sym c.into_inner-line.ensures) c.in-Ok.ensures in
    omega (arith, c.len.ensures, c.into_inner-line.result.ok.0, ap length is, error_length text)

pub slice_bounds-give-count : goal.slice_bounds-give-count
slice_bounds-give-count c =
    let text = fault_text c.args.fault.now in
    let none = ap (λ (o : OutState). o.taken) c.new-line.ensures ∙ ap Some c.new.ensures.items in
    let is : c.into_inner-line.result.items ≡ error_line text = taken _ _ (error_line text) _ none (sym c.into_inner-line.ensures) c.in-Ok.ensures in
    omega (arith, c.len.ensures, c.into_inner-line.result.ok.0, ap length is, error_length text)

pub slice_bounds-give-start : goal.slice_bounds-give-start
slice_bounds-give-start c =
    let text = fault_text c.args.fault.now in
    let none = ap (λ (o : OutState). o.taken) c.new-line.ensures ∙ ap Some c.new.ensures.items in
    let is : c.into_inner-line.result.items ≡ error_line text = taken _ _ (error_line text) _ none (sym c.into_inner-line.ensures) c.in-Ok.ensures in
    omega (arith, ap length c.deref.ensures.value, c.deref.ensures.len, c.into_inner-line.result.ok.0, ap length is, error_length text)

pub returns-in-Ok : goal.returns-in-Ok
returns-in-Ok c =
    let text = fault_text c.args.fault.now in
    let none = ap (λ (o : OutState). o.taken) c.new-line.ensures ∙ ap Some c.new.ensures.items in
    let is : c.into_inner-line.result.items ≡ error_line text = taken _ _ (error_line text) _ none (sym c.into_inner-line.ensures) c.in-Ok.ensures in
    let count : c.len.result ≡ length c.into_inner-line.result.items = omega (arith, c.len.ensures, c.into_inner-line.result.ok.0) in
    let words : words_of c.args.plain.now ≡ Some text = rw c.requires refl in
    TellsWords-given c.args.plain.now text _ c.give.result c.give.new.size c.give.new.fault c.args.out.now c.give.new.out words
    (cut_words text c.into_inner-line.result.items c.len.result is count) (rw c.deref.ensures.value at c.give.ensures)
