use Rattle.std.proofs.Common.{Global, ◌≡◌, ◌∙◌, Some, ap, inl, inr, length, sym}
use Rattle.mdmp_source.specs.Output.{OutState}
use Rattle.mdmp_c.specs.Copies.{IsCopyTold}
use Rattle.mdmp_c.specs.Giving.{bad_limits}
use Rattle.mdmp_c.specs.Limits.{AreLimits}
use Rattle.mdmp_c.proofs.Copied.{IsCopyTold-of}
use Rattle.mdmp_c.proofs.Told.{Ends-given}
use Rattle.mdmp_c.proofs.copy.mdmp_copy_.Goals as goal

pub returns-clause-gives : goal.returns-clause-gives
returns-clause-gives c = λ types_fit.
    let file = c.args.file.now in
    let types = c.args.types.now in
    let bytes = c.deref.result.now in
    let answer = c.run_copy-answer.result in
    let known = c.new-3.ensures.same_content in
    let whole : c.new-3.result.bytes.now ≡ file = cc in
    let none = ap (λ (o : OutState). o.taken) c.new-bytes.ensures ∙ ap Some c.new-2.ensures.items in
    let wrote = sym c.into_inner-bytes.ensures ∙ ap Some (sym c.deref.ensures.value) in
    let good = c.run_copy-answer.ensures.good file record { known = known; reliable = c.new-3.ensures.same_reliable } in
    let told = IsCopyTold-of Global file _ types c.in-Some-new.types c.args.limits.now c.in-Some.limits _ _ _ bytes answer c.copy_answer.result known (ap length whole)
    c.in-Some-new.ensures.value c.in-Some.ensures none wrote good c.copy_answer.ensures c.run_copy-answer.ensures.copies c.run_copy-answer.ensures.budget c.run_copy-answer.ensures.memory in
    let valid : AreLimits c.args.limits.now = c.in-Some.ensures.valid in
    Ends-given (IsCopyTold Global file types c.args.limits.now) (AreLimits c.args.limits.now) (Unit {0}) (λ _. ⊥) bad_limits c.copy_answer.result bytes c.give_or_want.result c.give_or_want.new.size
    c.give_or_want.new.fault c.args.out.now c.give_or_want.new.out valid (inr (inl (tt, told))) c.give_or_want.ensures
