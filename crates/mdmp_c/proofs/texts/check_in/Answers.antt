use Rattle.std.proofs.Common.{rules, ◌∙◌, ℕ, Some, ap, sym, subst}
use Rattle.mdmp_source.specs.Output.{OutState}
use Rattle.mdmp_c.specs.declared.fault.PlainFault.{PlainFault}
use Rattle.mdmp_c.specs.Giving.{bad_limits}
use Rattle.mdmp_c.specs.Limits.{AreLimits, EndsChecking, KeepsChecking}
use Rattle.mdmp_c.specs.Texts.{IsCheck}
use Rattle.mdmp_c.specs.ToolFault.{check_answer}
use Rattle.mdmp_source.specs.Store.{IsGood}
use Rattle.mdmp_c.proofs.CheckEnded.{check_keeps, check_over}
use Rattle.mdmp_c.proofs.Stopping.{sized}
use Rattle.mdmp_c.proofs.Told.{Ends-given, IsCheck-told, IsTellable}
use Rattle.mdmp_c.proofs.texts.check_in.Goals as goal

pub returns : goal.returns
returns c =
    let file = c.args.file.now in
    let text = c.deref.result.now in
    let answer = c.check_source-checked.result.answer in
    let none = ap (λ (o : OutState). o.taken) c.new-text.ensures ∙ ap Some c.new-2.ensures.items in
    let is = sym c.into_inner-text.ensures ∙ ap Some (sym c.deref.ensures.value) in
    let good : IsGood c.new-source.result.store file = search rules in
    let run = c.check_source-checked.ensures in
    let read = run.tells.good file good in
    let runs = run.checks file good.known in
    let MayTell = EndsChecking c.args.limits.now file in
    let can = check_over c.args.limits.now c.in-Some.limits file c.new-source.result _ answer c.in-Some.ensures good.known (sized file c.new-source.result good.known c.new-source.ensures.content) (search rules) c.new-source.ensures.counts.0
    (run.reads.fetches.fetches.same_content ∙ good.known) run.reads.fetches.fetches.same_size run.through in
    let kept = KeepsChecking c.args.limits.now file in
    let keep = check_keeps c.args.limits.now c.in-Some.limits file c.new-source.result _ answer c.args.form _ _ c.in-Some.ensures good.known (sized file c.new-source.result good.known c.new-source.ensures.content) run.through runs in
    let told = IsCheck-told c.args.form file c.in-Some.limits.name kept MayTell _ _ text answer none is read can keep runs in
    let named = subst (λ (n : ℕ). IsTellable (IsCheck c.args.form file n) kept MayTell (check_answer answer) text) c.in-Some.ensures.name told in
    let valid : AreLimits c.args.limits.now = c.in-Some.ensures.valid in
    Ends-given (IsCheck c.args.form file c.args.limits.now.name) (AreLimits c.args.limits.now) kept MayTell bad_limits c.check_answer.result text c.give_or_want.result c.give_or_want.new.size c.give_or_want.new.fault
    c.args.out.now c.give_or_want.new.out valid
    (subst (λ (f : PlainFault). IsTellable (IsCheck c.args.form file c.args.limits.now.name) kept MayTell f text) (sym c.check_answer.ensures) named) c.give_or_want.ensures
