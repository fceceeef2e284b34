use Rattle.std.proofs.Common.{rules, ◌≡◌, ◌≤◌, ◌∙◌, Ok, Err, Result, ap, inl, refl}
use Rattle.std.specs.Prelude.{IfErr}
use Rattle.std.specs.Result.{IsErr}
use Rattle.mdmp_lister.specs.declared.fault.Fault.{Fault}
use Rattle.mdmp_lister.specs.declared.head.Head.{Head}
use Rattle.mdmp_lister.specs.declared.kind.StreamKind.{StreamKind}
use Rattle.mdmp_source.specs.declared.location.Location.{Location}
use Rattle.mdmp_lister.specs.Fault.{IsUnobtained, fault_of_fetch}
use Rattle.mdmp_lister.specs.Fetching.{shape_told}
use Rattle.mdmp_lister.specs.Following.{IsSomeShape, failed}
use Rattle.mdmp_lister.specs.Format.Kind.{form_of, record_size}
use Rattle.mdmp_lister.specs.Format.Shape.{head_cost, head_size}
use Rattle.mdmp_lister.proofs.HeadReads.{begins_failed, begins_read, begins_short}
use Rattle.mdmp_lister.proofs.NextSteps.{head_refused, head_tried}
use Rattle.mdmp_lister.proofs.stream_head.begin_stream.Goals as goal

some_failed : (at : Location) (kind : StreamKind) (r : Result Head Fault) → head_size (form_of kind) (record_size kind) ≤ at.size → IsErr r → IfErr r (λ fault. IsUnobtained fault.kind)
    → IsSomeShape at kind (shape_told r)
some_failed at kind (Ok x) room bad of = absurd (cc)
some_failed at kind (Err fault) room bad of = failed room fault refl of

pub returns-in_err-hold-clause-some : goal.returns-in_err-hold-clause-some
returns-in_err-hold-clause-some g c = some_failed c.args.at c.args.kind c.from_residual-in_err-hold.result (search rules) (search rules) (search rules)

pub returns-in_err-check_head-clause-begins : goal.returns-in_err-check_head-clause-begins
returns-in_err-check_head-clause-begins g c =
    let fault : Fault = c.in_err-check_head.field-0.0 in
    let is : c.from_residual.result ≡ Err fault = search rules in
    rw is (begins_short c.args.at c.args.kind fault c.args.meter.now c.args.window.now c.in_err-check_head.ensures.short)

pub returns-in_err-hold-clause-begins : goal.returns-in_err-hold-clause-begins
returns-in_err-hold-clause-begins g c =
    let fault = c.in_err-hold.field-0.0 in
    let hold = c.in_err-hold.ensures in
    let is : c.from_residual-in_err-hold.result ≡ Err (fault_of_fetch fault) = search rules in
    let least = c.head_cost-least.ensures.value ∙ ap head_cost c.form.ensures in
    let begun = rw (c.from-start.ensures, c.from.ensures) at c.start.ensures in
    rw is (begins_failed c.args.at (form_of c.args.kind) c.args.meter.now c.hold.new.meter c.args.window.now c.start.new.self c.hold.new.window begun (rw c.from-start.ensures at hold.comes)
    _ fault (rw (c.from-start.ensures, least) at hold.reads) (rw (c.from-start.ensures, least) at hold.slides))

pub returns-clause-begins : goal.returns-clause-begins
returns-clause-begins g c =
    let hold = c.in_ok-hold.ensures in
    let least = c.head_cost-least.ensures.value ∙ ap head_cost c.form.ensures in
    let begun = rw (c.from-start.ensures, c.from.ensures) at c.start.ensures in
    begins_read c.args.at (form_of c.args.kind) c.args.meter.now c.hold.new.meter c.args.window.now c.start.new.self c.hold.new.window begun (rw c.from-start.ensures at hold.comes)
    _ c.head_of.result c.requires.room (rw (c.from-start.ensures, least) at hold.reads) (rw (c.from-start.ensures, least) at hold.slides) c.head_of.ensures.fault

pub returns-in_err-check_head-clause-tries : goal.returns-in_err-check_head-clause-tries
returns-in_err-check_head-clause-tries g c =
    let fault : Fault = c.in_err-check_head.field-0.0 in
    let is : c.from_residual.result ≡ Err fault = search rules in
    rw (is, c.in_err-check_head.ensures.short.is) (inl refl)

pub returns-in_err-hold-clause-tries : goal.returns-in_err-hold-clause-tries
returns-in_err-hold-clause-tries g c =
    let a = c.args in
    let fault = c.in_err-hold.field-0.0 in
    let hold = c.in_err-hold.ensures in
    let is : c.from_residual-in_err-hold.result ≡ Err (fault_of_fetch fault) = search rules in
    let least = c.head_cost-least.ensures.value ∙ ap head_cost c.form.ensures in
    let begun = rw (c.from-start.ensures, c.from.ensures) at c.start.ensures in
    rw is (head_refused a.at a.kind a.meter.now c.hold.new.meter a.window.now c.start.new.self c.hold.new.window begun fault (rw (c.from-start.ensures, least) at hold.tries))

pub returns-clause-tries : goal.returns-clause-tries
returns-clause-tries g c =
    let a = c.args in
    let hold = c.in_ok-hold.ensures in
    let least = c.head_cost-least.ensures.value ∙ ap head_cost c.form.ensures in
    let begun = rw (c.from-start.ensures, c.from.ensures) at c.start.ensures in
    head_tried a.at a.kind a.meter.now c.hold.new.meter a.window.now c.start.new.self c.hold.new.window begun c.head_of.result
    hold.comes.end (rw (c.from-start.ensures, least) at hold.tries) c.head_of.ensures.fault
