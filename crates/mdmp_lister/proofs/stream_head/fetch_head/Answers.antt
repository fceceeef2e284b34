use Rattle.std.proofs.Common.{◌≡◌, ◌∙◌, ℕ, Err, subst, ap, arith, refl, rules, sym}
use Rattle.mdmp_lister.specs.declared.fault.Fault.{Fault}
use Rattle.mdmp_lister.specs.Fault.{fault_of_fetch}
use Rattle.mdmp_lister.specs.Format.Kind.{form_of}
use Rattle.mdmp_lister.specs.Format.Shape.{head_cost}
use Rattle.mdmp_lister.specs.Meter.{TriesFetch}
use Rattle.mdmp_lister.specs.StreamHead.{head_spent}
use Rattle.mdmp_lister.proofs.Fetches.{IsCaused_none}
use Rattle.mdmp_lister.proofs.HeadReads.{head_room, reads_head, reads_obtained, reads_short, reads_unobtained, tried_fetch, tried_plain, tried_short}
use Rattle.mdmp_lister.proofs.Metering.{Books_none}
use Rattle.mdmp_lister.proofs.stream_head.fetch_head.Goals as goal

pub returns-then-least-eq0-clause-shape : goal.returns-then-least-eq0-clause-shape
returns-then-least-eq0-clause-shape g c = λ file known. c.head_of.ensures.shape file refl

pub returns-in_err-check_head-clause-reads : goal.returns-in_err-check_head-clause-reads
returns-in_err-check_head-clause-reads g c =
    let fault : Fault = c.in_err-check_head.field-0.0 in
    let is : c.from_residual.result ≡ Err fault = search rules in
    rw is (reads_short c.args.at c.args.kind fault c.args.meter.now c.in_err-check_head.ensures.short)

pub returns-then-least-eq0-clause-reads : goal.returns-then-least-eq0-clause-reads
returns-then-least-eq0-clause-reads g c = reads_head c.args.at.size c.args.kind c.head_of.result c.args.meter.now c.args.meter.now (Books_none 1 _ c.args.meter.now) (IsCaused_none c.args.meter.now.source) c.head_of.ensures.fault

pub returns-in_err-fetch_front-clause-reads : goal.returns-in_err-fetch_front-clause-reads
returns-in_err-fetch_front-clause-reads g c =
    let fault = c.in_err-fetch_front.field-0.0 in
    let least = c.head_cost-least.ensures.value ∙ ap head_cost c.form.ensures in
    let is : c.from_residual-in_err-fetch_front.result ≡ Err (fault_of_fetch fault) = search rules in
    rw is (reads_unobtained c.args.at.size c.args.kind _ fault c.args.meter.now c.fetch_front.new.meter c.in_ok-check_head.ensures.room (rw least at c.head_cost-least.ensures.bound) (rw least at c.in_err-fetch_front.ensures.reads))

pub returns-clause-reads : goal.returns-clause-reads
returns-clause-reads g c =
    let least = c.head_cost-least.ensures.value ∙ ap head_cost c.form.ensures in
    reads_obtained c.args.at.size c.args.kind _ c.head_of-2.result c.args.meter.now c.fetch_front.new.meter c.in_ok-check_head.ensures.room (rw least at c.in_ok-fetch_front.ensures.reads) c.head_of-2.ensures.fault

pub returns-in_err-check_head-clause-tries : goal.returns-in_err-check_head-clause-tries
returns-in_err-check_head-clause-tries g c =
    let fault : Fault = c.in_err-check_head.field-0.0 in
    let is : c.from_residual.result ≡ Err fault = search rules in
    rw is (tried_short c.args.at c.args.kind fault c.args.meter.now c.in_err-check_head.ensures.short)

pub returns-then-least-eq0-clause-tries : goal.returns-then-least-eq0-clause-tries
returns-then-least-eq0-clause-tries g c =
    let m = c.args.meter.now in
    let least = c.head_cost-least.ensures.value ∙ ap head_cost c.form.ensures in
    let none : head_spent c.args.at.size c.args.kind ≡ 0 = head_room c.args.at.size c.args.kind c.in_ok-check_head.ensures.room ∙ sym least ∙ c.if-least-eq0.true in
    tried_plain c.args.at.rva _ c.head_of.result m m (rw none (omega arith)) c.head_of.ensures.fault

pub returns-in_err-fetch_front-clause-tries : goal.returns-in_err-fetch_front-clause-tries
returns-in_err-fetch_front-clause-tries g c =
    let fault = c.in_err-fetch_front.field-0.0 in
    let least = c.head_cost-least.ensures.value ∙ ap head_cost c.form.ensures in
    let spent = head_room c.args.at.size c.args.kind c.in_ok-check_head.ensures.room in
    let is : c.from_residual-in_err-fetch_front.result ≡ Err (fault_of_fetch fault) = search rules in
    let placed = subst (λ (n : ℕ). TriesFetch {T = Unit {0}} n c.head_cost-least.result (Err fault) c.args.meter.now c.fetch_front.new.meter) c.from.ensures c.in_err-fetch_front.ensures.tries in
    let tried = subst (λ (n : ℕ). TriesFetch {T = Unit {0}} c.args.at.rva n (Err fault) c.args.meter.now c.fetch_front.new.meter) least placed in
    rw (is, spent) (tried_fetch c.args.at.rva (head_cost (form_of c.args.kind)) fault c.args.meter.now c.fetch_front.new.meter tried)

pub returns-clause-tries : goal.returns-clause-tries
returns-clause-tries g c =
    let least = c.head_cost-least.ensures.value ∙ ap head_cost c.form.ensures in
    let spent = head_room c.args.at.size c.args.kind c.in_ok-check_head.ensures.room in
    rw spent (tried_plain c.args.at.rva (head_cost (form_of c.args.kind)) c.head_of-2.result c.args.meter.now c.fetch_front.new.meter (rw least at c.in_ok-fetch_front.ensures.tries) c.head_of-2.ensures.fault)
