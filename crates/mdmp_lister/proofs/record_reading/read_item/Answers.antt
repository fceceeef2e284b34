use Rattle.std.proofs.Common.{◌≡◌, ◌∙◌, Err, Some, ap, refl, rules, sym}
use Rattle.mdmp_wire.specs.AnyRecord.{name_rva}
use Rattle.mdmp_lister.specs.Fault.{fault_of_fetch}
use Rattle.mdmp_lister.specs.Following.{of_name}
use Rattle.mdmp_lister.specs.Format.Item.{record_at}
use Rattle.mdmp_lister.proofs.NextSteps.{held_leaves, name_refused, name_takes, nameless_takes, record_refused}
use Rattle.mdmp_lister.proofs.RecordReads.{reads_failed, reads_misnamed, reads_named, reads_nameless}
use Rattle.mdmp_lister.proofs.record_reading.read_item.Goals as goal

pub returns-clause-some : goal.returns-clause-some
returns-clause-some g c =
    let rva : name_rva (record_at c.args.kind c.hold_record.new.window.held 0) ≡ Some c.in-Some.rva = rw c.bytes.ensures at (sym c.held_name_rva.ensures ∙ c.in-Some.is) in
    record {
      fields = record_at c.args.kind c.hold_record.new.window.held 0;
      kind_is = sym c.in_ok-hold_record.ensures.kind;
      name = c.in_ok-name.name;
      named = rw (rva, ← c.in_ok-hold_record.ensures.reads.books.fetches.same_size) c.in_ok-name.ensures.some;
      step_is = refl;
    }

pub returns-in_err-hold_record-clause-reads : goal.returns-in_err-hold_record-clause-reads
returns-in_err-hold_record-clause-reads g c =
    let is : c.from_residual.result ≡ Err (fault_of_fetch c.in_err-hold_record.field-0.0) = search rules in
    rw is (reads_failed _ _ _ _ _ _ c.in_err-hold_record.field-0.0 c.in_err-hold_record.ensures.reads)

pub returns-in_default-clause-reads : goal.returns-in_default-clause-reads
returns-in_default-clause-reads g c = reads_nameless _ _ _ _ _ _ _ _ refl c.in_ok-hold_record.ensures.reads

pub returns-clause-reads : goal.returns-clause-reads
returns-clause-reads g c = reads_named _ _ _ _ _ _ _ _ _ c.in_ok-name.name _ refl refl c.in_ok-hold_record.ensures.reads c.in_ok-name.ensures.reads

pub returns-in_err-name-clause-reads : goal.returns-in_err-name-clause-reads
returns-in_err-name-clause-reads g c =
    let fault = c.in_err-name.field-0.0 in
    let is : c.from_residual-in_err-name.result ≡ Err fault = search rules in
    rw is (reads_misnamed _ _ _ _ _ _ _ _ _ fault c.in_ok-hold_record.ensures.reads c.in_err-name.ensures.reads)

pub returns-in_err-name-clause-some : goal.returns-in_err-name-clause-some
returns-in_err-name-clause-some g c =
    let fault = c.in_err-name.field-0.0 in
    let is : c.from_residual-in_err-name.result ≡ Err fault = search rules in
    let rva : name_rva (record_at c.args.kind c.hold_record.new.window.held 0) ≡ Some c.in-Some.rva = rw c.bytes.ensures at (sym c.held_name_rva.ensures ∙ c.in-Some.is) in
    rw is (of_name (record_at c.args.kind c.hold_record.new.window.held 0) (sym c.in_ok-hold_record.ensures.kind) (rw (rva, ← c.in_ok-hold_record.ensures.reads.books.fetches.same_size) c.in_err-name.ensures.some))

pub returns-in_err-hold_record-clause-tries : goal.returns-in_err-hold_record-clause-tries
returns-in_err-hold_record-clause-tries g c =
    let a = c.args in
    let fault = c.in_err-hold_record.field-0.0 in
    let is : c.from_residual.result ≡ Err (fault_of_fetch fault) = search rules in
    rw is (record_refused _ a.kind a.at a.meter.now c.hold_record.new.meter a.window.now c.hold_record.new.window fault c.requires.ahead c.in_err-hold_record.ensures.tries)

pub returns-in_err-name-clause-tries : goal.returns-in_err-name-clause-tries
returns-in_err-name-clause-tries g c =
    let fault = c.in_err-name.field-0.0 in
    let is : c.from_residual-in_err-name.result ≡ Err fault = search rules in
    let a = c.args in
    let held = c.in_ok-hold_record.ensures.reads in
    let rva : name_rva (record_at a.kind c.hold_record.new.window.held 0) ≡ Some c.in-Some.rva = rw c.bytes.ensures at (sym c.held_name_rva.ensures ∙ c.in-Some.is) in
    rw is (name_refused _ a.kind a.at a.meter.now c.hold_record.new.meter a.window.now c.hold_record.new.window c.in-Some.rva c.read_name.new.meter fault.kind fault.offset fault.size
    held.books.fetches.same_size held.books.fetches.same_content (λ file known. ap name_rva (held.of_file file known) ∙ rva)
    c.requires.ahead c.in_ok-hold_record.ensures.tries c.in_err-name.ensures.tries)

pub returns-in_default-clause-tries : goal.returns-in_default-clause-tries
returns-in_default-clause-tries g c =
    let a = c.args in
    let held = c.in_ok-hold_record.ensures in (
      nameless_takes a.buffer.now.limit a.kind a.at a.meter.now c.hold_record.new.meter a.window.now c.hold_record.new.window c.requires.ahead held.tries,
      held_leaves a.buffer.now.limit a.kind a.at a.meter.now c.hold_record.new.meter a.window.now c.hold_record.new.window c.requires.ahead held.comes.end held.tries,
    )

pub returns-clause-tries : goal.returns-clause-tries
returns-clause-tries g c =
    let a = c.args in
    let held = c.in_ok-hold_record.ensures in (
      name_takes a.buffer.now.limit a.kind a.at a.meter.now c.hold_record.new.meter a.window.now c.hold_record.new.window _ c.read_name.new.meter c.requires.ahead held.tries c.in_ok-name.ensures.tries,
      held_leaves a.buffer.now.limit a.kind a.at a.meter.now c.hold_record.new.meter a.window.now c.hold_record.new.window c.requires.ahead held.comes.end held.tries,
    )
