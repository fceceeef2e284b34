use Rattle.std.proofs.Common.{◌≡◌, ◌+◌, ap, arith, refl, rules}
use Rattle.mdmp_lister.specs.declared.stage.Stage.TheVariants.{Records}
use Rattle.mdmp_lister.proofs.Changing.{taken_fault}
use Rattle.mdmp_lister.proofs.EntrySteps.{answered_record, answered_record_fault, given_record, nameless_reading}
use Rattle.mdmp_lister.proofs.Fetches.{unchanged_caused}
use Rattle.mdmp_lister.proofs.Owing.{room_taken}
use Rattle.mdmp_lister.specs.Format.KindLaws.{most_record}
use Rattle.mdmp_lister.proofs.Unchanged.{fault_stage-unchanged}
use Rattle.mdmp_lister.specs.Format.Kind.{greatest_record}
use Rattle.mdmp_lister.specs.HeldStep.{step_told}
use Rattle.mdmp_lister.specs.Stage.{MayPass}
use Rattle.mdmp_lister.specs.Walk.{IsHolding, IsReading}
use Rattle.mdmp_lister.proofs.walk.Walk.read_record.Goals as goal

pub returns-in-Ok-clause-read : goal.returns-in-Ok-clause-read
returns-in-Ok-clause-read g c =
    let w = c.args.self.now in
    let a = c.args in
    let of = c.in-Ok.ensures in
    let stage : c.pass_record.new.self ≡ Records a.kind a.shape (a.index + 1) (a.offset + c.bytes_behind-size.result) = rw c.requires.stage at c.pass_record.ensures in
    let size = rw c.bytes.ensures at c.bytes_behind-size.ensures in
    let room : c.read_item.new.buffer.limit ≡ w.name.limit = of.limit in (
      record {
        answered =
            answered_record w _ a.kind a.shape a.index a.offset c.record_at-at.result c.requires.stage c.requires.left c.requires.sound (search rules) c.record_at-at.ensures.place
            _ (step_told c.read_item.new.window.held c.in-Ok.held) _ stage (ap (λ n. a.offset + n) size) (omega (arith, c.bytes_behind-size.type_inv)) (rw room at of.reads) of.tells
            of.comes (omega (arith, of.slides.bytes)) (of.slides.calls greatest_record (most_record a.kind) c.requires.sound.window)
            (λ file known here. rw room at (of.item file known w.current.location.rva here))
            (rw room at of.some) of.tries.0 of.tries.1;
        room = room_taken w _ a.kind a.shape a.index a.offset _ (step_told c.read_item.new.window.held c.in-Ok.held) c.requires.stage stage c.requires.left of.tells.ranges (search rules) of.reads.fetches.same_content;
        unchanged = λ stays. rw stage tt;
        nameless = λ none. of.nameless (nameless_reading w a.kind a.shape a.index a.offset c.requires.stage c.requires.sound none);
      },
      given_record w _ a.kind a.shape a.index a.offset c.record_at-at.result c.requires.stage c.requires.left c.requires.sound (search rules) c.record_at-at.ensures.place
          (step_told c.read_item.new.window.held c.in-Ok.held) _ stage
          (λ file known here. rw room at (of.item file known w.current.location.rva here)),
    )

pub returns-in-Err-clause-read : goal.returns-in-Err-clause-read
returns-in-Err-clause-read g c =
    let w = c.args.self.now in
    let a = c.args in
    let of = c.in-Err.ensures in
    let room : c.read_item.new.buffer.limit ≡ w.name.limit = of.limit in
    rw (c.stop_at.ensures.1, c.stop_at.ensures.0)
    (taken_fault w _ c.of_entry.result
    (answered_record_fault w _ a.kind a.shape a.index a.offset c.record_at-at.result c.requires.stage c.requires.left c.requires.sound (search rules) c.record_at-at.ensures.place
    _ c.in-Err.fault c.of_entry.result refl (rw room at of.reads) (omega (arith, of.slides.bytes)) (omega (arith, of.slides.calls greatest_record (most_record a.kind) c.requires.sound.window)) c.of_entry.ensures (λ file known here other. rw room at (of.item file known w.current.location.rva here other))
    (rw room at of.some) (rw room at of.tries))
    (λ stays. fault_stage-unchanged c.of_entry.result (unchanged_caused c.in-Err.fault c.of_entry.result w.meter.source c.read_item.new.meter.source of.reads.caused c.of_entry.ensures.kind))
    (λ none. of.nameless (nameless_reading w a.kind a.shape a.index a.offset c.requires.stage c.requires.sound none)))

pub read_item-requires-clause-ahead : goal.read_item-requires-clause-ahead
read_item-requires-clause-ahead g c =
    let at = c.record_at-at.ensures in
    let sound = c.requires.sound in
    let holding : IsHolding c.args.self.now.meter.source.store.content c.args.self.now.current c.args.shape c.args.index c.args.self.now.window = rw c.requires.stage at sound.holding in
    record {
      from = omega (arith, holding.place, at.place);
      inside = omega (arith, holding.end, at.end);
      end = omega (arith, holding.end, at.whole);
      room = omega (arith, most_record c.args.kind, sound.window);
      held = holding.held;
    }

pub pass_record-requires : goal.pass_record-requires
pass_record-requires g c =
    let a = c.args in
    let w = a.self.now in
    let reading : IsReading w.meter.source.size w.next w.current a.kind a.shape a.index a.offset = rw c.requires.stage at c.requires.sound.staged in
    let fits : MayPass (Records a.kind a.shape a.index a.offset) = (omega (arith, reading.few, c.requires.left), omega (arith, reading.bound, reading.few, reading.within)) in
    rw c.requires.stage fits
