use Rattle.std.proofs.Common.{◌++◌, ◌∙◌, ap, arith}
use Rattle.mdmp_lister.specs.HeldStep.{step_told}
use Rattle.mdmp_lister.specs.Step.{step_item}
use Rattle.mdmp_lister.proofs.HeldSteps.{item_told, ranges_told-few, ranges_told-of, told-fits}
use Rattle.mdmp_lister.proofs.Judging.{fault_read, one_item}
use Rattle.mdmp_lister.proofs.Requests.{listing-going}
use Rattle.mdmp_lister.proofs.checking.read_next.Goals as goal

pub returns-in-Ok-Some : goal.returns-in-Ok-Some
returns-in-Ok-Some g c =
    let w = c.args.walk.now in
    let n = c.next_record.new.self in
    let z = n.meter.source.size in
    let s = step_told n.window.held c.in-Ok-Some.held in
    let given = (rw c.in-Ok-Some.field-0-is at c.in-Ok-Some.ensures.taken) in
    let x = step_item z n.name.items s in
    let item = item_told z s c.range.result c.range.ensures n.name.items in
    let pushed = c.push_range.ensures ∙ ap (λ rs. record (c.args.map.now) { ranges = c.args.map.now.ranges ++ rs }) (ranges_told-of z s c.range.result c.range.ensures n.name.items x item.item) in
    one_item w n c.args.map.now c.push_range.new.map s x c.requires.mapped (listing-going w.stage c.requires.stage) given.0 given.1 item pushed

pub push_range-requires-clause-placed : goal.push_range-requires-clause-placed
push_range-requires-clause-placed g c = told-fits _ _ c.range.result c.range.ensures

pub push_range-requires-clause-room : goal.push_range-requires-clause-room
push_range-requires-clause-room g c =
    let n = c.next_record.new.self in
    let given = (rw c.in-Ok-Some.field-0-is at c.in-Ok-Some.ensures.taken) in
    let room = given.0.room _ c.requires.mapped.room in
    omega (arith, room.ahead, ranges_told-few n.meter.source.size (step_told n.window.held c.in-Ok-Some.held) c.range.result c.range.ensures)

pub returns-in-Err : goal.returns-in-Err
returns-in-Err g c =
    let taken = c.in-Err.ensures.taken in
    fault_read c.args.walk.now c.next_record.new.self c.args.map.now c.in-Err.fault c.requires.mapped taken.answered (taken.room _ c.requires.mapped.room)
