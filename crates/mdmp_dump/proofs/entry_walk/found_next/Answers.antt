use Rattle.std.proofs.Common.{Ok, Some}
use Rattle.mdmp_lister.specs.declared.step.Step.TheVariants as step
use Rattle.mdmp_lister.specs.Format.Kind.{kind_of}
use Rattle.mdmp_lister.specs.Step.{IsStepOf}
use Rattle.mdmp_lister.specs.Walker.{StepLeaves}
use Rattle.mdmp_dump.proofs.RecordsFound.{step_gives, step_kept, step_refused}
use Rattle.mdmp_dump.proofs.entry_walk.found_next.Goals as goal

pub returns-in-Ok-Some-Record-clause-gives : goal.returns-in-Ok-Some-Record-clause-gives
returns-in-Ok-Some-Record-clause-gives g c =
    let old = c.args.walker.now in
    let new = c.next_step.new.self in
    let r = c.in-Ok-Some-Record.read in
    let leaves : StepLeaves old (Ok (Some (step.Record r))) new = rw (c.in-Ok-Some-Record.field-0-is, c.in-Ok-Some-Record.field-0-0-is) at c.in-Ok-Some-Record.ensures.leaves in
    let of : IsStepOf (kind_of new.list.current.stream_type) (step.Record r) = rw (c.in-Ok-Some-Record.field-0-is, c.in-Ok-Some-Record.field-0-0-is) at c.in-Ok-Some-Record.ensures.kind in
    step_gives old new c.requires.kept c.requires.left r leaves of c.args.limit c.size-size.result c.size-size.ensures.value c.size-size.ensures.content c.size-size.ensures.bytes c.found_record.result c.found_record.ensures.finds
    c.found_record.ensures.fits c.found_record.ensures.inside

pub returns-in-Ok-Some-Record-clause-kept : goal.returns-in-Ok-Some-Record-clause-kept
returns-in-Ok-Some-Record-clause-kept g c =
    let r = c.in-Ok-Some-Record.read in
    let leaves : StepLeaves c.args.walker.now (Ok (Some (step.Record r))) c.next_step.new.self = rw (c.in-Ok-Some-Record.field-0-is, c.in-Ok-Some-Record.field-0-0-is) at c.in-Ok-Some-Record.ensures.leaves in
    step_kept c.args.walker.now c.next_step.new.self c.requires.kept c.requires.left (step.Record r) leaves

pub returns-in-Err-clause-gives : goal.returns-in-Err-clause-gives
returns-in-Err-clause-gives g c =
    step_refused c.args.walker.now c.next_step.new.self c.requires.kept c.requires.left c.in-Err.fault c.in-Err.ensures.leaves c.in-Err.ensures.good c.args.limit
