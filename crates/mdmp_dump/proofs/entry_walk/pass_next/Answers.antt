use Rattle.std.proofs.Common.{Ok, Err}
use Rattle.mdmp_dump.proofs.RegionPassed.{pass_kept, pass_passes, pass_refused}
use Rattle.mdmp_dump.proofs.entry_walk.pass_next.Goals as goal

pub returns-in-Ok-clause-passes : goal.returns-in-Ok-clause-passes
returns-in-Ok-clause-passes g c =
    pass_passes c.args.walker.now c.pass_step.new.self c.requires.kept c.requires.left c.requires.regions c.size-size.result c.size-size.ensures.value c.size-size.ensures.content c.size-size.ensures.bytes c.in-Ok.field-0 c.in-Ok.ensures

pub returns-in-Ok-clause-kept : goal.returns-in-Ok-clause-kept
returns-in-Ok-clause-kept g c = pass_kept c.args.walker.now c.pass_step.new.self c.requires.kept c.requires.left (Ok c.in-Ok.field-0) c.in-Ok.ensures

pub returns-in-Err-clause-passes : goal.returns-in-Err-clause-passes
returns-in-Err-clause-passes g c = pass_refused c.args.walker.now c.pass_step.new.self c.requires.kept c.requires.left c.in-Err.fault c.in-Err.ensures

pub returns-in-Err-clause-kept : goal.returns-in-Err-clause-kept
returns-in-Err-clause-kept g c = pass_kept c.args.walker.now c.pass_step.new.self c.requires.kept c.requires.left (Err c.in-Err.fault) c.in-Err.ensures
