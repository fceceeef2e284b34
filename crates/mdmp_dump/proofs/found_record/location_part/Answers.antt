use Rattle.std.proofs.Common.{◌∙◌}
use Rattle.mdmp_dump.proofs.Limits.{part_absent, part_empty, part_inside}
use Rattle.mdmp_dump.proofs.found_record.location_part.Goals as goal

pub returns-in-Empty-clause-finds : goal.returns-in-Empty-clause-finds
returns-in-Empty-clause-finds c = λ file is. part_empty file c.args.entry c.args.index c.args.part c.args.location (is ∙ c.in-Empty.is)

pub returns-in-Absent-clause-finds : goal.returns-in-Absent-clause-finds
returns-in-Absent-clause-finds c = λ file is. part_absent file c.args.entry c.args.index c.args.part c.args.location (is ∙ c.in-Absent.is)

pub returns-in-Inside-clause-finds : goal.returns-in-Inside-clause-finds
returns-in-Inside-clause-finds c = λ file is. rw (c.from.ensures, c.from-in-Inside.ensures) (part_inside file c.args.entry c.args.index c.args.part c.args.location (is ∙ c.in-Inside.is))
