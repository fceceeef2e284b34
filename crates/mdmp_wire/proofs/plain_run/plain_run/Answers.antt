use Rattle.mdmp_wire.proofs.PlainRuns.{none_stops, one_stops}
use Rattle.mdmp_wire.proofs.plain_run.plain_run.Goals as goal

pub returns-then-mask-eq0 : goal.returns-then-mask-eq0
returns-then-mask-eq0 c = none_stops c.args.units c.requires c.if-mask-eq0.true

pub returns-else-mask-eq0 : goal.returns-else-mask-eq0
returns-else-mask-eq0 c = one_stops c.args.units c.requires c.if-mask-eq0.false
