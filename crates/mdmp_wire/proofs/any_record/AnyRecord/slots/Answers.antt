use Rattle.std.proofs.Common.{rules}
use Rattle.mdmp_wire.proofs.any_record.AnyRecord.slots.Goals as goal

pub returns-in-Thread : goal.returns-in-Thread
returns-in-Thread c = search rules
