use Rattle.std.proofs.Common.{rules}
use Rattle.mdmp_source.proofs.window.Window.with_room.Goals as goal

pub invariant_of-result : goal.invariant_of-result
invariant_of-result g c = search rules
