use Rattle.std.proofs.Common.{rules}
use Rattle.mdmp_wire.proofs.units_ref.UnitsRef.escape_at.Goals as goal

pub returns-clause-text : goal.returns-clause-text
returns-clause-text c = search rules
