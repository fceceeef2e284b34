use Rattle.std.proofs.Common.{rules}
use Rattle.mdmp_c.proofs.given_rows.ending_told.Goals as goal

pub returns-in-Some : goal.returns-in-Some
returns-in-Some c = search rules
