use Rattle.std.proofs.Common.{rules}
use Rattle.mdmp_c.proofs.rows.ThreadRowPlainRow.of.Goals as goal

pub returns : goal.returns
returns c = search rules
