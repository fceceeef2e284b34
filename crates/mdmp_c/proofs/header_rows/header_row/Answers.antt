use Rattle.std.proofs.Common.{rules}
use Rattle.mdmp_c.proofs.header_rows.header_row.Goals as goal

pub returns : goal.returns
returns c = search rules
