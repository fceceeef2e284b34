use Rattle.std.proofs.Common.{refl}
use Rattle.mdmp_dump.proofs.Taking.{refused_by}
use Rattle.mdmp_dump.proofs.reader.found.Goals as goal

pub returns-in-Stream : goal.returns-in-Stream
returns-in-Stream g c = rw c.in-Stream.is refl

pub returns-in_ok-name-in-Record : goal.returns-in_ok-name-in-Record
returns-in_ok-name-in-Record g c = rw c.in-Record.is (refl, c.in_ok-name-in-Record.ensures)

pub returns-in_err-name-in-Record : goal.returns-in_err-name-in-Record
returns-in_err-name-in-Record g c = rw (c.in-Record.is, refused_by c.from_residual.result c.in_err-name-in-Record.field-0.0 c.from_residual.ensures.1) c.in_err-name-in-Record.ensures
