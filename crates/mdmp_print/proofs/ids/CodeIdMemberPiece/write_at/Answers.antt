use Rattle.std.proofs.Common.{arith, refl}
use Rattle.mdmp_print.proofs.BufferLemmas.{IsPutBehind-as}
use Rattle.mdmp_print.proofs.ids.CodeIdMemberPiece.write_at.Goals as goal

pub returns-in-Some : goal.returns-in-Some
returns-in-Some c = rw c.in-Some.is (IsPutBehind-as refl (omega arith) c.write_at.ensures)

pub returns-in-None : goal.returns-in-None
returns-in-None c = rw c.in-None.is (IsPutBehind-as refl (omega arith) c.write_at-in-None.ensures)
