use Rattle.std.proofs.Common.{append_assoc, append-nil, arith, refl}
use Rattle.mdmp_print.proofs.BufferLemmas.{IsPutBehind-as}
use Rattle.mdmp_print.proofs.extent.RangeMembersPiece.write_at.Goals as goal

pub returns-in-Inside : goal.returns-in-Inside
returns-in-Inside c = rw c.in-Inside.is (IsPutBehind-as (simp (append_assoc, append-nil) refl) (omega arith) c.write_at-in-Inside.ensures)

pub returns-in-Outside : goal.returns-in-Outside
returns-in-Outside c = rw c.in-Outside.is (IsPutBehind-as (simp (append_assoc, append-nil) refl) (omega arith) c.write_at-in-Outside.ensures)
