use Rattle.std.proofs.Common.{append_assoc, append-nil, arith, refl}
use Rattle.mdmp_print.proofs.BufferLemmas.{IsPutBehind-as}
use Rattle.mdmp_print.proofs.extent.PartMembersPiece.write_at.Goals as goal

pub returns-in-Empty : goal.returns-in-Empty
returns-in-Empty c = rw c.in-Empty.is (IsPutBehind-as refl (omega arith) c.write_at.ensures)

pub returns-in-Absent : goal.returns-in-Absent
returns-in-Absent c = rw c.in-Absent.is (IsPutBehind-as refl (omega arith) c.write_at-in-Absent.ensures)

pub returns-in-Inside : goal.returns-in-Inside
returns-in-Inside c = rw c.in-Inside.is (IsPutBehind-as (simp (append_assoc, append-nil) refl) (omega arith) c.write_at-in-Inside.ensures)

pub returns-in-Outside : goal.returns-in-Outside
returns-in-Outside c = rw c.in-Outside.is (IsPutBehind-as (simp (append_assoc, append-nil) refl) (omega arith) c.write_at-in-Outside.ensures)
