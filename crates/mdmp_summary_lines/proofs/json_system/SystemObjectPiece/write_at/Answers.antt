use Rattle.std.proofs.Common.{arith, refl}
use Rattle.mdmp_print.proofs.BufferLemmas.{IsPutBehind-as}
use Rattle.mdmp_summary_lines.proofs.json_system.SystemObjectPiece.write_at.Goals as goal

pub returns-in-Some : goal.returns-in-Some
returns-in-Some c =
    rw (c.in-Some.is, ← c.from.ensures, ← c.from-in-Some.ensures, ← c.from-in-Some-2.ensures, ← c.from-in-Some-3.ensures, ← c.from-in-Some-4.ensures, ← c.from-in-Some-5.ensures)
    (IsPutBehind-as refl (omega arith) c.write_at.ensures)
