use Rattle.std.proofs.Common.{arith, refl}
use Rattle.mdmp_print.proofs.BufferLemmas.{IsPutBehind-as}
use Rattle.mdmp_summary_lines.proofs.json_system.SystemInfoPiece.write_at.Goals as goal

pub returns-in-Some : goal.returns-in-Some
returns-in-Some c = rw (c.in-Some.is, ← c.from.ensures) (IsPutBehind-as refl (omega arith) c.write_at.ensures)
