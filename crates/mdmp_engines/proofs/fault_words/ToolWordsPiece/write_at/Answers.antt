use Rattle.std.proofs.Common.{arith, refl}
use Rattle.mdmp_print.proofs.BufferLemmas.{IsPutBehind-as}
use Rattle.mdmp_engines.proofs.fault_words.ToolWordsPiece.write_at.Goals as goal

pub returns-in-AsideLimit : goal.returns-in-AsideLimit
returns-in-AsideLimit c = rw c.in-AsideLimit.is (IsPutBehind-as refl (omega arith) c.write_at-in-AsideLimit.ensures)
