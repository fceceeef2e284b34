use Rattle.std.proofs.Common.{arith, refl}
use Rattle.mdmp_print.proofs.BufferLemmas.{IsPutBehind-as}
use Rattle.mdmp_engines.proofs.fault_words.ReadWordsPiece.write_at.Goals as goal

pub returns-in-PartOutside : goal.returns-in-PartOutside
returns-in-PartOutside c = rw c.in-PartOutside.is (IsPutBehind-as refl (omega arith) c.write_at-in-PartOutside.ensures)
