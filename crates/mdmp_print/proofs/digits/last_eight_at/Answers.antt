use Rattle.std.proofs.Common.{refl, arith}
use Rattle.mdmp_print.proofs.DigitPairs.{four_more}
use Rattle.mdmp_print.proofs.BufferLemmas.{IsPutBehind-as, IsPutBehind-then}
use Rattle.mdmp_print.proofs.digits.last_eight_at.Goals as goal

pub returns : goal.returns
returns c = IsPutBehind-as (four_more 4 c.args.number _ _ refl refl) (omega arith) (IsPutBehind-then c.last_four_at-len.ensures c.last_four_at.ensures)
