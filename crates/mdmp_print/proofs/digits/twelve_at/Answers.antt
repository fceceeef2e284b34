use Rattle.std.proofs.Common.{refl, arith}
use Rattle.mdmp_print.proofs.DigitPairs.{decimal_eight}
use Rattle.mdmp_print.proofs.BufferLemmas.{IsPutBehind-as, IsPutBehind-then}
use Rattle.mdmp_print.proofs.digits.twelve_at.Goals as goal

pub returns : goal.returns
returns c = IsPutBehind-as (decimal_eight c.args.number _ _ c.if-number-lt100000000.false (omega arith) refl refl) (omega arith) (IsPutBehind-then c.four_at-len.ensures c.last_eight_at.ensures)
