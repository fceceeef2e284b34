use Rattle.std.proofs.Common.{refl, arith}
use Rattle.mdmp_print.proofs.DigitPairs.{decimal_four}
use Rattle.mdmp_print.proofs.BufferLemmas.{IsPutBehind-as, IsPutBehind-then}
use Rattle.mdmp_print.proofs.digits.six_at.Goals as goal

pub returns : goal.returns
returns c = IsPutBehind-as (decimal_four c.args.number _ _ c.if-number-lt10000.false (omega arith) refl refl) (omega arith) (IsPutBehind-then c.two_at-len.ensures c.last_four_at.ensures)
