use Rattle.std.proofs.Common.{refl, arith}
use Rattle.mdmp_print.proofs.DigitPairs.{digits_more}
use Rattle.mdmp_print.proofs.BufferLemmas.{IsPutBehind-as, IsPutBehind-then}
use Rattle.mdmp_print.proofs.digits.last_four_at.Goals as goal

pub returns : goal.returns
returns c = IsPutBehind-as (digits_more 2 c.args.number _ _ refl refl) (omega arith) (IsPutBehind-then c.last_two_at-len.ensures c.last_two_at.ensures)
