use Rattle.std.proofs.Common.{arith}
use Rattle.mdmp_print.proofs.DigitPairs.{row_digits}
use Rattle.mdmp_print.proofs.BufferLemmas.{IsPutBehind-as}
use Rattle.mdmp_print.proofs.digits.last_two_at.Goals as goal

pub returns : goal.returns
returns c = IsPutBehind-as (row_digits c.args.number c.requires.small) (omega arith) c.text_at.ensures
