use Rattle.std.proofs.Common.{◌+◌, arith, length-set}
use Rattle.std.proofs.lemmas.Fmt.{decimal_digit}
use Rattle.std.proofs.lemmas.List.{take_more_set}
use Rattle.mdmp_print.proofs.DigitPairs.{decimal_two}
use Rattle.mdmp_print.proofs.BufferLemmas.{IsPutBehind-as}
use Rattle.mdmp_print.proofs.digits.two_at.Goals as goal

pub returns-then-number-lt10 : goal.returns-then-number-lt10
returns-then-number-lt10 c =
    let n = c.args.number in
    record {
      text = rw (decimal_digit n c.if-number-lt10.true) (take_more_set c.args.text.now c.args.len (48 + n) (omega arith));
      within = omega arith;
      same = length-set c.args.text.now c.args.len (48 + n);
    }

pub returns-else-number-lt10 : goal.returns-else-number-lt10
returns-else-number-lt10 c = IsPutBehind-as (decimal_two c.args.number c.if-number-lt10.false c.requires.small) (omega arith) c.last_two_at.ensures
