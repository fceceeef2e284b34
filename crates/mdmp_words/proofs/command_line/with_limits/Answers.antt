use Rattle.std.proofs.Common.{codes}
use Rattle.mdmp_words.specs.CommandLine.{flag, number_option}
use Rattle.mdmp_words.proofs.command_line.with_limits.Goals as goal

pub returns : goal.returns
returns c = λ app made.
    let made1 = c.with_arg-made.ensures app (number_option (codes "window")) made c.number_option.ensures.rule c.number_option.ensures.local in
    let made2 = c.with_arg-made-2.ensures _ (number_option (codes "name")) made1 c.number_option-2.ensures.rule c.number_option-2.ensures.local in
    let made3 = c.with_arg-made-3.ensures _ (number_option (codes "budget")) made2 c.number_option-3.ensures.rule c.number_option-3.ensures.local in
    let made4 = c.with_arg-made-4.ensures _ (number_option (codes "memory")) made3 c.number_option-4.ensures.rule c.number_option-4.ensures.local in
    c.with_arg.ensures _ (flag (codes "untrusted")) made4 c.flag.ensures.rule c.flag.ensures.local
