use Rattle.std.proofs.Common.{ap, codes}
use Rattle.std.proofs.lemmas.Result.{IfOk-weaker}
use Rattle.clap.specs.Words.{App}
use Rattle.mdmp_words.specs.CommandLine.{flag, words}
use Rattle.mdmp_words.proofs.command_line.summary_command.Goals as goal

pub returns-clause-shape : goal.returns-clause-shape
returns-clause-shape c =
    let made0 = c.described-made.ensures in
    let made1 = c.with_arg-made.ensures _ (words (codes "FILE")) made0 c.words.ensures.rule c.words.ensures.local in
    let made2 = c.with_arg-made-2.ensures _ (flag (codes "json")) made1 c.flag.ensures.rule c.flag.ensures.local in
    IfOk-weaker c.with_limits.result _ _ (λ made is. ap (λ (a : App). a.top) is.app_is) (c.with_limits.ensures _ made2)

pub returns-clause-local : goal.returns-clause-local
returns-clause-local c =
    let made0 = c.described-made.ensures in
    let made1 = c.with_arg-made.ensures _ (words (codes "FILE")) made0 c.words.ensures.rule c.words.ensures.local in
    let made2 = c.with_arg-made-2.ensures _ (flag (codes "json")) made1 c.flag.ensures.rule c.flag.ensures.local in
    IfOk-weaker c.with_limits.result _ _ (λ made is. is.local) (c.with_limits.ensures _ made2)
