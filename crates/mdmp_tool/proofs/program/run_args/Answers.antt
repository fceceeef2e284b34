use Rattle.std.proofs.Common.{◌∙◌, ap, map, refl}
use Rattle.mdmp_tool.specs.Program.{EndsGiven, words_behind}
use Rattle.mdmp_tool.proofs.program.run_args.Goals as goal

pub returns-in-Ok-words_of-clause-given : goal.returns-in-Ok-words_of-clause-given
returns-in-Ok-words_of-clause-given g c =
    rw c.in-Ok.is
    (EndsGiven.run c.deref-in-Ok-words_of.result.now (ap (map (λ word. word.now)) c.deref-in-Ok-words_of.ensures.value ∙ c.in-Ok-words_of.ensures ∙ ap words_behind c.deref.ensures.value) c.run_on_disk.ensures)

pub returns-in-Ok-words_of-clause-unread : goal.returns-in-Ok-words_of-clause-unread
returns-in-Ok-words_of-clause-unread g c = rw c.in-Ok.is tt

pub returns-in-Err-clause-given : goal.returns-in-Err-clause-given
returns-in-Err-clause-given g c = rw c.in-Err.is tt

pub returns-in-Err-clause-unread : goal.returns-in-Err-clause-unread
returns-in-Err-clause-unread g c = rw c.in-Err.is (refl, rw c.kind.ensures at (c.refuse_args.ensures (g.O.Out.state c.args.out.now)))
