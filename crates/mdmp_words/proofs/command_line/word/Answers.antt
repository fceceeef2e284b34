use Rattle.std.proofs.Common.{ap, Some, true}
use Rattle.clap.specs.Words.{Rule}
use Rattle.clap.specs.declared.builder.action.ArgAction.TheVariants.{Set}
use Rattle.mdmp_words.proofs.command_line.word.Goals as goal

pub returns-clause-rule : goal.returns-clause-rule
returns-clause-rule c =
    rw (c.help.ensures, c.action.ensures, c.required.ensures) (ap (λ (r : Rule). record r { action = Some Set; required = true }) c.new.ensures.rule)
