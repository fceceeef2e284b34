use Rattle.std.proofs.Common.{◌≡◌, ap₂, Some, Option, rules}
use Rattle.clap.specs.Lexer.{usize_max}
use Rattle.clap.specs.Words.{Rule}
use Rattle.clap.specs.declared.builder.action.ArgAction.TheVariants.{Append}
use Rattle.clap.specs.declared.builder.range.ValueRange.{ValueRange}
use Rattle.mdmp_words.proofs.command_line.words.Goals as goal

pub returns-clause-rule : goal.returns-clause-rule
returns-clause-rule c =
    let range : c.num_args.result.num_vals ≡ Some (record { start_inclusive = 1; end_inclusive = usize_max }) = search rules in
    rw (c.num_args.ensures.0, c.action.ensures)
    (ap₂ (λ (r : Rule) (n : Option ValueRange). record r { action = Some Append; range = n }) c.word.ensures.rule range)
