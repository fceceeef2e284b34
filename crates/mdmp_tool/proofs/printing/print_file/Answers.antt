use Rattle.std.proofs.Common.{◌∙◌, sym}
use Rattle.mdmp_tool.specs.Words.{EndsPrint}
use Rattle.mdmp_tool.proofs.printing.print_file.Goals as goal

pub returns-then-is_input : goal.returns-then-is_input
returns-then-is_input g c = EndsPrint.of_input (sym c.is_input.ensures ∙ c.if-is_input.true) c.print_input.ensures
