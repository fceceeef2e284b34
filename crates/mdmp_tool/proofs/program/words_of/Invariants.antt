use Rattle.std.proofs.Common.{◌≡◌}
use Rattle.mdmp_tool.specs.Program.{words_behind}
use Rattle.mdmp_tool.proofs.Wording.{texts}
use Rattle.mdmp_tool.proofs.program.words_of.Given as goal

abbrev pub invariant-loop-number : goal.invariant-loop-number
invariant-loop-number l = words_behind l.args ≡ texts l.args l.words.items l.number
