use Rattle.std.proofs.Common.{[]}
use Rattle.std.proofs.lemmas.Result.{MatchResult-from_err}
use Rattle.mdmp_source.specs.OutputLaws.{PutsPrefix-front}
use Rattle.mdmp_print.proofs.line_out.LineOutPrinter.print_part.Goals as goal

pub returns-in_err-reserve-clause-puts : goal.returns-in_err-reserve-clause-puts
returns-in_err-reserve-clause-puts g c =
    MatchResult-from_err _ _ _ c.from_residual.ensures.0 (λ _. PutsPrefix-front _ _ [] (g.T.Parts.text_from c.args.text.now c.args.place) c.in_err-reserve.ensures.nothing)
