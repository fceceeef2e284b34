use Rattle.std.proofs.Common.{◌++◌}
use Rattle.std.proofs.lemmas.Result.{MatchResult-from_err}
use Rattle.mdmp_source.specs.OutputLaws.{PutsPrefix-behind, PutsPrefix-front, Puts-behind}
use Rattle.mdmp_print.proofs.Printing.{Puts-as}
use Rattle.mdmp_print.proofs.text.print_around.Goals as goal

pub returns-in_err-print : goal.returns-in_err-print
returns-in_err-print g c =
    let rest = g.T.LongText.text c.args.middle.now ++ g.Q.Piece.text c.args.end.now in
    Puts-as _ _ _ _ _ (MatchResult-from_err _ _ _ c.from_residual.ensures.0
    (λ _. PutsPrefix-front _ _ _ rest c.in_err-print.ensures)) (g.met.P.Piece.joined c.args.front.now rest)

pub returns-in_err-print-2 : goal.returns-in_err-print-2
returns-in_err-print-2 g c =
    Puts-as _ _ _ _ _ (MatchResult-from_err _ _ _ c.from_residual-in_err-print-2.ensures.0
    (λ _. PutsPrefix-behind _ _ _ _ _ (g.Q.Piece.text c.args.end.now) c.in_ok-print.ensures c.in_err-print-2.ensures)) (g.met.P.Piece.joined c.args.front.now _)

pub returns : goal.returns
returns g c =
    Puts-as _ _ _ _ _ (Puts-behind _ _ _ _ _ _ c.in_ok-print.ensures (Puts-behind _ _ _ _ _ _ c.in_ok-print-2.ensures c.print-3.ensures))
    (g.met.P.Piece.joined c.args.front.now _)
