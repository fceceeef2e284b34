use Rattle.std.proofs.Common.{codes, ◌++◌}
use Rattle.std.proofs.lemmas.Result.{MatchResult-from_err}
use Rattle.mdmp_source.specs.OutputLaws.{Puts-behind, PutsPrefix-front}
use Rattle.mdmp_summary_lines.specs.JsonCrash.{place_object_text}
use Rattle.mdmp_summary_lines.proofs.json_crash.print_places.Goals as goal

pub returns-in_err-print : goal.returns-in_err-print
returns-in_err-print g c =
    let crash = c.args.crash.now in
    let near = codes ",\"near\":" ++ (place_object_text crash.near c.args.owner.now ++ codes "}") in
    MatchResult-from_err _ _ _ c.from_residual.ensures.0 (λ _. PutsPrefix-front _ _ _ near c.in_err-print.ensures)

pub returns : goal.returns
returns g c =
    let crash = c.args.crash.now in
    let near = codes ",\"near\":" ++ (place_object_text crash.near c.args.owner.now ++ codes "}") in
    Puts-behind _ _ _ _ (place_object_text crash.holder c.args.owner.now) near c.in_ok-print.ensures c.print_around.ensures
