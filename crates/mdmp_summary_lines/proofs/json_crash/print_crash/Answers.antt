use Rattle.std.proofs.lemmas.Result.{MatchResult-from_err}
use Rattle.mdmp_source.specs.OutputLaws.{Puts-behind, PutsPrefix-front}
use Rattle.mdmp_summary_lines.specs.JsonCrash.{crash_front_text, crash_places_text}
use Rattle.mdmp_summary_lines.proofs.json_crash.print_crash.Goals as goal

pub returns-in_err-print_around : goal.returns-in_err-print_around
returns-in_err-print_around g c =
    MatchResult-from_err _ _ _ c.from_residual.ensures.0
    (λ _. PutsPrefix-front _ _ _ (crash_places_text c.args.crash.now c.args.owner.now) c.in_err-print_around.ensures)

pub returns : goal.returns
returns g c =
    Puts-behind _ _ _ _ (crash_front_text c.args.system c.args.crash.now c.args.thread.now) (crash_places_text c.args.crash.now c.args.owner.now)
    c.in_ok-print_around.ensures c.print_places.ensures
