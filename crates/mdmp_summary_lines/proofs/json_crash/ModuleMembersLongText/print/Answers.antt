use Rattle.std.proofs.lemmas.Result.{MatchResult-from_err}
use Rattle.mdmp_source.specs.OutputLaws.{Puts-behind, PutsPrefix-front}
use Rattle.mdmp_summary_lines.specs.JsonCrash.{file_and_version_text, whole_name_text}
use Rattle.mdmp_summary_lines.proofs.json_crash.ModuleMembersLongText.print.Goals as goal

pub returns-in_err-print_around : goal.returns-in_err-print_around
returns-in_err-print_around g c =
    let t = c.args.self.now in
    MatchResult-from_err _ _ _ c.from_residual.ensures.0
    (λ _. PutsPrefix-front _ _ _ (file_and_version_text t.fields t.name.now) c.in_err-print_around.ensures)

pub returns : goal.returns
returns g c =
    let t = c.args.self.now in
    Puts-behind _ _ _ _ (whole_name_text t.name.now) (file_and_version_text t.fields t.name.now) c.in_ok-print_around.ensures c.print_around-2.ensures
