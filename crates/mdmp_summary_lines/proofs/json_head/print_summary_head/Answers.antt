use Rattle.std.proofs.Common.{◌++◌}
use Rattle.std.proofs.lemmas.Result.{MatchResult-from_err}
use Rattle.mdmp_source.specs.OutputLaws.{Puts-behind, PutsPrefix-behind, PutsPrefix-front}
use Rattle.mdmp_summary_lines.specs.JsonHead.{before_program_text, file_member_text, from_program_text}
use Rattle.mdmp_summary_lines.proofs.json_head.print_summary_head.Goals as goal

pub returns-in_err-print_around : goal.returns-in_err-print_around
returns-in_err-print_around g c =
    let s = c.args.summary.now in
    let rest = before_program_text s c.args.names.now ++ from_program_text s c.args.names.now.program in
    MatchResult-from_err _ _ _ c.from_residual.ensures.0 (λ _. PutsPrefix-front _ _ _ rest c.in_err-print_around.ensures)

pub returns-in_err-print_before_program : goal.returns-in_err-print_before_program
returns-in_err-print_before_program g c =
    let s = c.args.summary.now in
    MatchResult-from_err _ _ _ c.from_residual-in_err-print_before_program.ensures.0
    (λ _. PutsPrefix-behind _ _ _ (file_member_text c.args.file.now) (before_program_text s c.args.names.now) (from_program_text s c.args.names.now.program)
    c.in_ok-print_around.ensures c.in_err-print_before_program.ensures)

pub returns : goal.returns
returns g c =
    let s = c.args.summary.now in
    let program = from_program_text s c.args.names.now.program in
    Puts-behind _ _ _ _ (file_member_text c.args.file.now) (before_program_text s c.args.names.now ++ program) c.in_ok-print_around.ensures
    (Puts-behind _ _ _ _ (before_program_text s c.args.names.now) program c.in_ok-print_before_program.ensures c.print_from_program.ensures)
