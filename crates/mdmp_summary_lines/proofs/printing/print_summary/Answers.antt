use Rattle.std.proofs.Common.{◌++◌}
use Rattle.std.proofs.lemmas.Result.{MatchResult-from_err}
use Rattle.mdmp_source.specs.OutputLaws.{Puts-behind, PutsPrefix-behind, PutsPrefix-front, PutsPrefix-last}
use Rattle.mdmp_summary_lines.specs.SummaryText.{first_text, named_file, program_text, tail_text}
use Rattle.mdmp_summary_lines.proofs.printing.print_summary.Goals as goal

pub returns-in_err-print_around : goal.returns-in_err-print_around
returns-in_err-print_around g c =
    let s = c.args.summary.now in
    let rest = first_text s c.args.names.now ++ (program_text s.program c.args.names.now.program ++ tail_text s) in
    MatchResult-from_err _ _ _ c.from_residual.ensures.0 (λ _. PutsPrefix-front _ _ _ rest c.in_err-print_around.ensures)

pub returns-in_err-print_first : goal.returns-in_err-print_first
returns-in_err-print_first g c =
    let s = c.args.summary.now in
    MatchResult-from_err _ _ _ c.from_residual-in_err-print_first.ensures.0
    (λ _. PutsPrefix-behind _ _ _ (named_file c.args.file.now) (first_text s c.args.names.now) (program_text s.program c.args.names.now.program ++ tail_text s)
    c.in_ok-print_around.ensures c.in_err-print_first.ensures)

pub returns-in_err-print_program : goal.returns-in_err-print_program
returns-in_err-print_program g c =
    let s = c.args.summary.now in
    let program = program_text s.program c.args.names.now.program in
    MatchResult-from_err _ _ _ c.from_residual-in_err-print_program.ensures.0
    (λ _. PutsPrefix-last _ _ _ (named_file c.args.file.now) (first_text s c.args.names.now ++ (program ++ tail_text s)) c.in_ok-print_around.ensures
    (PutsPrefix-behind _ _ _ (first_text s c.args.names.now) program (tail_text s) c.in_ok-print_first.ensures c.in_err-print_program.ensures))

pub returns : goal.returns
returns g c =
    let s = c.args.summary.now in
    let program = program_text s.program c.args.names.now.program in
    Puts-behind _ _ _ _ (named_file c.args.file.now) (first_text s c.args.names.now ++ (program ++ tail_text s)) c.in_ok-print_around.ensures
    (Puts-behind _ _ _ _ (first_text s c.args.names.now) (program ++ tail_text s) c.in_ok-print_first.ensures
    (Puts-behind _ _ _ _ program (tail_text s) c.in_ok-print_program.ensures c.print_tail.ensures))
