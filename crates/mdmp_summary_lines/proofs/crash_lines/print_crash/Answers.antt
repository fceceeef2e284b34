use Rattle.std.proofs.Common.{◌++◌}
use Rattle.std.proofs.lemmas.Result.{MatchResult-from_err}
use Rattle.mdmp_source.specs.OutputLaws.{Puts-behind, PutsPrefix-behind, PutsPrefix-front}
use Rattle.mdmp_summary_lines.specs.CrashText.{details_text, headline_text, thread_name_text}
use Rattle.mdmp_summary_lines.proofs.crash_lines.print_crash.Goals as goal

pub returns-in_err-print_headline : goal.returns-in_err-print_headline
returns-in_err-print_headline g c =
    let crash = c.args.crash.now in
    let rest = thread_name_text c.args.thread.now ++ details_text c.args.system crash.exception.fields crash.reached crash.registers in
    MatchResult-from_err _ _ _ c.from_residual.ensures.0 (λ _. PutsPrefix-front _ _ _ rest c.in_err-print_headline.ensures)

pub returns-in_err-print : goal.returns-in_err-print
returns-in_err-print g c =
    let crash = c.args.crash.now in
    let details = details_text c.args.system crash.exception.fields crash.reached crash.registers in
    MatchResult-from_err _ _ _ c.from_residual-in_err-print.ensures.0
    (λ _. PutsPrefix-behind _ _ _ (headline_text c.args.system crash c.args.owner.now) (thread_name_text c.args.thread.now) details c.in_ok-print_headline.ensures c.in_err-print.ensures)

pub returns : goal.returns
returns g c =
    let crash = c.args.crash.now in
    let details = details_text c.args.system crash.exception.fields crash.reached crash.registers in
    Puts-behind _ _ _ _ (headline_text c.args.system crash c.args.owner.now) (thread_name_text c.args.thread.now ++ details) c.in_ok-print_headline.ensures
    (Puts-behind _ _ _ _ (thread_name_text c.args.thread.now) details c.in_ok-print.ensures c.print-2.ensures)
