use Rattle.std.proofs.Common.{◌≡◌, ◌∙◌, ℕ, List, ap, subst, sym}
use Rattle.mdmp_source.specs.Output.{PutsAll, PutsPrefix}
use Rattle.mdmp_summary_lines.specs.SummaryText.{summary_text}
use Rattle.mdmp_engines.specs.KeptNames.{kept_names}
use Rattle.mdmp_engines.proofs.SummaryNames.{summary-plain}
use Rattle.mdmp_engines.proofs.summary.print_named.Goals as goal

pub returns-in-Ok-clause-text : goal.returns-in-Ok-clause-text
returns-in-Ok-clause-text g c =
    let text : summary_text c.args.file.now c.args.summary.now c.lend.result ≡ summary_text c.args.file.now c.args.summary.now (kept_names c.args.names.now) =
    sym (summary-plain c.args.file.now c.args.summary.now c.lend.result) ∙ ap (summary_text c.args.file.now c.args.summary.now) c.lend.ensures in
    subst (λ (t : List ℕ). PutsAll (g.O.Printer.state c.args.out.now) t (g.O.Printer.state c.print_summary.new.out)) text c.in-Ok.ensures

pub returns-in-Err-clause-text : goal.returns-in-Err-clause-text
returns-in-Err-clause-text g c =
    let text : summary_text c.args.file.now c.args.summary.now c.lend.result ≡ summary_text c.args.file.now c.args.summary.now (kept_names c.args.names.now) =
    sym (summary-plain c.args.file.now c.args.summary.now c.lend.result) ∙ ap (summary_text c.args.file.now c.args.summary.now) c.lend.ensures in
    subst (λ (t : List ℕ). PutsPrefix (g.O.Printer.state c.args.out.now) t (g.O.Printer.state c.print_summary.new.out)) text c.in-Err.ensures
