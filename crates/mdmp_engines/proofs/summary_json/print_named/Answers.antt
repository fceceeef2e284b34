use Rattle.std.proofs.Common.{◌≡◌, ◌∙◌, ℕ, List, Err, ap, refl, subst, sym}
use Rattle.mdmp_source.specs.Output.{PutsAll, PutsPrefix}
use Rattle.mdmp_source.specs.OutputLaws.{PutsAll-PutsAll, PutsPrefix-front}
use Rattle.mdmp_lister.specs.declared.name.Name.{Name}
use Rattle.mdmp_summary.specs.BadEntries.{all_items}
use Rattle.mdmp_summary_lines.specs.JsonHead.{summary_head_text}
use Rattle.mdmp_engines.specs.KeptNames.{kept_names}
use Rattle.mdmp_engines.specs.ObjectRuns.{PrintsWhileRead}
use Rattle.mdmp_engines.specs.SummaryObject.{lists_text}
use Rattle.mdmp_engines.proofs.HeadNames.{head-plain}
use Rattle.mdmp_engines.proofs.ObjectPasses.{leaves_none, prints_answer, reads_neither}
use Rattle.mdmp_engines.proofs.summary_json.print_named.Goals as goal

-- ---- the output refused before the lists

pub returns-in-Err-clause-prints : goal.returns-in-Err-clause-prints
returns-in-Err-clause-prints g c = λ bytes known.
    let names = c.args.names.now in
    let summary = c.args.summary.now in
    let limit = c.args.walker.now.list.limit in
    let before = g.O.Printer.state c.args.out.now in
    let after = g.O.Printer.state c.print_summary_head.new.out in
    let head : summary_head_text c.args.file.now summary c.lend-told.result ≡ summary_head_text c.args.file.now summary (kept_names names) =
    sym (head-plain c.args.file.now summary c.lend-told.result) ∙ ap (summary_head_text c.args.file.now summary) c.lend-told.ensures in
    PutsPrefix-front before after (summary_head_text c.args.file.now summary (kept_names names)) (lists_text bytes c.args.symbols summary (kept_names names).thread (all_items bytes limit))
    (subst (λ (t : List ℕ). PutsPrefix before t after) head c.in-Err.ensures)

pub returns-in-Err-clause-leaves : goal.returns-in-Err-clause-leaves
returns-in-Err-clause-leaves g c = leaves_none c.args.walker.now

pub returns-in-Err-clause-reads : goal.returns-in-Err-clause-reads
returns-in-Err-clause-reads g c = reads_neither _ _ _ c.args.walker.now.list.counts.aside

-- ---- the lists

pub returns-in-Ok-print_lists-clause-prints : goal.returns-in-Ok-print_lists-clause-prints
returns-in-Ok-print_lists-clause-prints g c = λ bytes known.
    let names = c.args.names.now in
    let summary = c.args.summary.now in
    let limit = c.args.walker.now.list.limit in
    let before = g.O.Printer.state c.args.out.now in
    let mid = g.O.Printer.state c.print_summary_head.new.out in
    let after = g.O.Printer.state c.print_lists.new.out in
    let head : summary_head_text c.args.file.now summary c.lend-told.result ≡ summary_head_text c.args.file.now summary (kept_names names) =
    sym (head-plain c.args.file.now summary c.lend-told.result) ∙ ap (summary_head_text c.args.file.now summary) c.lend-told.ensures in (
      refl,
      PutsAll-PutsAll before mid after (summary_head_text c.args.file.now summary (kept_names names)) (lists_text bytes c.args.symbols summary (kept_names names).thread (all_items bytes limit))
          (subst (λ (t : List ℕ). PutsAll before t mid) head c.in-Ok.ensures)
          (subst (λ (n : Name). PutsAll mid (lists_text bytes c.args.symbols summary n (all_items bytes limit)) after) c.lend-thread.ensures (c.in-Ok-print_lists.ensures.prints bytes known)),
    )

pub returns-in-Err-print_lists-clause-prints : goal.returns-in-Err-print_lists-clause-prints
returns-in-Err-print_lists-clause-prints g c = λ bytes known.
    let names = c.args.names.now in
    let summary = c.args.summary.now in
    let limit = c.args.walker.now.list.limit in
    let before = g.O.Printer.state c.args.out.now in
    let mid = g.O.Printer.state c.print_summary_head.new.out in
    let after = g.O.Printer.state c.print_lists.new.out in
    let fault = c.in-Err-print_lists.fault in
    let head : summary_head_text c.args.file.now summary c.lend-told.result ≡ summary_head_text c.args.file.now summary (kept_names names) =
    sym (head-plain c.args.file.now summary c.lend-told.result) ∙ ap (summary_head_text c.args.file.now summary) c.lend-told.ensures in
    prints_answer (Unit {0}) summary.bad.count fault before mid after (summary_head_text c.args.file.now summary (kept_names names)) (lists_text bytes c.args.symbols summary (kept_names names).thread (all_items bytes limit))
    (subst (λ (t : List ℕ). PutsAll before t mid) head c.in-Ok.ensures)
    (subst (λ (n : Name). PrintsWhileRead {T = Unit {0}} (lists_text bytes c.args.symbols summary n (all_items bytes limit)) mid (Err fault) after) c.lend-thread.ensures (c.in-Err-print_lists.ensures.prints bytes known))
