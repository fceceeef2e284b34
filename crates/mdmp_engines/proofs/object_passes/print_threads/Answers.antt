use Rattle.std.proofs.Common.{rules, ◌∙◌, ◌++◌, [], ℕ, append-nil, None, Option, Err, ap, subst, sym}
use Rattle.mdmp_source.specs.Output.{OutState, PutsAll, PutsPrefix}
use Rattle.mdmp_source.specs.OutputLaws.{PutsAll-PutsAll, PutsPrefix-last}
use Rattle.mdmp_lister.specs.Format.Name.{plain_name}
use Rattle.mdmp_summary.specs.BadEntries.{all_items}
use Rattle.mdmp_summary_lines.specs.JsonEnd.{summary_end_text}
use Rattle.mdmp_engines.specs.ObjectRuns.{PrintsWhileRead}
use Rattle.mdmp_engines.specs.SummaryObject.{crashed_id, found_among, threads_text}
use Rattle.mdmp_engines.proofs.ObjectPasses.{prints_front, refused_pass}
use Rattle.mdmp_engines.proofs.Symbols.{refused_by}
use Rattle.mdmp_engines.proofs.object_passes.print_threads.Goals as goal

-- ---- the threads were not all printed

pub returns-in_err-show_threads-clause-prints : goal.returns-in_err-show_threads-clause-prints
returns-in_err-show_threads-clause-prints g c = λ file known.
    let summary = c.args.summary.now in
    let items = all_items file c.args.walker.now.list.limit in
    let id = crashed_id summary.crash in
    let before = g.O.Printer.state c.args.out.now in
    let mid = g.O.Printer.state c.show_threads.new.objects.out.now in
    let fault = c.in_err-show_threads.field-0.0 in
    let is = refused_by c.from_residual.result fault c.from_residual.ensures.1 in
    rw is (subst (λ (o : OutState). PrintsWhileRead {T = Unit {0}} (threads_text file (record { system = summary.system; id = id; name = plain_name c.args.thread.now }) 0 items ++ summary_end_text summary.crash summary.system (found_among id 0 None items)) before (Err fault) o)
    (ap g.O.Printer.state (search (c.show_threads.ensures.same_output, rules)))
    (prints_front (Unit {0}) (Unit {0}) fault before mid (threads_text file (record { system = summary.system; id = id; name = plain_name c.args.thread.now }) 0 items)
    (summary_end_text summary.crash summary.system (found_among id 0 None items))
    (subst (λ (i : Option ℕ). PrintsWhileRead {T = Unit {0}} (threads_text file (record { system = summary.system; id = i; name = plain_name c.args.thread.now }) 0 items) before (Err fault) mid) c.crashed_thread.ensures
    (c.in_err-show_threads.ensures.prints file known))))

-- ---- they were

pub returns-in-Ok-clause-prints : goal.returns-in-Ok-clause-prints
returns-in-Ok-clause-prints g c = λ file known.
    let summary = c.args.summary.now in
    let items = all_items file c.args.walker.now.list.limit in
    let id = crashed_id summary.crash in
    let shown = c.in_ok-show_threads.ensures in
    let mid = g.O.Printer.state c.show_threads.new.objects.out.now in
    let found = shown.found file known ∙ ap (λ (i : Option ℕ). found_among i 0 None items) c.crashed_thread.ensures in
    PutsAll-PutsAll (g.O.Printer.state c.args.out.now) mid (g.O.Printer.state c.print_summary_end.new.out) (threads_text file (record { system = summary.system; id = id; name = plain_name c.args.thread.now }) 0 items)
    (summary_end_text summary.crash summary.system (found_among id 0 None items))
    (subst (λ (i : Option ℕ). PutsAll (g.O.Printer.state c.args.out.now) (threads_text file (record { system = summary.system; id = i; name = plain_name c.args.thread.now }) 0 items) mid) c.crashed_thread.ensures (shown.prints file known))
    (subst (λ (i : Option ℕ). PutsAll mid (summary_end_text summary.crash summary.system i) (g.O.Printer.state c.print_summary_end.new.out)) found (subst (λ (o : OutState). PutsAll o (summary_end_text summary.crash summary.system c.show_threads.new.objects.found) (g.O.Printer.state c.print_summary_end.new.out)) (ap g.O.Printer.state (search (c.show_threads.ensures.same_output, rules))) c.in-Ok.ensures))

pub returns-in-Err-clause-prints : goal.returns-in-Err-clause-prints
returns-in-Err-clause-prints g c = λ file known.
    let summary = c.args.summary.now in
    let items = all_items file c.args.walker.now.list.limit in
    let id = crashed_id summary.crash in
    let shown = c.in_ok-show_threads.ensures in
    let mid = g.O.Printer.state c.show_threads.new.objects.out.now in
    let found = shown.found file known ∙ ap (λ (i : Option ℕ). found_among i 0 None items) c.crashed_thread.ensures in
    PutsPrefix-last (g.O.Printer.state c.args.out.now) mid (g.O.Printer.state c.print_summary_end.new.out) (threads_text file (record { system = summary.system; id = id; name = plain_name c.args.thread.now }) 0 items)
    (summary_end_text summary.crash summary.system (found_among id 0 None items))
    (subst (λ (i : Option ℕ). PutsAll (g.O.Printer.state c.args.out.now) (threads_text file (record { system = summary.system; id = i; name = plain_name c.args.thread.now }) 0 items) mid) c.crashed_thread.ensures (shown.prints file known))
    (subst (λ (i : Option ℕ). PutsPrefix mid (summary_end_text summary.crash summary.system i) (g.O.Printer.state c.print_summary_end.new.out)) found (subst (λ (o : OutState). PutsPrefix o (summary_end_text summary.crash summary.system c.show_threads.new.objects.found) (g.O.Printer.state c.print_summary_end.new.out)) (ap g.O.Printer.state (search (c.show_threads.ensures.same_output, rules))) c.in-Err.ensures))

pub returns-in-Err-clause-leaves : goal.returns-in-Err-clause-leaves
returns-in-Err-clause-leaves g c = refused_pass c.args.walker.now _ c.in_ok-show_threads.ensures.leaves

pub returns-in-Err-clause-reads : goal.returns-in-Err-clause-reads
returns-in-Err-clause-reads g c =
    let reads = c.in_ok-show_threads.ensures.reads in
    record { items = reads.items; outside = reads.outside; all = λ file known. ([], reads.all file known ∙ sym (append-nil reads.items)) }
