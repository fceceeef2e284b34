use Rattle.std.proofs.Common.{◌∙◌, ◌++◌, ℕ, List, Err, subst, true}
use Rattle.mdmp_source.specs.Output.{PutsAll}
use Rattle.mdmp_source.specs.OutputLaws.{PutsPrefix-front, PutsPrefix-last}
use Rattle.mdmp_summary.specs.BadEntries.{all_items}
use Rattle.mdmp_summary_lines.specs.JsonThreads.{threads_front_text}
use Rattle.mdmp_lister.specs.Format.Name.{plain_name}
use Rattle.mdmp_engines.specs.ObjectRuns.{PrintsWhileRead}
use Rattle.mdmp_engines.specs.SummaryObject.{modules_text, threads_and_end}
use Rattle.mdmp_engines.proofs.ObjectPasses.{leaves_both, leaves_first, leaves_out, out_then, prints_behind, prints_front, reads_both, reads_first, reads_none}
use Rattle.mdmp_engines.proofs.Symbols.{refused_by}
use Rattle.mdmp_engines.proofs.SymbolRooms.{modules_fit, reads_more, within}
use Rattle.mdmp_engines.proofs.summary_json.print_lists.Goals as goal

-- ---- the modules were not all printed

pub returns-in_err-print_modules-clause-prints : goal.returns-in_err-print_modules-clause-prints
returns-in_err-print_modules-clause-prints g c = λ file known.
    let limit = c.args.walker.now.list.limit in
    let summary = c.args.summary.now in
    let more = threads_front_text ++ threads_and_end file summary (plain_name c.args.thread.now) (all_items file limit) in
    let before = g.O.Printer.state c.args.out.now in
    let mid = g.O.Printer.state c.print_modules.new.out in
    let fault = c.in_err-print_modules.field-0.0 in
    let is = refused_by c.from_residual.result fault c.from_residual.ensures.1 in
    rw is (prints_front (Unit {0}) (Unit {0}) fault before mid (modules_text file c.args.symbols true (all_items file limit)) more
    (subst (λ (t : List ℕ). PrintsWhileRead {T = Unit {0}} t before (Err fault) mid) (modules_fit file c.args.symbols _ true (all_items file limit) (c.requires.room.enough file known)) (c.in_err-print_modules.ensures.prints file known)))

pub returns-in_err-print_modules-clause-leaves : goal.returns-in_err-print_modules-clause-leaves
returns-in_err-print_modules-clause-leaves g c =
    let fault = c.in_err-print_modules.field-0.0 in
    let is = refused_by c.from_residual.result fault c.from_residual.ensures.1 in
    rw is (leaves_first c.args.walker.now c.print_modules.new.walker fault c.in_err-print_modules.ensures.leaves)

pub returns-in_err-print_modules-clause-reads : goal.returns-in_err-print_modules-clause-reads
returns-in_err-print_modules-clause-reads g c =
    let fault = c.in_err-print_modules.field-0.0 in
    let is = refused_by c.from_residual.result fault c.from_residual.ensures.1 in
    rw is (reads_first _ _ _ _ _ (reads_more _ _ (within _ _ _ c.requires.room.most c.requires.symbols) _ _ _ _ _ c.in_err-print_modules.ensures.reads))

-- ---- the output refused between the lists

pub returns-in-Err-clause-prints : goal.returns-in-Err-clause-prints
returns-in-Err-clause-prints g c = λ file known.
    let limit = c.args.walker.now.list.limit in
    let modules = modules_text file c.args.symbols true (all_items file limit) in
    let before = g.O.Printer.state c.args.out.now in
    let mid = g.O.Printer.state c.print_modules.new.out in
    let after = g.O.Printer.state c.print_threads_front.new.out in
    let rest = threads_and_end file c.args.summary.now (plain_name c.args.thread.now) (all_items file limit) in
    PutsPrefix-last before mid after modules (threads_front_text ++ rest) (subst (λ (t : List ℕ). PutsAll before t mid) (modules_fit file c.args.symbols _ true (all_items file limit) (c.requires.room.enough file known)) (c.in_ok-print_modules.ensures.prints file known))
    (PutsPrefix-front mid after threads_front_text rest c.in-Err.ensures)

pub returns-in-Err-clause-leaves : goal.returns-in-Err-clause-leaves
returns-in-Err-clause-leaves g c = leaves_out c.args.walker.now c.print_modules.new.walker c.in_ok-print_modules.ensures.leaves

-- ---- the threads and the end

pub returns-clause-prints : goal.returns-clause-prints
returns-clause-prints g c = λ file known.
    let limit = c.args.walker.now.list.limit in
    let before = g.O.Printer.state c.args.out.now in
    let mid = g.O.Printer.state c.print_modules.new.out in
    let front = g.O.Printer.state c.print_threads_front.new.out in
    let after = g.O.Printer.state c.print_threads.new.out in
    let leaves = c.in_ok-print_modules.ensures.leaves in
    let rest = threads_and_end file c.args.summary.now (plain_name c.args.thread.now) (all_items file limit) in
    prints_behind c.print_threads.result before mid after (modules_text file c.args.symbols true (all_items file limit)) (threads_front_text ++ rest) (subst (λ (t : List ℕ). PutsAll before t mid) (modules_fit file c.args.symbols _ true (all_items file limit) (c.requires.room.enough file known)) (c.in_ok-print_modules.ensures.prints file known))
    (prints_behind c.print_threads.result mid front after threads_front_text rest c.in-Ok.ensures
    (rw leaves.same.limit at (c.print_threads.ensures.prints file (leaves.same.same_file.fetches.same_content ∙ known))))

pub returns-clause-leaves : goal.returns-clause-leaves
returns-clause-leaves g c = leaves_both c.args.walker.now c.print_modules.new.walker c.print_threads.new.walker c.print_threads.result c.in_ok-print_modules.ensures.leaves c.print_threads.ensures.leaves

pub returns-in-Err-clause-reads : goal.returns-in-Err-clause-reads
returns-in-Err-clause-reads g c = reads_none _ _ c.args.walker.now.list.counts.aside c.print_modules.new.walker.list.counts.aside c.print_modules.new.walker.list.counts.aside (reads_more _ _ (within _ _ _ c.requires.room.most c.requires.symbols) _ _ _ _ _ c.in_ok-print_modules.ensures.reads) _

pub returns-clause-reads : goal.returns-clause-reads
returns-clause-reads g c =
    let leaves = c.in_ok-print_modules.ensures.leaves in
    reads_both _ _ _ _ _ (reads_more _ _ (within _ _ _ c.requires.room.most c.requires.symbols) _ _ _ _ _ c.in_ok-print_modules.ensures.reads) c.print_threads.result (rw (leaves.same.limit, leaves.same.same_file.fetches.same_content) at c.print_threads.ensures.reads)

pub returns-clause-out_cause : goal.returns-clause-out_cause
returns-clause-out_cause g c =
    let modules = c.in_ok-print_modules.ensures.out_cause in
    let front = c.in-Ok.ensures.steady in
    out_then c.print_threads.result (g.O.Printer.state c.args.out.now) (g.O.Printer.state c.print_threads_front.new.out) (g.O.Printer.state c.print_threads.new.out) (front ∙ modules) c.print_threads.ensures.out_cause
