use Rattle.std.proofs.Common.{List, ℕ, length, subst, sym}
use Rattle.std.specs.Prelude.{Result}
use Rattle.mdmp_summary.specs.BadEntries.{all_items}
use Rattle.mdmp_engines.specs.Causes.{HasOutCause}
use Rattle.mdmp_engines.specs.ObjectRuns.{PrintsWhileRead, ReadsItems, outcome_told}
use Rattle.mdmp_engines.specs.ObjectVisits.{module_room}
use Rattle.mdmp_engines.specs.SummaryObject.{modules_text}
use Rattle.mdmp_engines.specs.declared.fault.ToolFault.{ToolFault}
use Rattle.mdmp_engines.proofs.Objects.{module_looked, module_one, module_refused, module_short, module_steady, module_stop, module_taken, module_unread, modules_of, modules_seen, next_module, put_module}
use Rattle.mdmp_engines.proofs.ObjectsTold.{are_items, outcome_name, outcome_out, prints_outcome}
use Rattle.mdmp_engines.proofs.object_passes.show_modules.Goals as goal

pub returns-clause-same_output : goal.returns-clause-same_output
returns-clause-same_output g c =
    let shows = c.show_all.ensures.shows in
    let content = c.args.walker.now.list.source.store.content in
    let k = c.args.objects.now in
    let l = c.show_all.new.visitor in
    outcome_name (λ k. g.O.Printer.state k.out.now) (λ k. k.out.ghost_name) (module_taken (λ k. record { out = g.O.Printer.state k.out.now; begun = k.begun; is_first = k.is_first; room = length k.buffer.now.items }) (λ k. k.out.ghost_name) content) (module_looked (λ k. record { out = g.O.Printer.state k.out.now; begun = k.begun; is_first = k.is_first; room = length k.buffer.now.items }) (λ k. k.out.ghost_name) content) (module_steady (λ k. record { out = g.O.Printer.state k.out.now; begun = k.begun; is_first = k.is_first; room = length k.buffer.now.items }) (λ k. k.out.ghost_name) content) (module_refused (λ k. record { out = g.O.Printer.state k.out.now; begun = k.begun; is_first = k.is_first; room = length k.buffer.now.items }) (λ k. k.out.ghost_name) content) (module_unread (λ k. record { out = g.O.Printer.state k.out.now; begun = k.begun; is_first = k.is_first; room = length k.buffer.now.items }) (λ k. k.out.ghost_name) content) shows.visits.items shows.outcome k l shows.visits.visited

pub returns-clause-out_cause : goal.returns-clause-out_cause
returns-clause-out_cause g c =
    let shows = c.show_all.ensures.shows in
    let content = c.args.walker.now.list.source.store.content in
    let k = c.args.objects.now in
    let l = c.show_all.new.visitor in
    subst (λ (r : Result (Unit {0}) ToolFault). HasOutCause (g.O.Printer.state k.out.now) r (g.O.Printer.state l.out.now)) (sym shows.told)
    (outcome_out (λ k. g.O.Printer.state k.out.now) (λ k. k.out.ghost_name) (module_taken (λ k. record { out = g.O.Printer.state k.out.now; begun = k.begun; is_first = k.is_first; room = length k.buffer.now.items }) (λ k. k.out.ghost_name) content) (module_looked (λ k. record { out = g.O.Printer.state k.out.now; begun = k.begun; is_first = k.is_first; room = length k.buffer.now.items }) (λ k. k.out.ghost_name) content) (module_steady (λ k. record { out = g.O.Printer.state k.out.now; begun = k.begun; is_first = k.is_first; room = length k.buffer.now.items }) (λ k. k.out.ghost_name) content) (module_refused (λ k. record { out = g.O.Printer.state k.out.now; begun = k.begun; is_first = k.is_first; room = length k.buffer.now.items }) (λ k. k.out.ghost_name) content) (module_unread (λ k. record { out = g.O.Printer.state k.out.now; begun = k.begun; is_first = k.is_first; room = length k.buffer.now.items }) (λ k. k.out.ghost_name) content) shows.visits.items shows.outcome k l shows.visits.visited shows.unread)

pub returns-clause-prints : goal.returns-clause-prints
returns-clause-prints g c = λ file known.
    let shows = c.show_all.ensures.shows in
    let content = c.args.walker.now.list.source.store.content in
    let k = c.args.objects.now in
    let l = c.show_all.new.visitor in
    let all = all_items file c.args.walker.now.list.limit in
    subst (λ (r : Result (Unit {0}) ToolFault). PrintsWhileRead (modules_text file (length k.buffer.now.items) k.is_first all) (g.O.Printer.state k.out.now) r (g.O.Printer.state l.out.now)) (sym shows.told)
    (subst (λ (t : List ℕ). PrintsWhileRead t (g.O.Printer.state k.out.now) (outcome_told shows.outcome) (g.O.Printer.state l.out.now)) (modules_of file (record { room = length k.buffer.now.items; is_first = k.is_first }) all)
    (prints_outcome (put_module file) next_module (λ k. g.O.Printer.state k.out.now) (modules_seen (λ k. record { out = g.O.Printer.state k.out.now; begun = k.begun; is_first = k.is_first; room = length k.buffer.now.items }) (λ k. k.out.ghost_name) content) (module_taken (λ k. record { out = g.O.Printer.state k.out.now; begun = k.begun; is_first = k.is_first; room = length k.buffer.now.items }) (λ k. k.out.ghost_name) content) (module_looked (λ k. record { out = g.O.Printer.state k.out.now; begun = k.begun; is_first = k.is_first; room = length k.buffer.now.items }) (λ k. k.out.ghost_name) content) (module_one (λ k. record { out = g.O.Printer.state k.out.now; begun = k.begun; is_first = k.is_first; room = length k.buffer.now.items }) (λ k. k.out.ghost_name) content file known)
    (module_stop (λ k. record { out = g.O.Printer.state k.out.now; begun = k.begun; is_first = k.is_first; room = length k.buffer.now.items }) (λ k. k.out.ghost_name) content file known) (module_short (λ k. record { out = g.O.Printer.state k.out.now; begun = k.begun; is_first = k.is_first; room = length k.buffer.now.items }) (λ k. k.out.ghost_name) content file known) all shows.visits.items shows.outcome k l (shows.visits.all file known) shows.visits.visited shows.unread))

pub returns-clause-reads : goal.returns-clause-reads
returns-clause-reads g c =
    let shows = c.show_all.ensures.shows in
    let content = c.args.walker.now.list.source.store.content in
    let k = c.args.objects.now in
    let l = c.show_all.new.visitor in
    subst (λ (r : Result (Unit {0}) ToolFault). ReadsItems (module_room (length c.args.objects.now.buffer.now.items)) c.args.walker.now.list.limit content r c.args.walker.now.list.counts.aside c.show_all.new.walker.list.counts.aside) (sym shows.told)
    (record { items = shows.visits.items; outside = shows.visits.outside; all = λ file known. are_items (all_items file c.args.walker.now.list.limit) shows.visits.items shows.outcome (shows.visits.all file known) })
