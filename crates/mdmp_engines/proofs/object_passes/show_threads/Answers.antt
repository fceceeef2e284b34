use Rattle.std.proofs.Common.{◌≡◌, List, ℕ, subst, sym}
use Rattle.std.specs.Prelude.{IfOk, Result}
use Rattle.mdmp_lister.specs.Format.Name.{plain_name}
use Rattle.mdmp_summary.specs.BadEntries.{all_items}
use Rattle.mdmp_engines.specs.Causes.{HasOutCause}
use Rattle.mdmp_engines.specs.ObjectRuns.{PrintsWhileRead, ReadsItems, outcome_told}
use Rattle.mdmp_engines.specs.ObjectVisits.{thread_room}
use Rattle.mdmp_engines.specs.SummaryObject.{found_among, threads_text}
use Rattle.mdmp_engines.specs.declared.fault.ToolFault.{ToolFault}
use Rattle.mdmp_engines.proofs.Objects.{next_thread, put_thread, thread_looked, thread_one, thread_refused, thread_short, thread_steady, thread_stop, thread_taken, thread_unread, threads_of, threads_seen}
use Rattle.mdmp_engines.proofs.ObjectsTold.{are_items, found_outcome, outcome_name, outcome_out, prints_outcome}
use Rattle.mdmp_engines.proofs.object_passes.show_threads.Goals as goal

pub returns-clause-same_output : goal.returns-clause-same_output
returns-clause-same_output g c =
    let shows = c.show_all.ensures.shows in
    let content = c.args.walker.now.list.source.store.content in
    let k = c.args.objects.now in
    let l = c.show_all.new.visitor in
    outcome_name (λ k. g.O.Printer.state k.out.now) (λ k. k.out.ghost_name) (thread_taken (λ k. record { out = g.O.Printer.state k.out.now; crashed = record { system = k.system; id = k.crashed; name = plain_name k.name.now }; begun = k.begun; count = k.count; found = k.found }) (λ k. k.out.ghost_name) content) (thread_looked (λ k. record { out = g.O.Printer.state k.out.now; crashed = record { system = k.system; id = k.crashed; name = plain_name k.name.now }; begun = k.begun; count = k.count; found = k.found }) (λ k. k.out.ghost_name) content) (thread_steady (λ k. record { out = g.O.Printer.state k.out.now; crashed = record { system = k.system; id = k.crashed; name = plain_name k.name.now }; begun = k.begun; count = k.count; found = k.found }) (λ k. k.out.ghost_name) content) (thread_refused (λ k. record { out = g.O.Printer.state k.out.now; crashed = record { system = k.system; id = k.crashed; name = plain_name k.name.now }; begun = k.begun; count = k.count; found = k.found }) (λ k. k.out.ghost_name) content) (thread_unread (λ k. record { out = g.O.Printer.state k.out.now; crashed = record { system = k.system; id = k.crashed; name = plain_name k.name.now }; begun = k.begun; count = k.count; found = k.found }) (λ k. k.out.ghost_name) content) shows.visits.items shows.outcome k l shows.visits.visited

pub returns-clause-out_cause : goal.returns-clause-out_cause
returns-clause-out_cause g c =
    let shows = c.show_all.ensures.shows in
    let content = c.args.walker.now.list.source.store.content in
    let k = c.args.objects.now in
    let l = c.show_all.new.visitor in
    subst (λ (r : Result (Unit {0}) ToolFault). HasOutCause (g.O.Printer.state k.out.now) r (g.O.Printer.state l.out.now)) (sym shows.told)
    (outcome_out (λ k. g.O.Printer.state k.out.now) (λ k. k.out.ghost_name) (thread_taken (λ k. record { out = g.O.Printer.state k.out.now; crashed = record { system = k.system; id = k.crashed; name = plain_name k.name.now }; begun = k.begun; count = k.count; found = k.found }) (λ k. k.out.ghost_name) content) (thread_looked (λ k. record { out = g.O.Printer.state k.out.now; crashed = record { system = k.system; id = k.crashed; name = plain_name k.name.now }; begun = k.begun; count = k.count; found = k.found }) (λ k. k.out.ghost_name) content) (thread_steady (λ k. record { out = g.O.Printer.state k.out.now; crashed = record { system = k.system; id = k.crashed; name = plain_name k.name.now }; begun = k.begun; count = k.count; found = k.found }) (λ k. k.out.ghost_name) content) (thread_refused (λ k. record { out = g.O.Printer.state k.out.now; crashed = record { system = k.system; id = k.crashed; name = plain_name k.name.now }; begun = k.begun; count = k.count; found = k.found }) (λ k. k.out.ghost_name) content) (thread_unread (λ k. record { out = g.O.Printer.state k.out.now; crashed = record { system = k.system; id = k.crashed; name = plain_name k.name.now }; begun = k.begun; count = k.count; found = k.found }) (λ k. k.out.ghost_name) content) shows.visits.items shows.outcome k l shows.visits.visited shows.unread)

pub returns-clause-prints : goal.returns-clause-prints
returns-clause-prints g c = λ file known.
    let shows = c.show_all.ensures.shows in
    let content = c.args.walker.now.list.source.store.content in
    let k = c.args.objects.now in
    let l = c.show_all.new.visitor in
    let all = all_items file c.args.walker.now.list.limit in
    subst (λ (r : Result (Unit {0}) ToolFault). PrintsWhileRead (threads_text file (record { system = k.system; id = k.crashed; name = plain_name k.name.now }) k.count all) (g.O.Printer.state k.out.now) r (g.O.Printer.state l.out.now)) (sym shows.told)
    (subst (λ (t : List ℕ). PrintsWhileRead t (g.O.Printer.state k.out.now) (outcome_told shows.outcome) (g.O.Printer.state l.out.now)) (threads_of file (record { crashed = record { system = k.system; id = k.crashed; name = plain_name k.name.now }; count = k.count }) all)
    (prints_outcome (put_thread file) next_thread (λ k. g.O.Printer.state k.out.now) (threads_seen (λ k. record { out = g.O.Printer.state k.out.now; crashed = record { system = k.system; id = k.crashed; name = plain_name k.name.now }; begun = k.begun; count = k.count; found = k.found }) (λ k. k.out.ghost_name) content) (thread_taken (λ k. record { out = g.O.Printer.state k.out.now; crashed = record { system = k.system; id = k.crashed; name = plain_name k.name.now }; begun = k.begun; count = k.count; found = k.found }) (λ k. k.out.ghost_name) content) (thread_looked (λ k. record { out = g.O.Printer.state k.out.now; crashed = record { system = k.system; id = k.crashed; name = plain_name k.name.now }; begun = k.begun; count = k.count; found = k.found }) (λ k. k.out.ghost_name) content) (thread_one (λ k. record { out = g.O.Printer.state k.out.now; crashed = record { system = k.system; id = k.crashed; name = plain_name k.name.now }; begun = k.begun; count = k.count; found = k.found }) (λ k. k.out.ghost_name) content file known)
    (thread_stop (λ k. record { out = g.O.Printer.state k.out.now; crashed = record { system = k.system; id = k.crashed; name = plain_name k.name.now }; begun = k.begun; count = k.count; found = k.found }) (λ k. k.out.ghost_name) content file known) (thread_short (λ k. record { out = g.O.Printer.state k.out.now; crashed = record { system = k.system; id = k.crashed; name = plain_name k.name.now }; begun = k.begun; count = k.count; found = k.found }) (λ k. k.out.ghost_name) content file known) all shows.visits.items shows.outcome k l (shows.visits.all file known) shows.visits.visited shows.unread))

pub returns-clause-reads : goal.returns-clause-reads
returns-clause-reads g c =
    let shows = c.show_all.ensures.shows in
    let content = c.args.walker.now.list.source.store.content in
    let k = c.args.objects.now in
    let l = c.show_all.new.visitor in
    subst (λ (r : Result (Unit {0}) ToolFault). ReadsItems (thread_room 0) c.args.walker.now.list.limit content r c.args.walker.now.list.counts.aside c.show_all.new.walker.list.counts.aside) (sym shows.told)
    (record { items = shows.visits.items; outside = shows.visits.outside; all = λ file known. are_items (all_items file c.args.walker.now.list.limit) shows.visits.items shows.outcome (shows.visits.all file known) })

pub returns-clause-found : goal.returns-clause-found
returns-clause-found g c = λ file known.
    let shows = c.show_all.ensures.shows in
    let content = c.args.walker.now.list.source.store.content in
    let k = c.args.objects.now in
    let l = c.show_all.new.visitor in
    subst (λ (r : Result (Unit {0}) ToolFault). IfOk r (λ _. l.found ≡ found_among k.crashed k.count k.found (all_items file c.args.walker.now.list.limit))) (sym shows.told)
    (found_outcome (λ k. record { out = g.O.Printer.state k.out.now; crashed = record { system = k.system; id = k.crashed; name = plain_name k.name.now }; begun = k.begun; count = k.count; found = k.found }) (λ k. k.out.ghost_name) content (all_items file c.args.walker.now.list.limit) shows.visits.items shows.outcome k l (shows.visits.all file known) shows.visits.visited)
