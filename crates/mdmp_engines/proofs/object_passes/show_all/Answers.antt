use Rattle.std.proofs.Common.{Ok, Err, ap, refl, subst, sym}
use Rattle.mdmp_summary.specs.declared.bad_entries.BadEntries.{BadEntries}
use Rattle.mdmp_engines.specs.Causes.{HasBudgetCause, HasSourceCause, IsNoSourceFault}
use Rattle.mdmp_engines.specs.ObjectRuns.{IsPrintEnd}
use Rattle.mdmp_engines.specs.declared.fault.ToolFault.{ToolFault}
use Rattle.mdmp_engines.proofs.ObjectsTold.{cause_visit, good_visit, over_visit, stops_visit, unread_pass, visited_err}
use Rattle.mdmp_engines.proofs.object_passes.show_all.Goals as goal

pub returns-in-Ok-clause-shows : goal.returns-in-Ok-clause-shows
returns-in-Ok-clause-shows g c =
    let visits = c.in-Ok.ensures.visits in
    record { outcome = Ok tt; told = refl; unread = tt; visits = record { items = visits.items; visited = visits.visited; all = visits.all; outside = visits.outside; named = visits.named } }

pub returns-in-Ok-clause-leaves : goal.returns-in-Ok-clause-leaves
returns-in-Ok-clause-leaves g c =
    let of = c.in-Ok.ensures in
    record { pays = of.pays; same = of.same; good = λ file good. tt; cause = tt; over = tt; going = of.going; stops = tt }

pub returns-in-Err-clause-shows : goal.returns-in-Err-clause-shows
returns-in-Err-clause-shows g c =
    let fault = c.in-Err.fault in
    let of = c.in-Err.ensures in
    let visits = of.visits in
    let old = c.args.walker.now.list in
    record {
      outcome = Err fault;
      told = ap Err c.told_visit.ensures;
      unread = unread_pass old c.visit_all.new.walker.list fault of.fault;
      visits = record {
        items = visits.items;
        visited = visited_err g.V.Visitor.taken (g.V.Visitor.looked old.source.store.content old.limit) BadEntries (Unit {0}) fault c.args.visitor.now visits.items c.visit_all.new.visitor visits.visited;
        all = visits.all;
        outside = visits.outside;
        named = visits.named;
      };
    }

pub returns-in-Err-clause-leaves : goal.returns-in-Err-clause-leaves
returns-in-Err-clause-leaves g c =
    let fault = c.in-Err.fault in
    let of = c.in-Err.ensures in
    let old = c.args.walker.now.list in
    let new = c.visit_all.new.walker.list in
    record {
      pays = of.pays;
      same = of.same;
      good = λ file good. subst (λ (f : ToolFault). IsNoSourceFault {T = Unit {0}} (Err f)) (sym c.told_visit.ensures) (good_visit (Unit {0}) fault (of.good file good));
      cause = subst (λ (f : ToolFault). HasSourceCause {T = Unit {0}} old.source (Err f) new.source) (sym c.told_visit.ensures) (cause_visit (Unit {0}) old new fault of.fault);
      over = subst (λ (f : ToolFault). HasBudgetCause {T = Unit {0}} (Err f) new) (sym c.told_visit.ensures) (over_visit (Unit {0}) old new fault of.fault);
      going = tt;
      stops = subst (λ (f : ToolFault). IsPrintEnd {T = Unit {0}} (Err f)) (sym c.told_visit.ensures) (stops_visit (Unit {0}) fault (unread_pass old new fault of.fault));
    }
