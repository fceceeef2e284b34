use Rattle.std.proofs.Common.{rules, inl, ◌≡◌, ◌∙◌, ◌+◌, ℕ, Err, Some, ap, refl, subst, sym}
use Rattle.mdmp_source.specs.SourceLaws.{fetches_then}
use Rattle.mdmp_engines.proofs.Engining.{IsQuiet-behind, IsRefusal-behind, Runs-opened, Runs-unopened, Tells-unopened, may_change}
use Rattle.mdmp_lister.specs.Format.Refusal.{opening_fault}
use Rattle.mdmp_lister.specs.Counts.{AreHeld, AreOfFile, AreSpent}
use Rattle.mdmp_lister.specs.declared.choice.Choice.{Choice}
use Rattle.mdmp_lister.specs.declared.counts.Counts.{Counts}
use Rattle.mdmp_lister.specs.declared.limits.Limits.{Limits}
use Rattle.mdmp_lister.specs.Lister.{IsNewLister}
use Rattle.mdmp_lister.specs.Memory.{leaving}
use Rattle.mdmp_lister.specs.Opening.{KeepsOpening}
use Rattle.mdmp_engines.specs.Causes.{HasMemoryCause, MayChange}
use Rattle.mdmp_engines.specs.Telling.{opening_beside}
use Rattle.mdmp_engines.specs.Engines.{IsBehind, Runs, Tells, directly, unless_refused}
use Rattle.mdmp_engines.specs.ReadThrough.{Access, IsReadThrough}
use Rattle.mdmp_engines.specs.declared.fault.ToolFault.{ToolFault}
use Rattle.mdmp_engines.proofs.Besides.{run_opened}
use Rattle.mdmp_lister.proofs.OutOfMemory.{out_of_memory-allowed}
use Rattle.mdmp_engines.proofs.SameRuns.{budget_cause, budget_entry, early_opening, kept_leaving, memory_opening, next_leaving, over_opening, run_within}
use Rattle.mdmp_engines.proofs.engine.run_source.Goals as goal

pub returns-in-Err-clause-runs : goal.returns-in-Err-clause-runs
returns-in-Err-clause-runs g c = λ file known.
    let before = g.O.Printer.state c.args.out.now in
    let ends = g.E.Engine.Ends c.args.engine file c.args.limits.name in
    let text = unless_refused (opening_fault file g.E.Engine.choice) (g.E.Engine.text c.args.engine file c.args.limits.name) in
    subst (λ (f : ToolFault). Runs file g.E.Engine.choice ends g.E.Engine.pace text before (Err f) before) (sym c.refused_beside.ensures)
    (Runs-unopened file g.E.Engine.choice ends g.E.Engine.pace text before c.beside-beside.result c.in-Err.refused.fault (rw c.chosen.ensures at (c.in-Err.ensures.opens file known)))

pub returns-in-Err-clause-tells : goal.returns-in-Err-clause-tells
returns-in-Err-clause-tells g c =
    let of = c.in-Err.ensures in
    let before = g.O.Printer.state c.args.out.now in
    subst (λ (f : ToolFault). Tells {T = g.row.E-Answer.Denot} directly g.E.Engine.pace c.args.source.store c.args.source.size before (Err f) before) (sym c.refused_beside.ensures)
    (Tells-unopened g.row.E-Answer.Denot g.E.Engine.pace before c.beside-beside.result c.in-Err.refused.fault c.args.source c.in-Err.refused.source of.refused.fetches.good of.refused.refusal of.short of.refused.fetches.cause)

pub returns-clause-runs : goal.returns-clause-runs
returns-clause-runs g c = λ file known.
    let new = c.in-Ok.ensures.new in
    let print = c.print-answer.ensures in
    let now = new.fetches.same_content ∙ known in
    let limit = new.list.asked.limit_is ∙ ap (λ (l : Limits). l.name) c.leave_memory.ensures in
    Runs-opened file g.E.Engine.choice (g.E.Engine.Ends c.args.engine file c.args.limits.name) g.E.Engine.pace (g.E.Engine.text c.args.engine file c.args.limits.name) _ _ (g.O.Printer.state c.args.out.now) c.print-answer.result (g.O.Printer.state c.print-answer.new.out)
    (rw c.chosen.ensures at (c.in-Ok.ensures.opens file known)) print.leaves.behind (rw limit at (print.ends file now)) (rw limit at (print.writes file now))

pub returns-clause-tells : goal.returns-clause-tells
returns-clause-tells g c =
    let new = c.in-Ok.ensures.new in
    let print = c.print-answer.ensures.leaves in
    let untouched : Type 0 = g.O.Printer.state c.print-answer.new.out ≡ g.O.Printer.state c.args.out.now in
    let result = c.print-answer.result in
    let behind = subst (λ (size : ℕ). IsBehind g.E.Engine.pace size result untouched) new.fetches.same_size print.behind in
    record {
      good = λ file good. print.good file (record { known = new.fetches.same_content ∙ good.known; reliable = rw new.fetches.same_reliable good.reliable });
      refusal = IsRefusal-behind g.E.Engine.pace untouched c.args.source.size result behind;
      short = λ few. absurd (c.in-Ok.ensures.short few);
      quiet = IsQuiet-behind g.E.Engine.pace untouched c.args.source.size result behind;
      out_cause = print.out_cause;
      changed = subst (λ content. MayChange content result) new.fetches.same_content (may_change result _ _ print.reads.cause);
    }

pub returns-clause-reads : goal.returns-clause-reads
returns-clause-reads g c =
    let more = c.print-answer.ensures.leaves.reads in
    rw c.into_source.ensures.value (record {
      cause = search rules;
      fetches = record {
        count = _ + more.fetches.count;
        fetches = fetches_then _ _ _ _ _ c.in-Ok.ensures.new.fetches more.fetches.fetches;
      };
    })

pub returns-in-Err-clause-through : goal.returns-in-Err-clause-through
returns-in-Err-clause-through g c =
    let back = c.in-Err.ensures.refused.handed_back in
    let beside = c.beside-beside.result in
    let access : Access = record { limits = c.args.limits; choice = g.E.Engine.choice; pace = g.E.Engine.pace; held = g.E.Engine.held c.args.engine; aside = g.E.Engine.aside c.args.engine; beside = g.E.Engine.reads c.args.engine } in
    let memory = memory_opening g.row.E-Answer.Denot c.args.limits g.E.Engine.choice beside c.args.source c.in-Err.refused.fault c.in-Err.refused.source (search rules) (search rules)
    (rw c.leave_memory.ensures at c.in-Err.ensures.refused.over) (λ file known. rw (c.leave_memory.ensures, c.chosen.ensures) at (c.in-Err.ensures.within file known))
    (rw (c.leave_memory.ensures, c.chosen.ensures) at (out_of_memory-allowed _ _ _ _ _ _ _ c.in-Err.ensures.lacks c.in-Err.ensures.refused.memory)) in
    subst (λ (f : ToolFault). IsReadThrough {T = g.row.E-Answer.Denot} access c.args.source (Err f) c.in-Err.refused.source) (sym c.refused_beside.ensures)
    (IsReadThrough.refused c.in-Err.refused.fault (early_opening g.row.E-Answer.Denot beside c.in-Err.refused.fault)
    (over_opening g.row.E-Answer.Denot beside g.E.Engine.choice c.args.limits c.args.source c.in-Err.refused.fault c.in-Err.refused.source
    (kept_leaving beside c.args.limits c.args.source c.in-Err.refused.fault c.in-Err.refused.source (rw c.leave_memory.ensures at c.in-Err.ensures.refused.fetches.kept))
    (next_leaving (Some g.E.Engine.choice) beside c.args.limits c.args.source c.in-Err.refused.fault c.in-Err.refused.source (rw (c.leave_memory.ensures, c.chosen.ensures) at c.in-Err.ensures.refused.fetches.next)))
    (subst (λ (n : ℕ). HasMemoryCause {T = g.row.E-Answer.Denot} c.args.limits g.E.Engine.choice n c.args.source (Err (opening_beside beside c.in-Err.refused.fault)) c.in-Err.refused.source) c.beside-beside.ensures memory)
    (rw c.chosen.ensures at back) (inl (ap (λ (n : ℕ). Err (opening_beside n c.in-Err.refused.fault)) c.beside-beside.ensures)))

pub returns-clause-through : goal.returns-clause-through
returns-clause-through g c =
    let new = c.in-Ok.ensures.new.list in
    let same = c.print-answer.ensures.same in
    let counts = c.counts-counts.ensures in
    let under = c.leave_memory.ensures in
    rw c.into_source.ensures.value (IsReadThrough.listed (record {
      lister = c.print-answer.new.lister;
      opened = run_opened c.args.limits c.leave_memory.result c.beside-beside.result g.E.Engine.choice _ _ _ _ c.args.source _ c.print-answer.new.lister under same (rw c.chosen.ensures at c.in-Ok.ensures.new);
      of_file = λ file known.
          let content = c.print-answer.ensures.leaves.reads.fetches.fetches.same_content ∙ c.in-Ok.ensures.new.fetches.same_content ∙ known in
          let choice : c.print-answer.new.lister.choice ≡ g.E.Engine.choice = same.choice ∙ new.asked.choice_is ∙ c.chosen.ensures in
          subst (λ (n : Counts). AreOfFile file g.E.Engine.choice n) counts.value (subst (λ (ch : Choice). AreOfFile file ch c.counts-counts.result) choice (counts.of_file file content));
      budget = same.budget ∙ new.counts.budget_is ∙ ap (λ (l : Limits). l.budget) under;
      over = budget_cause c.print-answer.result c.in-Ok.lister c.print-answer.new.lister c.print-answer.ensures.over;
      entry = budget_entry c.print-answer.result c.in-Ok.lister c.print-answer.new.lister (λ more. absurd (more new.given.standing)) c.print-answer.ensures.over;
      aside_kept = c.print-answer.ensures.aside;
      reads = c.print-answer.ensures.read.keeps;
      asked = record {
        first = c.in-Ok.lister;
        is_new =
            let opened : IsNewLister c.args.source g.E.Engine.choice c.leave_memory.result c.in-Ok.lister = rw c.chosen.ensures at c.in-Ok.ensures.new in
            subst (λ (n : ℕ). IsNewLister c.args.source g.E.Engine.choice (leaving n c.args.limits) c.in-Ok.lister) c.beside-beside.ensures
            (subst (λ (l : Limits). IsNewLister c.args.source g.E.Engine.choice l c.in-Ok.lister) under opened);
        requests = c.print-answer.ensures.read.requests;
      };
      memory = rw (← c.beside-beside.ensures) (run_within c.args.limits c.leave_memory.result c.beside-beside.result _ c.print-answer.new.lister under same new.asked.window_room new.memory);
      opens = λ file known. rw (← c.beside-beside.ensures) (rw (c.leave_memory.ensures, c.chosen.ensures) at (c.in-Ok.ensures.within file known));
      opening = λ file known.
          let of : KeepsOpening c.leave_memory.result.budget file g.E.Engine.choice = rw c.chosen.ensures at (c.in-Ok.ensures.new.opening file known) in
          subst (λ (l : Limits). KeepsOpening l.budget file g.E.Engine.choice) under of;
      within = c.print-answer.ensures.within;
      source = refl;
      start = same.start ∙ new.counts.start;
      held = subst (λ (n : Counts). AreHeld c.print-answer.new.lister n) counts.value counts.held;
      spent = subst (λ (n : Counts). AreSpent c.print-answer.new.lister n) counts.value counts.spent;
    }))
