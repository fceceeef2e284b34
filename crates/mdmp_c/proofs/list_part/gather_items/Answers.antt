use Rattle.std.proofs.Common.{rules, ◌≡◌, ◌∙◌, ◌+◌, [], Bool, Ok, Err, None, Some, true, false, ap, sym}
use Rattle.std.specs.Prelude.{take}
use Rattle.mdmp_source.specs.SourceLaws.{fetches_then}
use Rattle.mdmp_source.specs.Output.{OutState}
use Rattle.mdmp_source.specs.Store.{IsGood}
use Rattle.mdmp_lister.proofs.Fetches.{IsGood-later}
use Rattle.mdmp_lister.specs.Lister.{tail}
use Rattle.mdmp_lister.proofs.Requested.{aside_none}
use Rattle.mdmp_engines.specs.declared.fault.ToolFault.TheVariants.{Memory}
use Rattle.mdmp_engines.specs.ReadThrough.{HasRequested}
use Rattle.mdmp_engines.proofs.Asking.{end_requested, fault_or_memory, next_requested, requested_behind, requested_same, requested_so_far}
use Rattle.mdmp_engines.proofs.Printing.{next_told, next_within}
use Rattle.mdmp_engines.specs.Symbols.{taken_bytes}
use Rattle.mdmp_engines.specs.Text.{next_lines}
use Rattle.mdmp_engines.proofs.SameRuns.{budget_later, run_none, run_then}
use Rattle.mdmp_c.proofs.Coming.{runs_on}
use Rattle.mdmp_c.proofs.AsideRead.{fault_met, met_all, met_next, met_none, met_record}
use Rattle.mdmp_c.proofs.Listed.{HasGiven-next, HasGiven-none, PutsRun-end, PutsRun-ended, lines_taken}
use Rattle.mdmp_c.specs.Limits.{most_read}
use Rattle.mdmp_c.specs.TextPart.{EndsTextAt}
use Rattle.mdmp_lister.specs.Sink.{names_of_all}
use Rattle.mdmp_engines.proofs.Reached.{HasNamed-fault, HasNamed-next, HasNamed-none}
use Rattle.mdmp_c.proofs.Stopping.{text_over}
use Rattle.mdmp_c.proofs.list_part.gather_items.Goals as goal

pub loop-lines-init : goal.loop-lines-init
loop-lines-init g c = record {
  going = c.requires.going;
  stands = λ in_chosen. in_chosen;
  source = search rules;
  run = run_none _;
  aside = c.requires.kept;
  named = HasNamed-none _;
  requested = ([], aside_none _);
  met = λ file content run known. met_none c.args.pdb file c.args.lister.now run known;
  part = λ file good run known skip room before part. (run, (known, HasGiven-none c.args.form c.args.pdb file c.args.lister.now.limit run before skip room _ _ _ _ part));
}

pub loop-lines-preserved : goal.loop-lines-preserved
loop-lines-preserved g c =
    let so_far = c.loop-lines.invariant in
    let of = c.in-Ok-true.ensures in
    let rest = of.rest (ap Ok c.in-Ok-true.field-0-test) in
    record {
      going = rest.going;
      stands = λ in_chosen. rest.stands (so_far.stands in_chosen);
      source = record { count = so_far.source.count + of.leaves.reads.fetches.count; fetches = fetches_then _ _ _ _ _ so_far.source.fetches of.leaves.reads.fetches.fetches };
      run = run_then _ _ _ so_far.run of.same;
      aside = (of.aside so_far.aside).kept;
      named = HasNamed-next _ _ _ so_far.named of.names rest.left;
      requested = next_requested _ _ _ so_far.requested.0 _ c.in-Ok-true.field-0-test so_far.requested.1 of.read.requests;
      met = λ file content run known.
          met_next c.args.pdb file c.args.lister.now run c.loop-lines.lister c.list_next.new.lister (so_far.met file content run known) so_far.run.limit (rw c.in-Ok-true.field-0-test at of.read)
          (so_far.source.fetches.same_content ∙ content) rest.left;
      part = λ file good run known skip room before part.
          let given = so_far.part file good run known skip room before part in
          let content = so_far.source.fetches.same_content ∙ good.known in
          let next = next_told c.args.form c.args.pdb file _ _ given.0 _ c.in-Ok-true.field-0 true _ so_far.run.limit c.in-Ok-true.field-0-test (of.lists file content given.0 given.1.0) in
          let line : c.deref.result.now ≡ next_lines c.args.form c.args.pdb file c.args.lister.now.limit given.0 =
          lines_taken _ _ c.deref.result.now c.clear.new.self.items (next_lines c.args.form c.args.pdb file c.args.lister.now.limit given.0)
          (ap (λ (o : OutState). o.taken) c.new-lines.ensures) c.clear.ensures.items next.1 (sym c.into_inner-line.ensures ∙ ap Some (sym c.deref.ensures.value)) in (
            tail given.0,
            (rw given.1.0 at rest.left, HasGiven-next c.args.form c.args.pdb file c.args.lister.now.limit run given.0 before c.deref.result.now skip room _ _ _ _ _ _ _ _ given.1.1 line (c.in_default.ensures skip room)),
          );
    }

pub returns-in-Ok-false : goal.returns-in-Ok-false
returns-in-Ok-false g c = record {
  requests =
      let so_far = c.loop-lines.invariant.requested in
      end_requested tt _ _ _ so_far.0 _ c.in-Ok-false.field-0-test so_far.1 c.in-Ok-false.ensures.read.requests;
  aside = (c.in-Ok-false.ensures.aside c.loop-lines.invariant.aside).kept;
  taken = λ file content run known.
      let so_far = c.loop-lines.invariant in
      let met = so_far.met file content run known in
      let of = c.in-Ok-false.ensures in
      let next = next_told c.args.form c.args.pdb file _ _ met.left _ c.in-Ok-false.field-0 false _ so_far.run.limit c.in-Ok-false.field-0-test (of.lists file (so_far.source.fetches.same_content ∙ content) met.left met.left_is) in
      met_all c.args.pdb file c.args.lister.now run c.loop-lines.lister c.list_next.new.lister met None (taken_bytes file c.args.pdb c.loop-lines.lister.limit (take 1 met.left.items)) next.0
      (of.read.taken file (so_far.source.fetches.same_content ∙ content) met.left met.left_is);
  puts = λ file good run known skip room before part.
      let so_far = c.loop-lines.invariant in
      let given = so_far.part file good run known skip room before part in
      let content = so_far.source.fetches.same_content ∙ good.known in
      let next = next_told c.args.form c.args.pdb file _ _ given.0 _ c.in-Ok-false.field-0 false _ so_far.run.limit c.in-Ok-false.field-0-test (c.in-Ok-false.ensures.lists file content given.0 given.1.0) in
      PutsRun-end c.args.form c.args.pdb file c.args.lister.now.limit (EndsTextAt c.args.lister.now (most_read file c.args.lister.now.choice c.args.lister.now.limit (c.args.lister.now.counts.names + names_of_all run.items)) c.args.aside c.args.pdb run) run given.0 before skip room _ _ _ _ _ _ given.1.1 next;
}

pub returns-in-Err : goal.returns-in-Err
returns-in-Err g c = record {
  requests =
      let so_far = c.loop-lines.invariant.requested in
      let f = c.in-Err.fault in
      let old = c.args.lister.now in
      let new = c.list_next.new.lister in
      let asked : HasRequested {T = Unit {0}} old (Err f) new = requested_behind so_far.0 old c.loop-lines.lister new (Err f) so_far.1 (requested_same {T = Bool} _ _ f c.in-Err.ensures.read.requests) in
      fault_or_memory old new f c.end_items.result c.end_items.ensures.fault asked;
  aside = (c.in-Err.ensures.aside c.loop-lines.invariant.aside).kept;
  taken = λ file content run known.
      let so_far = c.loop-lines.invariant in
      let met = so_far.met file content run known in
      let of = c.in-Err.ensures in
      let there = next_within c.args.form c.args.pdb file _ _ met.left _ (Err c.in-Err.fault) _ so_far.run.limit (of.lists file (so_far.source.fetches.same_content ∙ content) met.left met.left_is) in
      fault_met c.args.pdb file c.args.lister.now run c.args.form c.loop-lines.lister c.list_next.new.lister met _ _ c.in-Err.fault there of.read.rests c.end_items.result c.end_items.ensures.fault;
  puts = λ file good run known skip room before part.
      let so_far = c.loop-lines.invariant in
      let given = so_far.part file good run known skip room before part in
      let now : IsGood c.loop-lines.lister.source.store file = IsGood-later file _ _ _ so_far.source.fetches good in
      let next = next_within c.args.form c.args.pdb file _ _ given.0 _ (Err c.in-Err.fault) _ so_far.run.limit (c.in-Err.ensures.lists file now.known given.0 given.1.0) in
      let met = so_far.met file good.known run known in
      let there = next_within c.args.form c.args.pdb file _ _ met.left _ (Err c.in-Err.fault) _ so_far.run.limit (c.in-Err.ensures.lists file now.known met.left met.left_is) in
      PutsRun-ended c.args.form c.args.pdb file c.args.lister.now.limit (EndsTextAt c.args.lister.now (most_read file c.args.lister.now.choice c.args.lister.now.limit (c.args.lister.now.counts.names + names_of_all run.items)) c.args.aside c.args.pdb run) run given.0 before _ skip room _ _ _ _ _ _ _ _ _ _ c.in-Err.fault _ given.1.1 next
      (ap (λ (o : OutState). o.taken) c.new-lines.ensures ∙ ap Some c.clear.ensures.items) (sym c.into_inner.ensures) (c.end_items.ensures.puts skip room) (c.in-Err.ensures.leaves.good file now)
      (text_over c.args.lister.now c.list_next.new.lister file run c.args.aside c.args.pdb c.counts-counts.result c.in-Err.fault (met_record c.args.pdb file c.args.lister.now run c.args.form c.loop-lines.lister c.list_next.new.lister met _ _ c.in-Err.fault there c.in-Err.ensures.read.rests)
      (runs_on _ _ (run_then _ _ _ so_far.run c.in-Err.ensures.same) (c.in-Err.ensures.leaves.reads.fetches.fetches.same_content ∙ so_far.source.fetches.same_content)
      (c.in-Err.ensures.leaves.reads.fetches.fetches.same_size ∙ so_far.source.fetches.same_size)) c.counts-counts.ensures.value
      (c.counts-counts.ensures.of_file file (c.in-Err.ensures.leaves.reads.fetches.fetches.same_content ∙ now.known)) (HasNamed-fault _ _ _ so_far.named c.in-Err.ensures.names run known)
      c.counts-counts.ensures.held c.counts-counts.ensures.spent
      (budget_later Bool Bool c.in-Err.fault c.args.lister.now c.loop-lines.lister c.list_next.new.lister so_far.stands c.in-Err.ensures.over) (c.in-Err.ensures.aside so_far.aside));
}

pub returns-in-Err-take : goal.returns-in-Err-take
returns-in-Err-take g c = record {
  requests =
      let so_far = c.loop-lines.invariant in
      let of = c.in-Ok-true.ensures in
      let more = next_requested _ _ _ so_far.requested.0 _ c.in-Ok-true.field-0-test so_far.requested.1 of.read.requests in
      requested_so_far more.0 _ _ Memory more.1 tt;
  aside = (c.in-Ok-true.ensures.aside c.loop-lines.invariant.aside).kept;
  taken = λ file known left is. tt;
  puts = λ file good left is skip room given part. tt;
}
