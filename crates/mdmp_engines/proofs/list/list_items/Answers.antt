use Rattle.std.proofs.Common.{rules, ◌∙◌, ◌+◌, [], Ok, Err, true, false, ap, refl, Bool}
use Rattle.mdmp_source.specs.SourceLaws.{fetches_then}
use Rattle.mdmp_lister.specs.Lister.{tail}
use Rattle.mdmp_lister.proofs.Requested.{aside_none}
use Rattle.mdmp_engines.proofs.Asking.{end_requested, next_requested, requested_behind, requested_same}
use Rattle.mdmp_engines.proofs.Besides.{HasRead-end, HasRead-next, HasRead-none}
use Rattle.mdmp_engines.proofs.Printing.{HasPrinted-next, HasPrinted-none, ListsRun-end, ListsRun-fault, next_told, next_within}
use Rattle.mdmp_engines.proofs.Reached.{HasNamed-end, HasNamed-fault, HasNamed-next, HasNamed-none}
use Rattle.mdmp_engines.proofs.Symbols.{Leaves-fault, Leaves-later, refused_by}
use Rattle.mdmp_engines.proofs.SameRuns.{budget_later, run_none, run_then, aside_fault}
use Rattle.mdmp_engines.proofs.list.list_items.Goals as goal

pub returns-in_err-list_next-clause-lists : goal.returns-in_err-list_next-clause-lists
returns-in_err-list_next-clause-lists g c = λ file content run known.
    let so_far = c.loop.invariant in
    let f = c.in_err-list_next.field-0.0 in
    let is = refused_by c.from_residual.result f c.from_residual.ensures.1 in
    let printed = so_far.printed file content run known in
    let next = next_within c.args.form c.args.pdb file _ _ printed.0 _ (Err f) _ so_far.run.limit (c.in_err-list_next.ensures.lists file (so_far.source.fetches.same_content ∙ content) printed.0 printed.1.0) in
    rw is (ListsRun-fault c.args.form c.args.pdb file c.args.lister.now.limit run printed.0 _ _ _ f printed.1.1 next)

pub returns-in_err-list_next-clause-leaves : goal.returns-in_err-list_next-clause-leaves
returns-in_err-list_next-clause-leaves g c =
    let so_far = c.loop.invariant in
    let f = c.in_err-list_next.field-0.0 in
    let is = refused_by c.from_residual.result f c.from_residual.ensures.1 in
    rw is (Leaves-fault f _ _ _ _ (Leaves-later _ _ _ _ _ _ _ (Err f) so_far.source.fetches so_far.steady c.in_err-list_next.ensures.leaves))

pub loop-init : goal.loop-init
loop-init g c = record {
  going = c.requires.going;
  stands = λ in_chosen. in_chosen;
  source = search rules;
  run = run_none _;
  steady = refl;
  aside = c.requires.kept;
  read = HasRead-none c.args.pdb _;
  named = HasNamed-none _;
  requested = ([], aside_none _);
  printed = λ file content run known. (run, (known, HasPrinted-none c.args.form c.args.pdb file c.args.lister.now.limit run _));
}

pub loop-preserved : goal.loop-preserved
loop-preserved g c =
    let so_far = c.loop.invariant in
    let of = c.in_ok-list_next.ensures in
    let rest = of.rest (ap Ok c.if-branch.true) in
    record {
      going = rest.going;
      stands = λ in_chosen. rest.stands (so_far.stands in_chosen);
      source = record { count = so_far.source.count + of.leaves.reads.fetches.count; fetches = fetches_then _ _ _ _ _ so_far.source.fetches of.leaves.reads.fetches.fetches };
      run = run_then _ _ _ so_far.run of.same;
      steady = of.leaves.out_cause ∙ so_far.steady;
      aside = (of.aside so_far.aside).kept;
      read = HasRead-next c.args.pdb _ _ _ so_far.run.limit so_far.read of.read.beside rest.left;
      requested = next_requested _ _ _ so_far.requested.0 _ c.if-branch.true so_far.requested.1 of.read.requests;
      named = HasNamed-next _ _ _ so_far.named of.names rest.left;
      printed = λ file content run known.
          let printed = so_far.printed file content run known in
          let next = next_told c.args.form c.args.pdb file _ _ printed.0 _ _ true _ so_far.run.limit c.if-branch.true (of.lists file (so_far.source.fetches.same_content ∙ content) printed.0 printed.1.0) in (
            tail printed.0,
            (rw printed.1.0 at rest.left, HasPrinted-next c.args.form c.args.pdb file c.args.lister.now.limit run printed.0 _ _ _ printed.1.1 next.1),
          );
    }

pub returns-clause-lists : goal.returns-clause-lists
returns-clause-lists g c = λ file content run known.
    let so_far = c.loop.invariant in
    let printed = so_far.printed file content run known in
    let next = next_told c.args.form c.args.pdb file _ _ printed.0 _ _ false _ so_far.run.limit c.if-branch.false (c.in_ok-list_next.ensures.lists file (so_far.source.fetches.same_content ∙ content) printed.0 printed.1.0) in
    ListsRun-end c.args.form c.args.pdb file c.args.lister.now.limit run printed.0 _ _ _ printed.1.1 next

pub returns-clause-leaves : goal.returns-clause-leaves
returns-clause-leaves g c =
    let so_far = c.loop.invariant in
    let left = c.in_ok-list_next.ensures.leaves in
    record {
      good = λ file good. tt;
      behind = tt;
      reads = record { cause = tt; fetches = record { count = so_far.source.count + left.reads.fetches.count; fetches = fetches_then _ _ _ _ _ so_far.source.fetches left.reads.fetches.fetches } };
      out_cause = left.out_cause ∙ so_far.steady;
    }

pub returns-in_err-list_next-clause-lines : goal.returns-in_err-list_next-clause-lines
returns-in_err-list_next-clause-lines g c =
    let so_far = c.loop.invariant in
    let of = c.in_err-list_next.ensures in
    let f = c.in_err-list_next.field-0.0 in
    let is = refused_by c.from_residual.result f c.from_residual.ensures.1 in
    record {
      same = run_then _ _ _ so_far.run of.same;
      over = rw is (budget_later Bool (Unit {0}) f c.args.lister.now c.loop.lister c.list_next.new.lister so_far.stands of.over);
      aside = rw is (aside_fault Bool (Unit {0}) c.args.aside f _ (of.aside so_far.aside));
      read = HasRead-end c.args.pdb _ _ _ so_far.run.limit so_far.read of.read.beside;
      requests = rw is (requested_behind so_far.requested.0 c.args.lister.now c.loop.lister c.list_next.new.lister (Err f) so_far.requested.1 (requested_same {T = Bool} _ _ f of.read.requests));
      names = HasNamed-fault _ _ _ so_far.named of.names;
    }

pub returns-clause-lines : goal.returns-clause-lines
returns-clause-lines g c =
    let so_far = c.loop.invariant in
    let of = c.in_ok-list_next.ensures in
    record {
      same = run_then _ _ _ so_far.run of.same;
      over = tt;
      aside = record { kept = (of.aside so_far.aside).kept; over = tt };
      read = HasRead-end c.args.pdb _ _ _ so_far.run.limit so_far.read of.read.beside;
      requests = end_requested tt _ _ _ so_far.requested.0 _ c.if-branch.false so_far.requested.1 of.read.requests;
      names = HasNamed-end _ _ _ so_far.named of.names;
    }
