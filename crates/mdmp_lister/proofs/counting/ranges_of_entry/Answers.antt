use Rattle.std.proofs.Common.{◌≡◌, arith, rules}
use Rattle.mdmp_lister.specs.StreamHead.{ahead_of}
use Rattle.mdmp_lister.proofs.Fetches.{IsCaused_other}
use Rattle.mdmp_lister.proofs.Heads.{ahead-misplaced, ahead-other, ahead-unknown, books_ahead, read_ahead, told_ahead, tries_ahead}
use Rattle.mdmp_lister.proofs.counting.ranges_of_entry.Goals as goal
use Rattle.mdmp_lister.proofs.counting.ranges_of_entry.Goals.{then-not-lists_ranges-via-then-not-lists_ranges, then-not-lists_ranges-via-else-not-lists_ranges+then-is_some}

pub returns-in-Ok-clause-reads : goal.returns-in-Ok-clause-reads
returns-in-Ok-clause-reads g c = record {
  of_file = search rules;
  books = books_ahead c.args.meter.now.source.size c.args.entry c.in-Some.kind (search rules) (search rules) (search rules) c.args.meter.now c.fetch_head.new.meter c.fetch_head.ensures.reads.books;
  caused = search rules;
  refused = search rules;
}

pub returns-in-Source-clause-reads : goal.returns-in-Source-clause-reads
returns-in-Source-clause-reads g c = record {
  of_file = search rules;
  books = books_ahead c.args.meter.now.source.size c.args.entry c.in-Some.kind (search rules) (search rules) (search rules) c.args.meter.now c.fetch_head.new.meter c.fetch_head.ensures.reads.books;
  caused = search rules;
  refused = search rules;
}

pub returns-in-Budget-clause-reads : goal.returns-in-Budget-clause-reads
returns-in-Budget-clause-reads g c = record {
  of_file = search rules;
  books = books_ahead c.args.meter.now.source.size c.args.entry c.in-Some.kind (search rules) (search rules) (search rules) c.args.meter.now c.fetch_head.new.meter c.fetch_head.ensures.reads.books;
  caused = rw c.in-Budget.is at c.in-Err.ensures.reads.caused.caused;
  refused = rw c.in-Budget.is at c.in-Err.ensures.reads.over;
}

pub returns-in_default-kind-clause-reads : goal.returns-in_default-kind-clause-reads
returns-in_default-kind-clause-reads g c = record {
  of_file = search rules;
  books = books_ahead c.args.meter.now.source.size c.args.entry c.in-Some.kind (search rules) (search rules) (search rules) c.args.meter.now c.fetch_head.new.meter c.fetch_head.ensures.reads.books;
  caused = IsCaused_other c.in-Err.fault c.args.meter.now.source c.fetch_head.new.meter.source c.in-Err.ensures.reads.caused (search rules);
  refused = search rules;
}

pub returns-in-Ok-clause-tries : goal.returns-in-Ok-clause-tries
returns-in-Ok-clause-tries g c =
    tries_ahead c.args.meter.now.source.size c.args.entry c.in-Some.kind (search rules) (search rules) (search rules) c.args.meter.now c.fetch_head.new.meter c.in-Ok.ensures.tries

pub returns-in-Budget-clause-tries : goal.returns-in-Budget-clause-tries
returns-in-Budget-clause-tries g c =
    let fault = c.in-Err.fault in
    told_ahead c.args.meter.now.source.size c.args.entry c.in-Some.kind (search rules) (search rules) (search rules) fault.kind fault.offset fault.size c.args.meter.now.fetched c.fetch_head.new.meter.fetched
    c.in-Budget.is c.in-Err.ensures.tries

pub returns-in_default-kind-clause-tries : goal.returns-in_default-kind-clause-tries
returns-in_default-kind-clause-tries g c =
    let fault = c.in-Err.fault in
    read_ahead c.args.meter.now.source.size c.args.entry c.in-Some.kind (search rules) (search rules) (search rules) fault.kind fault.offset fault.size c.args.meter.now.fetched c.fetch_head.new.meter.fetched
    (search rules) c.in-Err.ensures.tries

pub returns-in_default-clause-tries : goal.returns-in_default-clause-tries
returns-in_default-clause-tries g c = rw (ahead-unknown c.args.meter.now.source.size c.args.entry (search rules)) (omega arith)

pub returns-then-not-lists_ranges-clause-tries : goal.returns-then-not-lists_ranges-clause-tries
returns-then-not-lists_ranges-clause-tries g c =
    let z = c.args.meter.now.source.size in
    let e = c.args.entry in
    let none : ahead_of z e ≡ 0 = elim c.then-not-lists_ranges.branch [
      | then-not-lists_ranges-via-then-not-lists_ranges w ↦ ahead-other z e c.in-Some.kind (search rules) (search rules)
      | then-not-lists_ranges-via-else-not-lists_ranges+then-is_some w ↦ ahead-misplaced z e c.in-Some.kind w.location_fault.result (search rules) (search rules) (search rules)
    ] in
    rw none (omega arith)
