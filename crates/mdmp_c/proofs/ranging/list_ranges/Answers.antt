use Rattle.std.proofs.Common.{Err, ◌∙◌, ◌++◌, ap, arith}
use Rattle.std.proofs.lemmas.List.Sums.{sum_by-append}
use Rattle.mdmp_lister.specs.Format.Listing.{Run}
use Rattle.mdmp_lister.specs.Format.Numbers.{names_of}
use Rattle.mdmp_lister.specs.Sink.{names_of_all}
use Rattle.mdmp_lister.proofs.Unseen.{never_stopped, ranges-all}
use Rattle.mdmp_lister.specs.declared.sink.RunFault.TheVariants as runs
use Rattle.mdmp_summary.proofs.InEntries.{run_ends}
use Rattle.mdmp_engines.proofs.Asking.{given_end, given_fault}
use Rattle.mdmp_c.proofs.Coming.{lists_on}
use Rattle.mdmp_c.proofs.Stopping.{listing_over}
use Rattle.mdmp_c.proofs.ranging.list_ranges.Goals as goal

pub returns-in-Ok-clause-lists : goal.returns-in-Ok-clause-lists
returns-in-Ok-clause-lists g c = λ left known.
    let run = c.in-Ok.ensures.runs in
    let rest = run.left left known in
    let all = ranges-all left run.items rest.1.1.0 in
    (all.0, run.ranges ∙ ap (λ rs. c.args.lister.now.ranges ++ rs) all.1)

pub returns-in-Ok-clause-fetches : goal.returns-in-Ok-clause-fetches
returns-in-Ok-clause-fetches g c = record { count = _; fetches = c.in-Ok.ensures.runs.fetches }

pub returns-in-Err-At-clause-lists : goal.returns-in-Err-At-clause-lists
returns-in-Err-At-clause-lists g c = λ left known.
    let run = rw c.in-Err-At.field-0-is at c.in-Err-At.ensures.runs in
    let rest = run.left left known in
    λ not. ap (λ (all : Run). all.fault) (rest.1.1.1.0 not)

pub returns-in-Err-At-clause-fetches : goal.returns-in-Err-At-clause-fetches
returns-in-Err-At-clause-fetches g c = record { count = _; fetches = c.list_into.ensures.runs.fetches }

pub returns-in-Err-At-clause-ended : goal.returns-in-Err-At-clause-ended
returns-in-Err-At-clause-ended g c = λ file good left known is.
    let of = c.in-Err-At.ensures in
    let run = rw c.in-Err-At.field-0-is at of.runs in
    let rest = (run.left left known).1.1.0 in
    let counts = c.counts-counts.ensures in
    let all = ap (λ (r : Run). names_of_all r.items) rest.1 in
    listing_over c.args.lister.now _ file (names_of_all left.items) c.counts-counts.result c.in-Err-At.fault (lists_on c.args.lister.now _ of.same run.fetches.same_content run.fetches.same_size) counts.value (counts.of_file file (run.fetches.same_content ∙ good.known))
    counts.held counts.spent (omega (arith, run.names.1, all, sum_by-append names_of run.items rest.0.items)) (of.refused c.in-Err-At.fault c.in-Err-At.field-0-is)
    (run.next c.requires.going) (run_ends c.args.lister.now c.list_into.new.self run.items (Err (runs.At c.in-Err-At.fault)) of.same.choice of.same.entries (run.follows c.requires.going)) is

pub returns-in-Err-Stopped-clause-lists : goal.returns-in-Err-Stopped-clause-lists
returns-in-Err-Stopped-clause-lists g c = let run = rw c.in-Err-Stopped.field-0-is at c.in-Err-Stopped.ensures.runs in absurd (never_stopped run.items _ _ run.handed)

pub returns-in-Err-Stopped-clause-fetches : goal.returns-in-Err-Stopped-clause-fetches
returns-in-Err-Stopped-clause-fetches g c = record { count = _; fetches = c.list_into.ensures.runs.fetches }

pub returns-in-Err-At-clause-good : goal.returns-in-Err-At-clause-good
returns-in-Err-At-clause-good g c = λ file good. c.in-Err-At.ensures.good file good c.in-Err-At.fault c.in-Err-At.field-0-is

pub returns-in-Ok-clause-requests : goal.returns-in-Ok-clause-requests
returns-in-Ok-clause-requests g c = λ left known.
    let ran = c.in-Ok.ensures.runs.requests in
    given_end c.in-Ok.ensures.runs.items c.args.lister.now ran.behind c.list_into.new.self left ran.requested ran.ended known

pub returns-in-Err-At-clause-requests : goal.returns-in-Err-At-clause-requests
returns-in-Err-At-clause-requests g c = λ left known not.
    let run = rw c.in-Err-At.field-0-is at c.in-Err-At.ensures.runs in
    given_fault run.items c.args.lister.now run.requests.behind c.list_into.new.self c.in-Err-At.fault left run.requests.requested run.requests.ended not known

pub returns-in-Err-Stopped-clause-requests : goal.returns-in-Err-Stopped-clause-requests
returns-in-Err-Stopped-clause-requests g c = let run = rw c.in-Err-Stopped.field-0-is at c.in-Err-Stopped.ensures.runs in absurd (never_stopped run.items _ _ run.handed)
