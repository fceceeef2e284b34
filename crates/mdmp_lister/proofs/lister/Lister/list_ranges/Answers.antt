use Rattle.std.proofs.Common.{◌∙◌, ◌++◌, ap}
use Rattle.mdmp_lister.specs.Format.Listing.{Run}
use Rattle.mdmp_lister.proofs.Unseen.{never_stopped, ranges-all}
use Rattle.mdmp_lister.proofs.lister.Lister.list_ranges.Goals as goal

pub returns-in-Ok-clause-lists : goal.returns-in-Ok-clause-lists
returns-in-Ok-clause-lists g c = λ left known.
    let run = c.in-Ok.ensures.runs in
    let rest = run.left left known in
    let all = ranges-all left run.items rest.1.1.0 in
    (all.0, run.ranges ∙ ap (λ rs. c.args.self.now.ranges ++ rs) all.1)

pub returns-in-Err-Stopped-clause-lists : goal.returns-in-Err-Stopped-clause-lists
returns-in-Err-Stopped-clause-lists g c = let run = rw c.in-Err-Stopped.field-0-is at c.in-Err-Stopped.ensures.runs in absurd (never_stopped run.items _ _ run.handed)

pub returns-in-Ok-clause-fetches : goal.returns-in-Ok-clause-fetches
returns-in-Ok-clause-fetches g c = record { count = _; fetches = c.in-Ok.ensures.runs.fetches }

pub returns-in-Err-At-clause-fetches : goal.returns-in-Err-At-clause-fetches
returns-in-Err-At-clause-fetches g c = record { count = _; fetches = c.list_into.ensures.runs.fetches }

pub returns-in-Err-Stopped-clause-fetches : goal.returns-in-Err-Stopped-clause-fetches
returns-in-Err-Stopped-clause-fetches g c = record { count = _; fetches = c.list_into.ensures.runs.fetches }

pub returns-in-Ok-clause-follows : goal.returns-in-Ok-clause-follows
returns-in-Ok-clause-follows g c =
    let run = c.in-Ok.ensures.runs in
    record { items = run.items; ranges = run.ranges; follows = run.follows c.requires.going; next = run.next c.requires.going; requests = run.requests }

pub returns-in-Err-At-clause-follows : goal.returns-in-Err-At-clause-follows
returns-in-Err-At-clause-follows g c =
    let run = rw c.in-Err-At.field-0-is at c.in-Err-At.ensures.runs in
    record { items = run.items; ranges = run.ranges; follows = run.follows c.requires.going; next = run.next c.requires.going; requests = run.requests }

pub returns-in-Err-Stopped-clause-follows : goal.returns-in-Err-Stopped-clause-follows
returns-in-Err-Stopped-clause-follows g c = let run = rw c.in-Err-Stopped.field-0-is at c.in-Err-Stopped.ensures.runs in absurd (never_stopped run.items _ _ run.handed)

pub returns-in-Err-At-clause-lists : goal.returns-in-Err-At-clause-lists
returns-in-Err-At-clause-lists g c = λ left known.
    let run = rw c.in-Err-At.field-0-is at c.in-Err-At.ensures.runs in
    let rest = run.left left known in
    λ not. ap (λ (all : Run). all.fault) (rest.1.1.1.0 not)

pub returns-in-Err-At-clause-good : goal.returns-in-Err-At-clause-good
returns-in-Err-At-clause-good g c = λ file good. c.in-Err-At.ensures.good file good _ c.in-Err-At.field-0-is
