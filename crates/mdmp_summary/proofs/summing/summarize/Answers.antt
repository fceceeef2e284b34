use Rattle.std.proofs.Common.{◌≡◌, None, ap, ◌∙◌, refl, subst}
use Rattle.mdmp_lister.specs.Memory.{walk_fault}
use Rattle.mdmp_summary.specs.Summary.{file_summary}
use Rattle.mdmp_summary.specs.Summing.{IsSummarizedThrough}
use Rattle.mdmp_summary.proofs.Told.{good_still, opened_good, told_good, told_known}
use Rattle.mdmp_summary.proofs.summing.summarize.Goals as goal

pub returns-in-Ok-clause-sums : goal.returns-in-Ok-clause-sums
returns-in-Ok-clause-sums g c = λ file known.
    let new = c.in-Ok.ensures.new.list in
    let sums = c.summarize_listing-answer.ensures in
    told_known c.args.limits file (walk_fault c.args.limits file ≡ None) c.in-Ok.walker.list c.summarize_listing-answer.new.walker.list (file_summary file c.in-Ok.walker.list.limit) (file_summary file c.args.limits.name) c.summarize_listing-answer.result
    (c.in-Ok.ensures.within file known) (ap (file_summary file) new.asked.limit_is) (sums.sums file (new.same_content ∙ known)) sums.fault

pub returns-in-Ok-clause-succeeds : goal.returns-in-Ok-clause-succeeds
returns-in-Ok-clause-succeeds g c = λ file good none.
    let new = c.in-Ok.ensures.new in
    let sums = c.summarize_listing-answer.ensures in
    told_good c.args.limits file c.in-Ok.walker.list c.summarize_listing-answer.new.walker.list c.summarize_listing-answer.result (sums.keeps.same.budget ∙ new.list.counts.budget_is ∙ none)
    sums.fault (sums.good file (good_still file _ c.args.source c.in-Ok.walker.list.source new.fetches good))

pub returns-in-Err-clause-succeeds : goal.returns-in-Err-clause-succeeds
returns-in-Err-clause-succeeds g c = λ file good none.
    let fetches = c.in-Err.ensures.refused.fetches in
    opened_good c.args.limits file c.args.source fetches.kept.fetched c.in-Err.field-0.fault none (c.in-Err.ensures.within file good.known) (fetches.good file good) fetches.kept.over

pub returns-in-Ok-clause-through : goal.returns-in-Ok-clause-through
returns-in-Ok-clause-through g c =
    let sums = c.summarize_listing-answer.ensures in
    IsSummarizedThrough.passed c.in-Ok.walker c.summarize_listing-answer.new.walker c.in-Ok.ensures.new sums.spends sums.keeps sums.fault
    (subst g.bound-4.may_go c.into_source.ensures.value c.let_go.ensures)

pub returns-in-Err-clause-through : goal.returns-in-Err-clause-through
returns-in-Err-clause-through g c = IsSummarizedThrough.refused c.in-Err.field-0.fault c.in-Err.field-0.source refl c.in-Err.ensures.refused c.let_go-in-Err.ensures
