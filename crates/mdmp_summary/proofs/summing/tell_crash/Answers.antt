use Rattle.std.proofs.Common.{◌∙◌, subst}
use Rattle.mdmp_lister.specs.Walker.{is_failed}
use Rattle.mdmp_summary.proofs.Passing.{context_within, crash_spends, spends_read}
use Rattle.mdmp_summary.specs.BadEntries.{all_items}
use Rattle.mdmp_summary.specs.Spending.{context_cost}
use Rattle.mdmp_lister.specs.NamesFetched.{FetchesNames}
use Rattle.mdmp_summary.proofs.Told.{good_still, keeps_counted, keeps_then, outside_listing, pass_later}
use Rattle.mdmp_summary.proofs.summing.tell_crash.Goals as goal

pub returns-in-Err-clause-fault : goal.returns-in-Err-clause-fault
returns-in-Err-clause-fault g c = record {
  told = c.in-Err.ensures.told;
  going = (λ i. is_failed (c.in-Err.ensures.reads.same i).list.stop) ∙ c.requires.going;
}

pub returns-in-Err-clause-spends : goal.returns-in-Err-clause-spends
returns-in-Err-clause-spends g c =
    let old = c.args.walker.now in
    let mid = c.read_registers.new.walker in
    spends_read old mid (context_within c.args.system c.args.exception.fields.thread_context old mid c.in-Err.ensures.reads)

pub returns-in-Err-clause-keeps : goal.returns-in-Err-clause-keeps
returns-in-Err-clause-keeps g c =
    let old = c.args.walker.now in
    let mid = c.read_registers.new.walker in
    keeps_counted old.list mid.list c.counts-counts.result (outside_listing _ old mid c.in-Err.ensures.reads) c.counts-counts.ensures.value c.counts-counts.ensures.held

pub returns-in-Ok-search_all-clause-spends : goal.returns-in-Ok-search_all-clause-spends
returns-in-Ok-search_all-clause-spends g c =
    let old = c.args.walker.now in
    let mid = c.read_registers.new.walker in
    let reads = context_within c.args.system c.args.exception.fields.thread_context old mid c.in-Ok.ensures.reads in
    crash_spends old mid c.search_all.new.walker (outside_listing context_cost old mid reads) (spends_read old mid reads) c.in-Ok-search_all.ensures.passes.spends

pub returns-in-Ok-search_all-clause-keeps : goal.returns-in-Ok-search_all-clause-keeps
returns-in-Ok-search_all-clause-keeps g c =
    let old = c.args.walker.now in
    let mid = c.read_registers.new.walker in
    keeps_then old.list mid.list c.search_all.new.walker.list (outside_listing _ old mid c.in-Ok.ensures.reads) c.in-Ok-search_all.ensures.passes.keeps

pub returns-in-Err-search_all-clause-fault : goal.returns-in-Err-search_all-clause-fault
returns-in-Err-search_all-clause-fault g c =
    let old = c.args.walker.now in
    let mid = c.read_registers.new.walker in
    pass_later old.list mid.list c.search_all.new.walker.list c.in-Err-search_all.fault (outside_listing _ old mid c.in-Ok.ensures.reads).same_file c.in-Err-search_all.ensures.passes.fault

pub returns-in-Err-search_all-clause-good : goal.returns-in-Err-search_all-clause-good
returns-in-Err-search_all-clause-good g c = λ file good.
    let reads = c.in-Ok.ensures.reads in
    c.in-Err-search_all.ensures.passes.good file (good_still file _ c.args.walker.now.list.source c.read_registers.new.walker.list.source reads.fetches good)

pub returns-in-Err-search_all-clause-spends : goal.returns-in-Err-search_all-clause-spends
returns-in-Err-search_all-clause-spends g c =
    let old = c.args.walker.now in
    let mid = c.read_registers.new.walker in
    let reads = context_within c.args.system c.args.exception.fields.thread_context old mid c.in-Ok.ensures.reads in
    let search = c.in-Err-search_all.ensures.passes in
    (crash_spends old mid c.search_all.new.walker (outside_listing context_cost old mid reads) (spends_read old mid reads) search.spends, search.none)

pub returns-in-Err-search_all-clause-keeps : goal.returns-in-Err-search_all-clause-keeps
returns-in-Err-search_all-clause-keeps g c =
    let old = c.args.walker.now in
    let mid = c.read_registers.new.walker in
    keeps_then old.list mid.list c.search_all.new.walker.list (outside_listing _ old mid c.in-Ok.ensures.reads) c.in-Err-search_all.ensures.passes.keeps

pub returns-in-Ok-search_all-clause-named : goal.returns-in-Ok-search_all-clause-named
returns-in-Ok-search_all-clause-named g c = λ file known.
    let old = c.args.walker.now in
    let mid = c.read_registers.new.walker in
    let new = c.search_all.new.walker in
    let reads = c.in-Ok.ensures.reads in
    let search = c.in-Ok-search_all.ensures.passes.named file (reads.fetches.same_content ∙ known) in
    subst (λ n. FetchesNames 1 (all_items file n) old.list.counts.fetched new.list.counts.fetched) (outside_listing _ old mid reads).limit
    (subst (λ n. FetchesNames 1 (all_items file mid.list.limit) n new.list.counts.fetched) reads.aside.same_fetched search)
