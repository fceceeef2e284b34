use Rattle.std.proofs.Common.{rules, ◌≡◌, ◌∙◌, ap, length, subst, sym}
use Rattle.mdmp_source.specs.Store.{IsGood}
use Rattle.mdmp_lister.proofs.Fetches.{IsGood-later}
use Rattle.mdmp_summary.specs.BadEntries.{all_items}
use Rattle.mdmp_summary.specs.SpendingLaws.{keeps_summary}
use Rattle.mdmp_summary.specs.Summary.{file_summary}
use Rattle.mdmp_summary.specs.Summing.{passes_for}
use Rattle.mdmp_lister.specs.NamesFetched.{FetchesNames}
use Rattle.mdmp_summary.specs.declared.summary.FileSummary.{FileSummary}
use Rattle.mdmp_c.specs.Summary.{IsUnsummarized}
use Rattle.mdmp_lister.specs.declared.choice.Choice.TheVariants.{All}
use Rattle.mdmp_c.proofs.Coming.{opened_in}
use Rattle.mdmp_c.proofs.Stopping.{sized}
use Rattle.mdmp_c.proofs.Summarized.{call_told, opening_told}
use Rattle.mdmp_c.proofs.summary.sum_up.Goals as goal

pub returns-in-Err : goal.returns-in-Err
returns-in-Err c =
    let file = c.args.file.now in
    let good : IsGood c.new-source.result.store file = search rules in
    let refused = c.in-Err.ensures.refused in
    subst (IsUnsummarized file c.args.plain.now) (sym c.open_fault.ensures)
    (opening_told c.args.plain.now c.args.limits file c.requires c.new-source.result c.in-Err.refused.fault _ good.known (sized file c.new-source.result good.known c.new-source.ensures.content) (search rules) c.new-source.ensures.counts.0
    (c.in-Err.ensures.within file good.known) (refused.fetches.good file good) refused.fetches.kept refused.fetches.next refused.over)

pub returns-in-Ok-summarize_listing : goal.returns-in-Ok-summarize_listing
returns-in-Ok-summarize_listing c =
    let file = c.args.file.now in
    let good : IsGood c.new-source.result.store file = search rules in
    let new = c.in-Ok.ensures.new in
    let opened = c.in-Ok.walker in
    let ended = c.summarize_listing.new.walker in
    let sums = c.in-Ok-summarize_listing.ensures in
    let known = new.list.same_content ∙ good.known in
    let is : c.in-Ok-summarize_listing.summary ≡ file_summary file c.args.limits.name = sums.sums file known ∙ ap (file_summary file) new.list.asked.limit_is in
    let limited = subst (λ n. FetchesNames (passes_for c.in-Ok-summarize_listing.summary.crash) (all_items file n) opened.list.counts.fetched ended.list.counts.fetched) new.list.asked.limit_is (sums.named file known) in
    let named = subst (λ (s : FileSummary). FetchesNames (passes_for s.crash) (all_items file c.args.limits.name) opened.list.counts.fetched ended.list.counts.fetched) is limited in
    ((c.in-Ok.ensures.within file good.known, keeps_summary c.new-source.result c.args.limits file opened ended good.known new sums.keeps named), is)

pub returns : goal.returns
returns c =
    let file = c.args.file.now in
    let good : IsGood c.new-source.result.store file = search rules in
    let new = c.in-Ok.ensures.new in
    let now : IsGood c.in-Ok.walker.list.source.store file = IsGood-later file _ _ _ new.fetches good in
    let size : c.in-Ok.walker.list.source.size ≡ length file = new.fetches.same_size ∙ sized file c.new-source.result good.known c.new-source.ensures.content in
    let sums = c.in-Err-summarize_listing.ensures in
    subst (IsUnsummarized file c.args.plain.now) (sym c.summary_fault.ensures)
    (call_told c.args.plain.now c.args.limits file c.requires c.in-Ok.walker.list c.summarize_listing.new.walker.list c.in-Err-summarize_listing.fault (opened_in _ All c.args.limits file c.in-Ok.walker.list good.known size new.list)
    sums.keeps.same sums.keeps.held.kept.kept sums.fault (sums.good file now))
