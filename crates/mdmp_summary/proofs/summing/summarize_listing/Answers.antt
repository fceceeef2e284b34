use Rattle.std.proofs.Common.{rules, ◌≡◌, ◌∙◌, Option, Some, Err, ap, arith, refl, subst, sym}
use Rattle.mdmp_summary.proofs.Passing.{crash_paid, fault_spends, summary_spends}
use Rattle.mdmp_lister.proofs.NamesFetched.{names_again}
use Rattle.mdmp_summary.specs.BadEntries.{all_items}
use Rattle.mdmp_summary.specs.SpendingLaws.{spends_more}
use Rattle.mdmp_summary.specs.Summing.{passes_for}
use Rattle.mdmp_lister.specs.NamesFetched.{FetchesNames}
use Rattle.mdmp_summary.specs.declared.summary.Crash.{Crash}
use Rattle.mdmp_summary.proofs.Told.{call_later, good_still, keeps_then}
use Rattle.mdmp_summary.specs.declared.summary.FileSummary.{FileSummary}
use Rattle.mdmp_summary.proofs.summing.summarize_listing.Goals as goal

pub returns-in-Err-clause-spends : goal.returns-in-Err-clause-spends
returns-in-Err-clause-spends g c = (spends_more 1 2 0 1 c.args.walker.now c.gather_all.new.walker (omega arith) (omega arith) c.in-Err.ensures.passes.spends, c.in-Err.ensures.passes.none)

pub returns-clause-spends : goal.returns-clause-spends
returns-clause-spends g c =
    let first = c.in-Ok.ensures.passes in
    crash_paid c.summary-2.result (Some _) c.args.walker.now c.tell_crash.new.walker (ap (λ (s : FileSummary). s.crash) c.summary-2.ensures)
    (summary_spends c.args.walker.now c.gather_all.new.walker c.tell_crash.new.walker first.keeps.same first.spends c.in_ok-crash.ensures.spends)

pub returns-clause-keeps : goal.returns-clause-keeps
returns-clause-keeps g c =
    keeps_then c.args.walker.now.list c.gather_all.new.walker.list c.tell_crash.new.walker.list c.in-Ok.ensures.passes.keeps.same c.in_ok-crash.ensures.keeps

pub returns-in_err-crash-clause-fault : goal.returns-in_err-crash-clause-fault
returns-in_err-crash-clause-fault g c =
    let fault = c.in_err-crash.field-0.0 in
    let is : c.from_residual.result ≡ Err fault = search rules in
    rw is (call_later c.args.walker.now.list c.gather_all.new.walker.list c.tell_crash.new.walker.list fault c.in-Ok.ensures.passes.keeps.same.same_file c.in_err-crash.ensures.fault)

pub returns-in_err-crash-clause-good : goal.returns-in_err-crash-clause-good
returns-in_err-crash-clause-good g c = λ file good.
    let fetches = c.in-Ok.ensures.passes.keeps.same.same_file.fetches in
    let fault = c.in_err-crash.field-0.0 in
    let is : c.from_residual.result ≡ Err fault = search rules in
    rw is (c.in_err-crash.ensures.good file (good_still file _ c.args.walker.now.list.source c.gather_all.new.walker.list.source fetches good))

pub returns-in_err-crash-clause-spends : goal.returns-in_err-crash-clause-spends
returns-in_err-crash-clause-spends g c =
    let first = c.in-Ok.ensures.passes in
    let fault = c.in_err-crash.field-0.0 in
    let is : c.from_residual.result ≡ Err fault = search rules in
    rw is (fault_spends fault c.args.walker.now c.gather_all.new.walker c.tell_crash.new.walker first.keeps.same first.spends c.in_err-crash.ensures.spends)

pub returns-in_err-crash-clause-keeps : goal.returns-in_err-crash-clause-keeps
returns-in_err-crash-clause-keeps g c =
    keeps_then c.args.walker.now.list c.gather_all.new.walker.list c.tell_crash.new.walker.list c.in-Ok.ensures.passes.keeps.same c.in_err-crash.ensures.keeps

pub returns-clause-named : goal.returns-clause-named
returns-clause-named g c = λ file known.
    let old = c.args.walker.now.list in
    let mid = c.gather_all.new.walker.list in
    let new = c.tell_crash.new.walker.list in
    let all = all_items file old.limit in
    let same = c.in-Ok.ensures.passes.keeps.same in
    let second = subst (λ n. FetchesNames 1 (all_items file n) mid.counts.fetched new.counts.fetched) same.limit (c.in_ok-crash.ensures.named file (same.same_file.fetches.same_content ∙ known)) in
    let both = names_again 1 1 2 refl all old.counts.fetched mid.counts.fetched new.counts.fetched (c.in-Ok.ensures.passes.named file known) second in
    subst (λ (crash : Option Crash). FetchesNames (passes_for crash) all old.counts.fetched new.counts.fetched) (sym (ap (λ (s : FileSummary). s.crash) c.summary-2.ensures)) both

pub returns-clause-sums : goal.returns-clause-sums
returns-clause-sums g c = λ file known.
    let same = c.in-Ok.ensures.passes.keeps.same in
    let limit = same.limit in
    let tells = c.in_ok-crash.ensures.tells file (same.same_file.fetches.same_content ∙ known) in
    search rules
