use Rattle.std.proofs.Common.{rules, ◌≡◌, ◌∙◌, ◌+◌, ◌<◌, ◌≤◌, ◌^◌, ℕ, None, Some, arith, ap, length, refl, subst}
use Rattle.std.specs.Prelude.{nat_lt, sum_by, if◌then◌else◌}
use Rattle.mdmp_source.specs.Store.{IsGood}
use Rattle.mdmp_lister.proofs.Fetches.{IsGood-later}
use Rattle.mdmp_wire.specs.declared.header.Header.{Header}
use Rattle.mdmp_lister.specs.declared.choice.Choice.TheVariants.{All}
use Rattle.mdmp_lister.specs.Format.Listing.{entry_count}
use Rattle.mdmp_engines.proofs.Engining.{IsOpened-new}
use Rattle.mdmp_c.specs.GivenRows.{AreChecked, AreNamesWithin, GivesChecked}
use Rattle.mdmp_c.specs.Fault.{budget_fault, status_of}
use Rattle.mdmp_lister.specs.declared.fault.ListFault.{ListFault}
use Rattle.mdmp_c.specs.Limits.{AreLimits, EndsChecking, KeepsChecking, most_read, names_checked}
use Rattle.mdmp_c.specs.Table.{EndsListAt, IsEndedAt}
use Rattle.mdmp_c.proofs.Coming.{opened_in}
use Rattle.mdmp_c.proofs.Ending.{Ends-refused_by, keeps_checking, keeps_memory, keeps_unchecked}
use Rattle.mdmp_c.proofs.Judging.{Ends-checked, all_checked, none_checked}
use Rattle.mdmp_c.proofs.Stopping.{ended_over, least_read, most_checked, opening_over, sized}
use Rattle.mdmp_c.proofs.given_rows.give_checked.Goals as goal

pub returns-in-Err : goal.returns-in-Err
returns-in-Err g c =
    let rows = g.R.GivenRows.rows_of in
    let given = g.R.GivenRows.given in
    let is_bad = g.R.GivenRows.is_bad in
    let file = c.args.file.now in
    let good : IsGood c.new-source.result.store file = search rules in
    let valid : AreLimits c.args.limits.now = c.in-Some.ensures.valid in
    Ends-refused_by (AreChecked rows given is_bad file c.args.limits.now.name) file All (AreLimits c.args.limits.now) c.args.limits.now c.in-Some.limits c.in-Some.ensures (EndsChecking c.args.limits.now file)
    (none_checked rows given is_bad file c.args.limits.now.name) (all_checked rows given is_bad file c.args.limits.now.name) (KeepsChecking c.args.limits.now file) (keeps_unchecked c.args.limits.now file) c.in-Err.refused.fault _ _ _ _ _ valid
    (opening_over c.args.limits.now c.in-Some.limits file All _ _ _ c.in-Err.refused.fault _ c.in-Some.ensures good.known (sized file c.new-source.result good.known c.new-source.ensures.content) (search rules) c.new-source.ensures.counts.0
    (least_read file All c.args.limits.now.name _) c.in-Err.ensures.refused.fetches.kept c.in-Err.ensures.refused.fetches.next c.in-Err.ensures.refused.over (c.in-Err.ensures.within file good.known))
    (c.in-Err.ensures.opens file good.known) (c.in-Err.ensures.within file good.known) (c.in-Err.ensures.refused.fetches.good file good)
    (c.refuse-in-Err.ensures.status ∙ ap status_of c.open_fault.ensures) c.refuse-in-Err.ensures.count
    (c.refuse-in-Err.ensures.fault ∙ c.open_fault.ensures) refl

pub returns : goal.returns
returns g c =
    let rows = g.R.GivenRows.rows_of in
    let given = g.R.GivenRows.given in
    let is_bad = g.R.GivenRows.is_bad in
    let file = c.args.file.now in
    let good : IsGood c.new-source.result.store file = search rules in
    let valid : AreLimits c.args.limits.now = c.in-Some.ensures.valid in
    let new = c.in-Ok.ensures.new in
    let lister = c.in-Ok.lister in
    let now : IsGood lister.source.store file = IsGood-later file _ _ _ new.fetches good in
    let judged = c.judge-judged in
    let MayEnd = EndsListAt lister (most_read file lister.choice lister.limit (lister.counts.names + names_checked file lister.choice lister.limit)) in
    let limit : lister.limit ≡ c.args.limits.now.name = new.list.asked.limit_is ∙ c.in-Some.ensures.name in
    let named = subst (λ (n : ℕ). GivesChecked given is_bad (rows file n) (AreNamesWithin lister file) MayEnd judged.result c.args.out.now judged.new.out) limit (judged.ensures.gives file now) in
    let entries : c.header-entries.result.number_of_streams ≡ entry_count file = ap (λ (h : Header). h.number_of_streams) (c.header-entries.ensures ∙ new.list.read.header_is file good.known) in
    let few_entries : entry_count file < 2 ^ 32 = omega (arith, entries) in
    let few = subst (λ (n : ℕ). sum_by is_bad (rows file n) ≤ entry_count file) limit (judged.ensures.few file) in
    let source_size = sized file c.new-source.result good.known c.new-source.ensures.content in
    let size : lister.source.size ≡ length file = new.fetches.same_size ∙ source_size in
    let memory = keeps_memory c.args.limits.now c.in-Some.limits file All None c.in-Some.ensures (c.in-Ok.ensures.within file good.known) (c.in-Ok.ensures.opens file good.known) (λ _. c.in-Ok.ensures.new.opening file good.known) in
    let most = most_checked file All c.args.limits.now.name lister new.list.asked.choice_is limit new.list.counts.names in
    let can : (f : ListFault) → MayEnd f → EndsChecking c.args.limits.now file (budget_fault f.offset f.size) =
    λ f ended. ended_over c.args.limits.now c.in-Some.limits file All (Some All) _ lister f.offset f.size c.in-Some.ensures (opened_in _ All c.in-Some.limits file lister good.known size new.list)
    (subst (λ n. IsEndedAt lister (Some n) f.offset f.size) most ended) in
    Ends-checked rows given is_bad file c.args.limits.now.name (AreLimits c.args.limits.now) (KeepsChecking c.args.limits.now file) (EndsChecking c.args.limits.now file) (AreNamesWithin lister file) MayEnd judged.result c.tell.result c.tell.new.count c.ending_told.result
    c.tell.new.fault c.args.out.now judged.new.out valid
    (keeps_checking c.args.limits.now c.in-Some.limits file c.new-source.result lister c.in-Some.ensures good.known source_size new memory) can
    (c.in-Ok.ensures.opens file good.known) few_entries few named c.ending_told.ensures
    (λ n is. subst (λ (m : ℕ). c.tell.result ≡ (if nat_lt m n then 4 else status_of c.ending_told.result)) judged.auto.out (c.tell.ensures.status n is)) c.tell.ensures.count c.tell.ensures.fault

pub judge-judged-requires : goal.judge-judged-requires
judge-judged-requires g c = IsOpened-new _ All _ _ c.in-Ok.ensures.new
