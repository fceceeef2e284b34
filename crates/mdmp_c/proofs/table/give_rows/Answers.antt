use Rattle.std.proofs.Common.{rules, ◌≡◌, ◌∙◌, ◌+◌, ℕ, List, None, Some, ap, length, refl, subst, sym}
use Rattle.std.specs.Option.{option_map}
use Rattle.std.specs.Prelude.{nat_lt, if◌then◌else◌}
use Rattle.mdmp_source.specs.Store.{IsGood}
use Rattle.mdmp_lister.proofs.Fetches.{IsGood-later}
use Rattle.mdmp_lister.specs.Format.Listing.{listing}
use Rattle.mdmp_c.specs.Fault.{budget_fault, list_told, status_of}
use Rattle.mdmp_c.specs.Limits.{AreLimits, EndsListing, KeepsListing, most_read, names_listed}
use Rattle.mdmp_c.specs.Table.{Collects, EndsListAt, IsEndedAt, IsTable}
use Rattle.mdmp_lister.specs.declared.fault.ListFault.{ListFault}
use Rattle.mdmp_lister.specs.declared.item.Item.{Item}
use Rattle.mdmp_lister.specs.Requested.{GivesByRequests}
use Rattle.mdmp_lister.specs.Sink.{names_of_all}
use Rattle.mdmp_c.proofs.Coming.{opened_in}
use Rattle.mdmp_c.proofs.Ending.{Ends-collected, Ends-unlisted, all_rows, keeps_listing, keeps_memory, no_rows}
use Rattle.mdmp_c.proofs.Stopping.{ended_over, least_read, most_listed, opening_over, sized}
use Rattle.mdmp_c.proofs.table.give_rows.Goals as goal

pub returns-in-Err : goal.returns-in-Err
returns-in-Err g c =
    let file = c.args.file.now in
    let good : IsGood c.new-source.result.store file = search rules in
    let valid : AreLimits c.args.limits.now = c.in-Some.ensures.valid in
    Ends-unlisted (IsTable g.T.PlainRow.row_of file c.args.choice c.args.limits.now.name) file c.args.choice (AreLimits c.args.limits.now) c.args.limits.now c.in-Some.limits c.in-Some.ensures
    (EndsListing c.args.limits.now file c.args.choice) (no_rows g.T.PlainRow.row_of file c.args.choice c.args.limits.now.name) (all_rows g.T.PlainRow.row_of file c.args.choice c.args.limits.now.name)
    c.in-Err.refused.fault _ _ _ _ _ valid (opening_over c.args.limits.now c.in-Some.limits file c.args.choice _ _ _ c.in-Err.refused.fault _ c.in-Some.ensures good.known (sized file c.new-source.result good.known c.new-source.ensures.content) (search rules) c.new-source.ensures.counts.0
    (least_read file c.args.choice c.args.limits.now.name _) c.in-Err.ensures.refused.fetches.kept c.in-Err.ensures.refused.fetches.next c.in-Err.ensures.refused.over (c.in-Err.ensures.within file good.known))
    (c.in-Err.ensures.opens file good.known) (c.in-Err.ensures.within file good.known) (c.in-Err.ensures.refused.fetches.good file good)
    (c.refuse-in-Err.ensures.status ∙ ap status_of c.open_fault.ensures) c.refuse-in-Err.ensures.count
    (c.refuse-in-Err.ensures.fault ∙ c.open_fault.ensures) refl

pub returns : goal.returns
returns g c =
    let file = c.args.file.now in
    let choice = c.args.choice in
    let good : IsGood c.new-source.result.store file = search rules in
    let valid : AreLimits c.args.limits.now = c.in-Some.ensures.valid in
    let new = c.in-Ok.ensures.new in
    let now : IsGood c.in-Ok.lister.source.store file = IsGood-later file _ _ _ new.fetches good in
    let run = listing file choice c.in-Some.limits.name in
    let left : c.in-Ok.lister.left ≡ Some run = new.list.given.left ∙ ap (option_map (λ (f : List ℕ). listing f choice c.in-Some.limits.name)) good.known in
    let rows = c.collect-collected.ensures file now run left in
    let name : c.in-Some.limits.name ≡ c.args.limits.now.name = c.in-Some.ensures.name in
    let lister = c.in-Ok.lister in
    let size : lister.source.size ≡ length file = new.fetches.same_size ∙ sized file c.new-source.result good.known c.new-source.ensures.content in
    let most : most_read file lister.choice lister.limit (lister.counts.names + names_of_all run.items) ≡ most_read file choice c.args.limits.now.name (names_listed file choice c.args.limits.now.name) =
    most_listed file choice c.in-Some.limits.name c.args.limits.now.name lister new.list.asked.choice_is new.list.asked.limit_is new.list.counts.names name in
    let MayEnd = EndsListAt lister (most_read file lister.choice lister.limit (lister.counts.names + names_of_all run.items)) in
    let can : (f : ListFault) → MayEnd f → EndsListing c.args.limits.now file choice (budget_fault f.offset f.size) =
    λ f ended. ended_over c.args.limits.now c.in-Some.limits file choice (Some choice) _ lister f.offset f.size c.in-Some.ensures (opened_in _ choice c.in-Some.limits file lister good.known size new.list)
    (subst (λ n. IsEndedAt lister (Some n) f.offset f.size) most ended) in
    let AreGivenSo : List Item → Type 0 = λ items. GivesByRequests lister items c.collect-collected.new.lister in
    let keeps : AreGivenSo (listing file choice c.args.limits.now.name).items → KeepsListing c.args.limits.now file choice = λ so.
    keeps_listing c.args.limits.now c.in-Some.limits file choice c.new-source.result lister c.collect-collected.new.lister c.in-Some.ensures good.known new
    (keeps_memory c.args.limits.now c.in-Some.limits file choice None c.in-Some.ensures (c.in-Ok.ensures.within file good.known) (c.in-Ok.ensures.opens file good.known) (λ _. c.in-Ok.ensures.new.opening file good.known))
    (subst (λ n. AreGivenSo (listing file choice n).items) (sym name) so) in
    let told = subst
    (λ (n : ℕ). Collects g.T.PlainRow.row_of MayEnd AreGivenSo (listing file choice n) c.collect-collected.result.count c.collect-collected.result.fault c.args.out.now c.collect-collected.new.out)
    name rows in
    rw c.tell.ensures.count
    (Ends-collected g.T.PlainRow.row_of file choice c.args.limits.now.name (AreLimits c.args.limits.now) (KeepsListing c.args.limits.now file choice) (EndsListing c.args.limits.now file choice) MayEnd AreGivenSo c.tell.result c.collect-collected.result.count
    c.collect-collected.result.fault c.tell.new.fault c.args.out.now c.collect-collected.new.out valid
    keeps can (c.in-Ok.ensures.opens file good.known) told
    (λ n is. subst (λ (m : ℕ). c.tell.result ≡ (if nat_lt m n then 4 else status_of (list_told c.collect-collected.result.fault))) c.collect-collected.auto.out (rw c.list_end.ensures at (c.tell.ensures.status n is))) (c.tell.ensures.fault ∙ c.list_end.ensures))
