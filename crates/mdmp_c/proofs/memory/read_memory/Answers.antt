use Rattle.std.proofs.Common.{rules, ◌≡◌, ◌∙◌, ℕ, ◌+◌, Bool, List, None, Some, ap, length, sym, subst}
use Rattle.std.specs.Option.{option_map}
use Rattle.std.specs.Prelude.{IsTrue}
use Rattle.mdmp_source.specs.Store.{IsGood}
use Rattle.mdmp_lister.proofs.Fetches.{IsGood-later}
use Rattle.mdmp_lister.specs.Fault.{IsUnobtained}
use Rattle.mdmp_lister.specs.Format.Listing.{listing, memory_lists}
use Rattle.mdmp_c.specs.Fault.{budget_fault, status_of}
use Rattle.mdmp_lister.specs.declared.fault.FaultKind.TheVariants as kinds
use Rattle.mdmp_lister.specs.declared.choice.Choice.{Choice}
use Rattle.mdmp_lister.specs.Memory.{IsRefusalWithin}
use Rattle.mdmp_lister.specs.Sink.{names_of_all}
use Rattle.mdmp_c.specs.Limits.{AreLimits, EndsListing, KeepsListing, most_read, names_listed}
use Rattle.mdmp_c.specs.Table.{IsEndedAt}
use Rattle.mdmp_lister.specs.NextFetch.{TellsNextOpening}
use Rattle.mdmp_c.proofs.Coming.{IsOpenedIn, opened_in}
use Rattle.mdmp_c.proofs.Ending.{keeps_listing, keeps_memory}
use Rattle.mdmp_c.proofs.Remembered.{ReadsMemory-fault, ReadsMemory-refused}
use Rattle.mdmp_c.proofs.Stopping.{ended_over, least_read, most_listed, opening_over, sized}
use Rattle.mdmp_c.proofs.memory.read_memory.Goals as goal

pub returns-in-Err : goal.returns-in-Err
returns-in-Err c =
    let file = c.args.file.now in
    let good : IsGood c.new-source.result.store file = search rules in
    let valid : AreLimits c.args.limits.now = c.in-Some.ensures.valid in
    ReadsMemory-refused file c.args.limits.now c.memory_lists.result c.args.address _ _ valid c.if-out-known.false c.memory_lists.ensures c.in-Some.limits c.in-Some.ensures c.in-Err.refused.fault _ _
    (opening_over c.args.limits.now c.in-Some.limits file memory_lists _ _ _ c.in-Err.refused.fault _ c.in-Some.ensures good.known (sized file c.new-source.result good.known c.new-source.ensures.content) (search rules) c.new-source.ensures.counts.0
    (least_read file memory_lists c.args.limits.now.name _) c.in-Err.ensures.refused.fetches.kept
    (subst (λ (choice : Choice). TellsNextOpening (Some choice) c.in-Some.limits c.new-source.result c.in-Err.refused.fault c.in-Err.refused.source) c.memory_lists.ensures c.in-Err.ensures.refused.fetches.next) c.in-Err.ensures.refused.over
    (subst (λ (choice : Choice). IsRefusalWithin c.in-Some.limits file choice c.in-Err.refused.fault) c.memory_lists.ensures (c.in-Err.ensures.within file good.known)))
    (c.in-Err.ensures.opens file good.known) (c.in-Err.ensures.within file good.known) (c.in-Err.ensures.refused.fetches.good file good)
    (ap status_of c.open_fault.ensures) c.open_fault.ensures

pub returns-in-Err-list_ranges : goal.returns-in-Err-list_ranges
returns-in-Err-list_ranges c =
    let file = c.args.file.now in
    let good : IsGood c.new-source.result.store file = search rules in
    let valid : AreLimits c.args.limits.now = c.in-Some.ensures.valid in
    let new = c.in-Ok.ensures.new in
    let now : IsGood c.in-Ok.lister.source.store file = IsGood-later file _ _ _ new.fetches good in
    let choice = c.memory_lists.result in
    let name = c.in-Some.limits.name in
    let left : c.in-Ok.lister.left ≡ Some (listing file choice name) = new.list.given.left ∙ ap (option_map (λ (f : List ℕ). listing f choice name)) good.known in
    let f = c.in-Err-list_ranges.found in
    let lister = c.in-Ok.lister in
    let size : lister.source.size ≡ length file = new.fetches.same_size ∙ sized file c.new-source.result good.known c.new-source.ensures.content in
    let run = listing file memory_lists name in
    let listed : lister.left ≡ Some run = left ∙ ap (λ (choice : Choice). Some (listing file choice name)) c.memory_lists.ensures in
    let most : most_read file lister.choice lister.limit (lister.counts.names + names_of_all run.items) ≡ most_read file memory_lists c.args.limits.now.name (names_listed file memory_lists c.args.limits.now.name) =
    most_listed file memory_lists name c.args.limits.now.name lister (new.list.asked.choice_is ∙ c.memory_lists.ensures) new.list.asked.limit_is new.list.counts.names c.in-Some.ensures.name in
    let can : f.kind ≡ kinds.Budget → EndsListing c.args.limits.now file memory_lists (budget_fault f.offset f.size) = λ is.
    ended_over c.args.limits.now c.in-Some.limits file memory_lists (Some memory_lists) _ lister f.offset f.size c.in-Some.ensures
    (subst (λ (choice : Choice). IsOpenedIn c.in-Some.limits file choice lister) c.memory_lists.ensures (opened_in _ choice c.in-Some.limits file lister good.known size new.list))
    (subst (λ n. IsEndedAt lister (Some n) f.offset f.size) most (c.in-Err-list_ranges.ensures.ended file now run listed is)) in
    let last = c.list_ranges.new.lister in
    let keeps : (IsUnobtained f.kind → ⊥) → KeepsListing c.args.limits.now file memory_lists = λ not.
    subst (KeepsListing c.args.limits.now file) c.memory_lists.ensures
    (keeps_listing c.args.limits.now c.in-Some.limits file c.memory_lists.result c.new-source.result c.in-Ok.lister last c.in-Some.ensures good.known c.in-Ok.ensures.new
    (keeps_memory c.args.limits.now c.in-Some.limits file c.memory_lists.result None c.in-Some.ensures (c.in-Ok.ensures.within file good.known) (c.in-Ok.ensures.opens file good.known) (λ _. c.in-Ok.ensures.new.opening file good.known))
    (c.in-Err-list_ranges.ensures.requests (listing file choice name) left not)) in
    ReadsMemory-fault file c.args.limits.now name choice f _ _ _ _ _ valid keeps c.if-out-known.false c.memory_lists.ensures c.in-Some.ensures.name (c.in-Ok.ensures.opens file good.known)
    (c.in-Err-list_ranges.ensures.good file now) (c.in-Err-list_ranges.ensures.lists (listing file choice name) left) can
    (ap status_of c.plain_list_fault.ensures) c.plain_list_fault.ensures

pub returns : goal.returns
returns c =
    let file = c.args.file.now in
    let good : IsGood c.new-source.result.store file = search rules in
    let new = c.in-Ok.ensures.new in
    let more = c.list_ranges.ensures.fetches.fetches in
    let last : IsGood c.list_ranges.new.lister.source.store file = record {
      known = more.same_content ∙ new.fetches.same_content ∙ good.known;
      reliable = subst (λ (b : Bool). IsTrue b) (sym (more.same_reliable ∙ new.fetches.same_reliable)) good.reliable;
    } in
    let wrong = c.in-Err-read_address.ensures.reads.good file last in
    absurd (cc)

pub returns-in-Ok-read_address : goal.returns-in-Ok-read_address
returns-in-Ok-read_address c =
    let file = c.args.file.now in
    let good : IsGood c.new-source.result.store file = search rules in
    let choice = c.memory_lists.result in
    let name = c.in-Some.limits.name in
    let left : c.in-Ok.lister.left ≡ Some (listing file choice name) = c.in-Ok.ensures.new.list.given.left ∙ ap (option_map (λ (f : List ℕ). listing f choice name)) good.known in
    let last = c.list_ranges.new.lister in
    let keeps : KeepsListing c.args.limits.now file memory_lists =
    subst (KeepsListing c.args.limits.now file) c.memory_lists.ensures
    (keeps_listing c.args.limits.now c.in-Some.limits file c.memory_lists.result c.new-source.result c.in-Ok.lister last c.in-Some.ensures good.known c.in-Ok.ensures.new
    (keeps_memory c.args.limits.now c.in-Some.limits file c.memory_lists.result None c.in-Some.ensures (c.in-Ok.ensures.within file good.known) (c.in-Ok.ensures.opens file good.known) (λ _. c.in-Ok.ensures.new.opening file good.known))
    (c.in-Ok-list_ranges.ensures.requests (listing file choice name) left)) in
    search (rules, keeps)
