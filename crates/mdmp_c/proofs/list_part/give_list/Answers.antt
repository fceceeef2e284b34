use Rattle.std.proofs.Common.{rules, ◌≡◌, ◌≤◌, ◌∙◌, ◌+◌, ◌++◌, ℕ, Err, List, [], Option, Some, None, true, ap, refl, length, subst, sym}
use Rattle.std.specs.Option.{option_map}
use Rattle.mdmp_source.specs.Count.{raised}
use Rattle.mdmp_source.specs.Store.{IsGood}
use Rattle.mdmp_lister.proofs.Fetches.{IsGood-later}
use Rattle.mdmp_lister.specs.declared.choice.Choice.TheVariants.{All}
use Rattle.mdmp_lister.specs.Format.Listing.{listing}
use Rattle.mdmp_c.specs.Fault.{status_of}
use Rattle.mdmp_c.specs.Limits.{AreLimits, EndsText, KeepsListing, KeepsText, ends_text, limit_of, most_read}
use Rattle.mdmp_lister.specs.declared.item.Item.{Item}
use Rattle.mdmp_lister.specs.declared.meter.Amount.{Amount}
use Rattle.mdmp_lister.specs.Memory.{is_within}
use Rattle.mdmp_lister.specs.Requested.{GivesByRequests}
use Rattle.mdmp_lister.specs.Sink.{names_of_all}
use Rattle.mdmp_c.specs.TextPart.{EndsTextAt, IsListPart, IsPartOf, PutsRun}
use Rattle.mdmp_c.specs.ToolFault.{list_answer}
use Rattle.mdmp_engines.specs.declared.fault.ToolFault.{ToolFault}
use Rattle.mdmp_print.specs.Forms.{dump_line_in}
use Rattle.mdmp_engines.specs.Text.{run_text}
use Rattle.mdmp_engines.specs.Symbols.{taken_bytes}
use Rattle.mdmp_wire.specs.declared.header.Header.{Header}
use Rattle.mdmp_c.proofs.Coming.{opened_in}
use Rattle.mdmp_c.proofs.AsideRead.{both_to_end, within_less}
use Rattle.mdmp_c.proofs.Ending.{Ends-refused_by, keeps_listing, keeps_memory, keeps_untold}
use Rattle.mdmp_c.proofs.Listed.{Ends-part, all_parts, no_part}
use Rattle.mdmp_c.proofs.Stopping.{least_read, most_listed, opening_over, sized, text_ended}
use Rattle.mdmp_c.proofs.list_part.give_list.Goals as goal

pub returns-in-Err : goal.returns-in-Err
returns-in-Err c =
    let file = c.args.file.now in
    let good : IsGood c.new-source.result.store file = search rules in
    let valid : AreLimits c.args.limits.now = c.in-Some.ensures.valid in
    Ends-refused_by (IsListPart c.args.form c.args.pdb c.args.skip file c.args.limits.now.name) file All (AreLimits c.args.limits.now) c.args.limits.now c.in-Some.limits c.in-Some.ensures
    (EndsText c.args.limits.now file c.args.pdb) (no_part c.args.form c.args.pdb file c.args.limits.now.name c.args.skip) (all_parts c.args.form c.args.pdb file c.args.limits.now.name c.args.skip)
    (KeepsText c.args.limits.now file c.args.pdb) (keeps_untold c.args.limits.now file c.args.pdb) c.in-Err.refused.fault _ _ _ _ _ valid (λ told. ends_text (opening_over c.args.limits.now c.in-Some.limits file All _ _ _ c.in-Err.refused.fault _ c.in-Some.ensures good.known (sized file c.new-source.result good.known c.new-source.ensures.content) (search rules) c.new-source.ensures.counts.0
    (least_read file All c.args.limits.now.name _) c.in-Err.ensures.refused.fetches.kept c.in-Err.ensures.refused.fetches.next c.in-Err.ensures.refused.over (c.in-Err.ensures.within file good.known) told))
    (c.in-Err.ensures.opens file good.known) (c.in-Err.ensures.within file good.known) (c.in-Err.ensures.refused.fetches.good file good)
    (c.refuse-in-Err.ensures.status ∙ ap status_of c.open_fault.ensures) c.refuse-in-Err.ensures.count
    (c.refuse-in-Err.ensures.fault ∙ c.open_fault.ensures) refl

pub returns : goal.returns
returns c =
    let file = c.args.file.now in
    let pdb = c.args.pdb in
    let skip = c.args.skip in
    let name = c.args.limits.now.name in
    let good : IsGood c.new-source.result.store file = search rules in
    let valid : AreLimits c.args.limits.now = c.in-Some.ensures.valid in
    let new = c.in-Ok.ensures.new in
    let now : IsGood c.in-Ok.lister.source.store file = IsGood-later file _ _ _ new.fetches good in
    let limit : c.in-Some.limits.name ≡ name = c.in-Some.ensures.name in
    let left : c.in-Ok.lister.left ≡ Some (listing file All name) =
    new.list.given.left ∙ ap (option_map (λ (f : List ℕ). listing f All c.in-Some.limits.name)) good.known ∙ ap (λ n. Some (listing file All n)) limit in
    let puts = c.gather_list-answer.ensures.puts file now (listing file All name) left skip (length c.args.out.now) [] c.new-part.ensures in
    let lister = c.in-Ok.lister in
    let run = listing file All name in
    let IsPut : List ℕ → Type 0 = λ text. IsPartOf skip (length c.args.out.now) text c.gather_list-answer.new.part.skip c.gather_list-answer.new.part.room c.gather_list-answer.new.part.size c.gather_list-answer.new.part.kept.items in
    let named = subst (λ n. PutsRun IsPut (EndsTextAt lister (most_read file lister.choice lister.limit (lister.counts.names + names_of_all run.items)) c.in-Some.limits.aside pdb run) (dump_line_in c.args.form lister.header ++ run_text c.args.form pdb file n run) run c.gather_list-answer.result)
    (new.list.asked.limit_is ∙ limit) puts in
    let told = subst (λ (h : Header). PutsRun IsPut (EndsTextAt lister (most_read file lister.choice lister.limit (lister.counts.names + names_of_all run.items)) c.in-Some.limits.aside pdb run) (dump_line_in c.args.form h ++ run_text c.args.form pdb file name run) run c.gather_list-answer.result)
    (new.list.read.header_is file good.known) named in
    let size : lister.source.size ≡ length file = new.fetches.same_size ∙ sized file c.new-source.result good.known c.new-source.ensures.content in
    let none : lister.counts.aside.bytes ≡ 0 = ap (λ (a : Amount). a.bytes) new.list.counts.aside in
    let can : (f : ToolFault) → EndsTextAt lister (most_read file lister.choice lister.limit (lister.counts.names + names_of_all run.items)) c.in-Some.limits.aside pdb run f → EndsText c.args.limits.now file pdb (list_answer (Err f)) =
    text_ended c.args.limits.now c.in-Some.limits file lister _ pdb c.in-Some.ensures (opened_in _ All c.in-Some.limits file lister good.known size new.list) none
    (most_listed file All name name lister new.list.asked.choice_is (new.list.asked.limit_is ∙ limit) new.list.counts.names refl) in
    let last = c.gather_list-answer.new.lister in
    let asked = c.gather_list-answer.ensures.requests in
    let keeps : asked.items ≡ run.items → KeepsListing c.args.limits.now file All = λ same.
    keeps_listing c.args.limits.now c.in-Some.limits file All c.new-source.result lister last c.in-Some.ensures good.known new
    (keeps_memory c.args.limits.now c.in-Some.limits file All None c.in-Some.ensures (c.in-Ok.ensures.within file good.known) (c.in-Ok.ensures.opens file good.known) (λ _. c.in-Ok.ensures.new.opening file good.known))
    (subst (λ n. GivesByRequests lister (listing file All n).items last) (sym limit) (subst (λ (xs : List Item). GivesByRequests lister xs last) same asked.given)) in
    let within : raised lister.counts.aside.bytes (taken_bytes file pdb lister.limit run.items) ≤ last.counts.aside.bytes → is_within (limit_of c.args.limits.now.aside) (raised 0 (taken_bytes file pdb name run.items)) ≡ true = λ taken.
    let least : raised 0 (taken_bytes file pdb name run.items) ≤ last.counts.aside.bytes = rw (none, new.list.asked.limit_is ∙ limit) at taken in
    within_less (limit_of c.args.limits.now.aside) last.counts.aside.bytes (raised 0 (taken_bytes file pdb name run.items)) least (subst (λ (a : Option ℕ). is_within a last.counts.aside.bytes ≡ true) c.in-Some.ensures.aside c.gather_list-answer.ensures.aside) in
    let told_to_end = both_to_end c.gather_list-answer.result (asked.items ≡ run.items) (raised lister.counts.aside.bytes (taken_bytes file pdb lister.limit run.items) ≤ last.counts.aside.bytes) (KeepsText c.args.limits.now file pdb)
    (λ same taken. record { listed = keeps same; beside = λ _. within taken }) (asked.whole run left) (c.gather_list-answer.ensures.taken file now.known run left) in
    Ends-part c.args.form pdb file name skip (AreLimits c.args.limits.now) (KeepsText c.args.limits.now file pdb) (EndsText c.args.limits.now file c.args.pdb) (EndsTextAt lister (most_read file lister.choice lister.limit (lister.counts.names + names_of_all run.items)) c.in-Some.limits.aside pdb run)
    c.gather_list-answer.result told_to_end c.give.result c.give.new.size c.give.new.fault c.args.out.now c.give.new.out _ _ _ _ valid can
    (c.in-Ok.ensures.opens file good.known) told (rw c.list_answer.ensures at c.give.ensures.gives) (rw c.list_answer.ensures at c.give.ensures.wants)
