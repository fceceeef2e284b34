use Rattle.std.proofs.Common.{List, ap, sym, ◌∙◌}
use Rattle.std.specs.Prelude.{fold}
use Rattle.mdmp_lister.specs.declared.item.Item.{Item}
use Rattle.mdmp_summary.specs.BadEntries.{all_items}
use Rattle.mdmp_summary.specs.Gathering.{gathered_with}
use Rattle.mdmp_summary.specs.declared.gathering.Gathering.{Gathering}
use Rattle.mdmp_summary.proofs.Folds.{gathered_all}
use Rattle.mdmp_summary.proofs.Passing.{pass_failed, pass_made}
use Rattle.mdmp_summary.proofs.Told.{keeps_counted}
use Rattle.mdmp_summary.proofs.Visited.{folded_all}
use Rattle.mdmp_summary.proofs.passes.gather_all.Goals as goal

pub returns-in-Ok-clause-gathers : goal.returns-in-Ok-clause-gathers
returns-in-Ok-clause-gathers g c = λ file known.
    let all = all_items file c.args.walker.now.list.limit in
    let visits = (rw c.in-Ok.is at c.visit_all-visited.ensures).visits in
    let told = folded_all gathered_with c.args.walker.now.list.source.store.content c.args.walker.now.list.limit visits.items c.new-gathering.result c.visit_all-visited.new.visitor visits.visited
    ∙ ap (λ (items : List Item). fold gathered_with c.new-gathering.result items) (sym (visits.all file known))
    ∙ ap (λ (k : Gathering). fold gathered_with k all) c.new-gathering.ensures ∙ gathered_all all in
    λ i. record { gathering = told i; bad = (rw c.in-Ok.is at c.visit_all-visited.ensures).bad file known i }

pub returns-in-Ok-clause-passes : goal.returns-in-Ok-clause-passes
returns-in-Ok-clause-passes g c = pass_made c.visit_all-visited.ensures.pays (keeps_counted _ _ _ c.visit_all-visited.ensures.same c.counts-counts.ensures.value c.counts-counts.ensures.held) (rw c.in-Ok.is at c.visit_all-visited.ensures).visits (rw c.in-Ok.is at c.visit_all-visited.ensures).going

pub returns-in-Err-List-clause-passes : goal.returns-in-Err-List-clause-passes
returns-in-Err-List-clause-passes g c = pass_failed c.visit_all-visited.ensures.pays (keeps_counted _ _ _ c.visit_all-visited.ensures.same c.counts-counts.ensures.value c.counts-counts.ensures.held) (rw c.in-Err-List.is at c.visit_all-visited.ensures).visits (rw c.in-Err-List.is at c.visit_all-visited.ensures).begun
    (rw c.in-Err-List.is at c.in-Err-List.field-0-is) (rw c.in-Err-List.is at c.visit_all-visited.ensures).fault (rw c.in-Err-List.is at c.visit_all-visited.ensures).good
