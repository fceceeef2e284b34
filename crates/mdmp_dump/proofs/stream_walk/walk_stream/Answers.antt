use Rattle.std.proofs.Common.{◌≡◌, ◌+◌, ◌*◌, ◌∙◌, ap, arith, inr, rules, subst, sym, Ok, Err}
use Rattle.mdmp_wire.specs.declared.entry.Entry.{Entry}
use Rattle.mdmp_lister.specs.Meter.{KeepsTo}
use Rattle.mdmp_dump.specs.declared.found_record.PartAt.{PartAt}
use Rattle.mdmp_dump.specs.declared.stream_walk.Walked.{Walked}
use Rattle.mdmp_dump.specs.EntryWalk.{Begins, Pays, WalkState, chosen_entry, listed, name_cost, pass_cost, raw_part}
use Rattle.mdmp_dump.specs.FileView.{PaysUpTo, kind_at}
use Rattle.mdmp_dump.specs.Placed.{size_in}
use Rattle.mdmp_dump.specs.Reading.{Fetches}
use Rattle.mdmp_dump.specs.Shape.{GivesNone}
use Rattle.mdmp_dump.proofs.Budgets.{budget_told, place_own, place_pass, place_walk, walk_opens}
use Rattle.mdmp_dump.proofs.Taking.{FetchesSome_none, Fetches_as, Fetches_only}
use Rattle.mdmp_dump.proofs.WalkedOver.{budget_fetches, budget_refuses, next_refused, untouched_paid, walking_begins, walking_ends, walking_fetches, walking_keeps, walking_paid, walking_refused, walking_takes, walking_unbegun}
use Rattle.mdmp_dump.proofs.stream_walk.walk_stream.Goals as goal

pub begin-requires : goal.begin-requires
begin-requires g c = rw c.entry-entry.ensures.same c.requires.within

pub loop-index-init : goal.loop-index-init
loop-index-init g c =
    let begins = subst (λ (v : WalkState). Begins v c.args.stream (Ok c.in_ok-count.count) c.begin.new.self) c.entry-entry.ensures.same c.in_ok-count.ensures in
    let part = ap (λ (p : PartAt). size_in p.size) (c.raw_part.ensures ∙ ap raw_part c.entry-entry.ensures.value) in
    walking_begins g.row.A.Denot c.args.limit c.args.walk.now c.args.stream c.in_ok-count.count c.begin.new.self c.from-asks.result (c.from-asks.ensures ∙ c.size.ensures ∙ part) (omega (arith, c.from-asks.ensures, c.size.type_inv)) begins

pub loop-index-preserved : goal.loop-index-preserved
loop-index-preserved g c =
    walking_takes g.row.A.Denot c.args.limit c.args.walk.now c.args.stream c.in_ok-count.count c.loop-index.walk c.loop-index.index c.loop-index.room c.loop-index.asks c.loop-index.invariant c.walk_record.new.walk c.in_ok-taken.taken
    c.in_ok-taken.ensures c.loop-index-test.true

-- ---- a budget that has no room for the stream

pub returns-in_err-keep_to_budget-clause-pays : goal.returns-in_err-keep_to_budget-clause-pays
returns-in_err-keep_to_budget-clause-pays g c =
    let fault = c.in_err-keep_to_budget.field-0.0 in
    let is : c.from_residual.result ≡ Err fault = search rules in
    rw is (subst (λ (v : WalkState). PaysUpTo c.args.stream c.args.walk.now v) (sym c.entry-entry.ensures.same) (untouched_paid g.row.A.Denot c.args.limit c.args.walk.now c.args.stream))

pub returns-in_err-keep_to_budget-clause-told : goal.returns-in_err-keep_to_budget-clause-told
returns-in_err-keep_to_budget-clause-told g c =
    let fault = c.in_err-keep_to_budget.field-0.0 in
    let is : c.from_residual.result ≡ Err fault = search rules in
    rw is (budget_told c.args.spending.budget (c.args.spending.spent + pass_cost c.entry-entry.result 0) _ _ fault c.in_err-keep_to_budget.ensures.told c.in_err-keep_to_budget.ensures.kept)

pub returns-in_err-keep_to_budget-clause-of_file : goal.returns-in_err-keep_to_budget-clause-of_file
returns-in_err-keep_to_budget-clause-of_file g c =
    let fault = c.in_err-keep_to_budget.field-0.0 in
    let is : c.from_residual.result ≡ Err fault = search rules in
    rw is (λ F known. budget_refuses g.row.A.Denot c.args.limit c.args.walk.now c.args.stream fault _ _ c.in_err-keep_to_budget.ensures.told F)

pub returns-in_err-keep_to_budget-clause-fetches : goal.returns-in_err-keep_to_budget-clause-fetches
returns-in_err-keep_to_budget-clause-fetches g c =
    let fault = c.in_err-keep_to_budget.field-0.0 in
    let is : c.from_residual.result ≡ Err fault = search rules in
    rw is (subst (λ (v : WalkState). Fetches {T = Walked} (Err fault) c.args.walk.now.source v.source) (sym c.entry-entry.ensures.same)
    (budget_fetches g.row.A.Denot c.args.limit c.args.walk.now c.args.stream {T = Walked} fault _ _ c.args.walk.now c.in_err-keep_to_budget.ensures.told c.requires.long (FetchesSome_none c.args.walk.now.source)))

pub returns-in_err-keep_to_budget-clause-place : goal.returns-in_err-keep_to_budget-clause-place
returns-in_err-keep_to_budget-clause-place g c =
    let fault = c.in_err-keep_to_budget.field-0.0 in
    let is : c.from_residual.result ≡ Err fault = search rules in
    rw is (λ F known.
    place_own c.args.spending.budget c.args.spending.spent F (chosen_entry c.args.walk.now c.args.stream) c.entry-entry.result fault c.entry-entry.ensures.value c.in_err-keep_to_budget.ensures.told c.in_err-keep_to_budget.ensures.kept)

pub returns-in_err-keep_to_budget-2-clause-place : goal.returns-in_err-keep_to_budget-2-clause-place
returns-in_err-keep_to_budget-2-clause-place g c =
    let fault = c.in_err-keep_to_budget-2.field-0.0 in
    let is : c.from_residual-in_err-keep_to_budget-2.result ≡ Err fault = search rules in
    rw is (λ F known.
    let begins = subst (λ (v : WalkState). Begins v c.args.stream (Ok c.in_ok-count.count) c.begin.new.self) c.entry-entry.ensures.same c.in_ok-count.ensures in
    place_pass c.args.spending.budget c.args.spending.spent F (chosen_entry c.args.walk.now c.args.stream) c.entry-entry.result c.in_ok-count.count fault c.entry-entry.ensures.value
    (begins.of_file F known) c.in_ok-keep_to_budget.ensures.kept c.in_err-keep_to_budget-2.ensures.told c.in_err-keep_to_budget-2.ensures.kept)

-- ---- a stream that is not begun

pub returns-in_err-count-clause-place : goal.returns-in_err-count-clause-place
returns-in_err-count-clause-place g c =
    let fault = c.in_err-count.field-0.0 in
    let is : c.from_residual-in_err-count.result ≡ Err fault = search rules in
    rw is (λ F known. rw c.in_err-count.ensures.told.1.0 tt)

pub returns-in_err-count-clause-of_file : goal.returns-in_err-count-clause-of_file
returns-in_err-count-clause-of_file g c =
    let fault = c.in_err-count.field-0.0 in
    let is : c.from_residual-in_err-count.result ≡ Err fault = search rules in
    let begins = subst (λ (v : WalkState). Begins v c.args.stream (Err fault) c.begin.new.self) c.entry-entry.ensures.same c.in_err-count.ensures in
    rw is (walking_unbegun g.row.A.Denot c.args.limit c.args.walk.now c.args.stream fault c.begin.new.self begins)

pub returns-in_err-count-clause-fetches : goal.returns-in_err-count-clause-fetches
returns-in_err-count-clause-fetches g c =
    let fault = c.in_err-count.field-0.0 in
    let is : c.from_residual-in_err-count.result ≡ Err fault = search rules in
    let begins = subst (λ (v : WalkState). Begins v c.args.stream (Err fault) c.begin.new.self) c.entry-entry.ensures.same c.in_err-count.ensures in
    rw is (Fetches_as fault c.args.walk.now.source c.begin.new.self.source (begins.fetches c.requires.going))

-- ---- a record that is refused

pub returns-in_err-taken-clause-pays : goal.returns-in_err-taken-clause-pays
returns-in_err-taken-clause-pays g c =
    let fault = c.in_err-taken.field-0.0 in
    let is : c.from_residual-in_err-taken.result ≡ Err fault = search rules in
    rw is (walking_paid g.row.A.Denot c.args.limit c.args.walk.now c.args.stream c.in_ok-count.count c.loop-index.walk c.loop-index.index c.loop-index.room c.loop-index.asks c.loop-index.invariant c.walk_record.new.walk fault (next_refused g.row.A.Denot c.args.limit c.args.walk.now c.args.stream c.in_ok-count.count c.loop-index.walk c.loop-index.index c.loop-index.room c.loop-index.asks c.loop-index.invariant c.walk_record.new.walk fault c.in_err-taken.ensures) c.loop-index-test.true)

pub returns-in_err-taken-clause-of_file : goal.returns-in_err-taken-clause-of_file
returns-in_err-taken-clause-of_file g c =
    let fault = c.in_err-taken.field-0.0 in
    let is : c.from_residual-in_err-taken.result ≡ Err fault = search rules in
    rw is (walking_refused g.row.A.Denot c.args.limit c.args.walk.now c.args.stream c.in_ok-count.count c.loop-index.walk c.loop-index.index c.loop-index.room c.loop-index.asks c.loop-index.invariant c.walk_record.new.walk fault (next_refused g.row.A.Denot c.args.limit c.args.walk.now c.args.stream c.in_ok-count.count c.loop-index.walk c.loop-index.index c.loop-index.room c.loop-index.asks c.loop-index.invariant c.walk_record.new.walk fault c.in_err-taken.ensures))

pub returns-in_err-taken-clause-fetches : goal.returns-in_err-taken-clause-fetches
returns-in_err-taken-clause-fetches g c =
    let fault = c.in_err-taken.field-0.0 in
    let is : c.from_residual-in_err-taken.result ≡ Err fault = search rules in
    rw is (walking_fetches g.row.A.Denot c.args.limit c.args.walk.now c.args.stream c.in_ok-count.count c.loop-index.walk c.loop-index.index c.loop-index.room c.loop-index.asks c.loop-index.invariant c.walk_record.new.walk {T = Walked} fault (next_refused g.row.A.Denot c.args.limit c.args.walk.now c.args.stream c.in_ok-count.count c.loop-index.walk c.loop-index.index c.loop-index.room c.loop-index.asks c.loop-index.invariant c.walk_record.new.walk fault c.in_err-taken.ensures))

pub returns-in_err-taken-clause-kept : goal.returns-in_err-taken-clause-kept
returns-in_err-taken-clause-kept g c =
    let fault = c.in_err-taken.field-0.0 in
    let is : c.from_residual-in_err-taken.result ≡ Err fault = search rules in
    let kept = subst (λ (e : Entry). KeepsTo c.args.spending.budget (c.args.spending.spent + pass_cost e c.in_ok-count.count)) c.entry-entry.ensures.value c.in_ok-keep_to_budget-2.ensures.kept in
    rw is (inr (walking_keeps g.row.A.Denot c.args.limit c.args.walk.now c.args.stream c.in_ok-count.count c.loop-index.walk c.loop-index.index c.loop-index.room c.loop-index.asks c.loop-index.invariant c.walk_record.new.walk c.args.spending.budget c.args.spending.spent
    fault (next_refused g.row.A.Denot c.args.limit c.args.walk.now c.args.stream c.in_ok-count.count c.loop-index.walk c.loop-index.index c.loop-index.room c.loop-index.asks c.loop-index.invariant c.walk_record.new.walk fault c.in_err-taken.ensures) c.loop-index-test.true kept))

pub returns-in_err-taken-clause-place : goal.returns-in_err-taken-clause-place
returns-in_err-taken-clause-place g c =
    let fault = c.in_err-taken.field-0.0 in
    let is : c.from_residual-in_err-taken.result ≡ Err fault = search rules in
    rw is (λ F known.
    place_walk c.args.spending.budget c.args.spending.spent F (chosen_entry c.args.walk.now c.args.stream) fault (next_refused g.row.A.Denot c.args.limit c.args.walk.now c.args.stream c.in_ok-count.count c.loop-index.walk c.loop-index.index c.loop-index.room c.loop-index.asks c.loop-index.invariant c.walk_record.new.walk fault c.in_err-taken.ensures).told)

pub returns-in_err-taken-clause-told : goal.returns-in_err-taken-clause-told
returns-in_err-taken-clause-told g c =
    let fault = c.in_err-taken.field-0.0 in
    let is : c.from_residual-in_err-taken.result ≡ Err fault = search rules in
    rw is (walk_opens c.args.spending.budget fault (next_refused g.row.A.Denot c.args.limit c.args.walk.now c.args.stream c.in_ok-count.count c.loop-index.walk c.loop-index.index c.loop-index.room c.loop-index.asks c.loop-index.invariant c.walk_record.new.walk fault c.in_err-taken.ensures).told)

pub returns-in_err-taken-clause-goes : goal.returns-in_err-taken-clause-goes
returns-in_err-taken-clause-goes g c =
    let fault = c.in_err-taken.field-0.0 in
    let is : c.from_residual-in_err-taken.result ≡ Err fault = search rules in
    rw is tt

pub returns-in_err-taken-clause-counts : goal.returns-in_err-taken-clause-counts
returns-in_err-taken-clause-counts g c =
    let fault = c.in_err-taken.field-0.0 in
    let is : c.from_residual-in_err-taken.result ≡ Err fault = search rules in
    rw is tt

pub returns-in_err-taken-clause-bare : goal.returns-in_err-taken-clause-bare
returns-in_err-taken-clause-bare g c =
    let fault = c.in_err-taken.field-0.0 in
    let is : c.from_residual-in_err-taken.result ≡ Err fault = search rules in
    rw is tt

pub walk_record-requires-clause-left : goal.walk_record-requires-clause-left
walk_record-requires-clause-left g c = omega (arith, c.loop-index-test.true, c.loop-index.invariant.left)

pub loop-index-smaller : goal.loop-index-smaller
loop-index-smaller g c = omega (arith, c.loop-index-test.true)

-- ---- all of them

pub returns-clause-pays : goal.returns-clause-pays
returns-clause-pays g c =
    let all : c.loop-index.index ≡ c.in_ok-count.count = omega (arith, c.loop-index-test.false, c.loop-index.auto.index-end) in
    let w = c.args.walk.now in
    let e = (chosen_entry w c.args.stream).entry in
    subst (λ n. Pays (listed e) (n * name_cost e.stream_type) w c.loop-index.walk) all c.loop-index.invariant.pays

pub returns-clause-of_file : goal.returns-clause-of_file
returns-clause-of_file g c =
    let all : c.loop-index.index ≡ c.in_ok-count.count = omega (arith, c.loop-index-test.false, c.loop-index.auto.index-end) in
    walking_ends g.row.A.Denot c.args.limit c.args.walk.now c.args.stream c.in_ok-count.count c.loop-index.walk c.loop-index.index c.loop-index.room c.loop-index.asks c.cost_of.result c.loop-index.invariant all

pub returns-clause-bare : goal.returns-clause-bare
returns-clause-bare g c =
    let all : c.loop-index.index ≡ c.in_ok-count.count = omega (arith, c.loop-index-test.false, c.loop-index.auto.index-end) in
    λ none. c.loop-index.invariant.bare (subst (λ n. GivesNone (kind_at c.args.walk.now c.args.stream) n) (sym all) none)

pub returns-clause-goes : goal.returns-clause-goes
returns-clause-goes g c = c.loop-index.invariant.going

pub returns-clause-counts : goal.returns-clause-counts
returns-clause-counts g c = c.loop-index.invariant.counts

pub returns-clause-told : goal.returns-clause-told
returns-clause-told g c = tt

pub returns-clause-fetches : goal.returns-clause-fetches
returns-clause-fetches g c = Fetches_only _ c.args.walk.now.source c.loop-index.walk.source c.loop-index.invariant.pays.same.fetches
