use Rattle.std.proofs.Common.{◌≡◌, ◌∙◌, ◌<◌, ◌≤◌, ◌+◌, ◌*◌, ◌⊎◌, ℕ, List, length, Err, ap, arith, inl, inr, refl, rules, subst, sum, sym}
use Rattle.std.proofs.lemmas.List.{take_all}
use Rattle.mdmp_source.specs.Count.{raised}
use Rattle.mdmp_lister.specs.Format.Listing.{Numbered}
use Rattle.mdmp_lister.specs.Meter.{KeepsTo}
use Rattle.mdmp_dump.specs.EntryWalk.{WalkState, chosen_entry, pass_cost}
use Rattle.mdmp_dump.specs.FileView.{IsShortAt, KeepsUpTo, TellsStream, asks_in, costs_in, opening_cost, pass_cost_in}
use Rattle.mdmp_wire.specs.declared.header.Header.{Header}
use Rattle.mdmp_dump.proofs.WalkedOver.{AreSummed, all_begin, all_summed, none_paid, one_fetches, one_keeps, one_over, one_paid, one_place, one_refused, one_summed, one_walked}
use Rattle.mdmp_dump.proofs.stream_walk.walk_all.Goals as goal

-- a loop through so many has come to their end
walked_through : (i end n : ℕ) → end ≤ i → i ≤ end → end ≡ n → i ≡ n
walked_through i end n past within is = omega arith

-- what was spent before a stream, by the number of entries that was read
spent_before : (w : WalkState) (counts : List ℕ) (entries costs : ℕ) → entries ≡ w.header.number_of_streams → costs ≡ sum (costs_in w.chosen counts) → 32 + 12 * entries + costs ≡ opening_cost w counts
spent_before w counts entries costs header are = rw (header, are) refl

pub returns-in_default-clause-pays : goal.returns-in_default-clause-pays
returns-in_default-clause-pays g c = none_paid c.args.walk.now

pub returns-in_default-with_capacity-clause-pays : goal.returns-in_default-with_capacity-clause-pays
returns-in_default-with_capacity-clause-pays g c = none_paid c.args.walk.now

pub loop-stream-init : goal.loop-stream-init
loop-stream-init g c =
    let entries : c.header-room.result.number_of_streams ≡ c.args.walk.now.header.number_of_streams = ap (λ (h : Header). h.number_of_streams) c.header-room.ensures in
    record {
      walking = rw (c.in-Ok.ensures.items, c.in-Ok-with_capacity.ensures.items) (all_begin g.row.A.Denot c.args.limit c.args.walk.now c.requires.going);
      summed = rw c.in-Ok.ensures.items (all_summed g.row.A.Denot c.args.budget c.args.walk.now);
      room = (c.in-Ok.ensures.exact ∙ entries, c.in-Ok-with_capacity.ensures.exact ∙ entries);
    }

pub loop-stream-preserved : goal.loop-stream-preserved
loop-stream-preserved g c =
    let inside : c.loop-stream.stream < length c.args.walk.now.chosen = omega (arith, c.loop-stream-test.true, c.streams-streams.ensures) in
    let of = c.in_ok-walked.ensures in
    record {
      walking = one_walked g.row.A.Denot c.args.limit c.args.walk.now c.loop-stream.walk c.loop-stream.counts.items c.loop-stream.rooms.items c.loop-stream.stream c.loop-stream.invariant.walking inside c.walk_stream.new.walk c.in_ok-walked.walked.count c.in_ok-walked.walked.room of.pays of.goes of.counts of.bare c.in_ok-walked.walked.cost c.in_ok-walked.walked.asks of.of_file
          c.push_reserved.new.self.items c.push_reserved-in-loop-stream.new.self.items c.push_reserved.ensures.items c.push_reserved-in-loop-stream.ensures.items;
      summed =
          let spent = spent_before c.args.walk.now c.loop-stream.counts.items c.from.result c.loop-stream.costs (c.from.ensures ∙ ap (λ (h : Header). h.number_of_streams) c.header.ensures) c.loop-stream.invariant.summed.costs_are in
          let n = c.in_ok-walked.walked.count in
          let cost = c.in_ok-walked.walked.cost in
          let kept = subst (λ (m : ℕ). KeepsTo c.args.budget (m + pass_cost (chosen_entry c.loop-stream.walk c.loop-stream.stream).entry n)) spent of.kept in
          let more : c.from-costs.result ≡ cost = c.from-costs.ensures in
          subst (λ (m : ℕ). AreSummed g.row.A.Denot c.args.budget c.args.walk.now c.walk_stream.new.walk c.push_reserved.new.self.items (c.loop-stream.stream + 1) (c.loop-stream.costs + m) c.saturating_add-asks.result) (sym more)
          (one_summed g.row.A.Denot c.args.limit c.args.walk.now c.loop-stream.walk c.loop-stream.counts.items c.loop-stream.rooms.items c.loop-stream.stream c.loop-stream.invariant.walking inside c.walk_stream.new.walk c.args.budget c.loop-stream.costs
          c.loop-stream.asks c.loop-stream.invariant.summed n cost c.in_ok-walked.walked.asks of.cost.0 of.cost.1 kept (λ F known. (of.of_file F known).3) c.push_reserved.new.self.items c.push_reserved.ensures.items c.saturating_add-asks.result
          (omega (arith, c.saturating_add-asks.ensures, c.loop-stream.invariant.summed.asks_few)));
      room = (c.push_reserved.ensures.capacity ∙ c.loop-stream.invariant.room.0, c.push_reserved-in-loop-stream.ensures.capacity ∙ c.loop-stream.invariant.room.1);
    }

pub returns-clause-lists : goal.returns-clause-lists
returns-clause-lists g c = c.loop-stream.invariant.room

pub returns-in_err-walked-clause-pays : goal.returns-in_err-walked-clause-pays
returns-in_err-walked-clause-pays g c =
    let fault = c.in_err-walked.field-0.0 in
    let is : c.from_residual.result ≡ Err fault = search rules in
    let inside : c.loop-stream.stream < length c.args.walk.now.chosen = omega (arith, c.loop-stream-test.true, c.streams-streams.ensures) in
    rw is (one_paid g.row.A.Denot c.args.limit c.args.walk.now c.loop-stream.walk c.loop-stream.counts.items c.loop-stream.rooms.items c.loop-stream.stream c.loop-stream.invariant.walking inside c.walk_stream.new.walk c.in_err-walked.ensures.pays)

pub returns-in_err-walked-clause-of_file : goal.returns-in_err-walked-clause-of_file
returns-in_err-walked-clause-of_file g c =
    let fault = c.in_err-walked.field-0.0 in
    let is : c.from_residual.result ≡ Err fault = search rules in
    let inside : c.loop-stream.stream < length c.args.walk.now.chosen = omega (arith, c.loop-stream-test.true, c.streams-streams.ensures) in
    rw is (one_refused g.row.A.Denot c.args.limit c.args.walk.now c.loop-stream.walk c.loop-stream.counts.items c.loop-stream.rooms.items c.loop-stream.stream c.loop-stream.invariant.walking inside c.walk_stream.new.walk fault c.in_err-walked.ensures.of_file)

pub returns-in_err-walked-clause-fetches : goal.returns-in_err-walked-clause-fetches
returns-in_err-walked-clause-fetches g c =
    let fault = c.in_err-walked.field-0.0 in
    let is : c.from_residual.result ≡ Err fault = search rules in
    let inside : c.loop-stream.stream < length c.args.walk.now.chosen = omega (arith, c.loop-stream-test.true, c.streams-streams.ensures) in
    rw is (one_fetches g.row.A.Denot c.args.limit c.args.walk.now c.loop-stream.walk c.loop-stream.counts.items c.loop-stream.rooms.items c.loop-stream.stream c.loop-stream.invariant.walking inside c.walk_stream.new.walk fault c.in_err-walked.ensures.fetches)

pub returns-clause-counts : goal.returns-clause-counts
returns-clause-counts g c =
    let all = walked_through c.loop-stream.stream c.streams-streams.result (length c.args.walk.now.chosen) c.loop-stream-test.false c.loop-stream.auto.stream-end c.streams-streams.ensures in
    (c.loop-stream.invariant.walking.counted ∙ all, c.loop-stream.invariant.walking.roomed ∙ all)

pub returns-clause-pays : goal.returns-clause-pays
returns-clause-pays g c = c.loop-stream.invariant.walking.pays

pub returns-clause-bare : goal.returns-clause-bare
returns-clause-bare g c = c.loop-stream.invariant.walking.bare

pub returns-clause-goes : goal.returns-clause-goes
returns-clause-goes g c = c.loop-stream.invariant.walking.going

pub returns-clause-counted : goal.returns-clause-counted
returns-clause-counted g c = c.loop-stream.invariant.walking.counts_fit

pub returns-clause-of_file : goal.returns-clause-of_file
returns-clause-of_file g c = c.loop-stream.invariant.walking.of_file

pub returns-clause-told : goal.returns-clause-told
returns-clause-told g c = tt

pub walk_stream-requires-clause-long : goal.walk_stream-requires-clause-long
walk_stream-requires-clause-long g c = rw c.loop-stream.invariant.walking.pays.same.fetches.fetches.same_size c.requires.long

pub returns-in_err-walked-clause-kept : goal.returns-in_err-walked-clause-kept
returns-in_err-walked-clause-kept g c =
    let inside : c.loop-stream.stream < length c.args.walk.now.chosen = omega (arith, c.loop-stream-test.true, c.streams-streams.ensures) in
    let spent = spent_before c.args.walk.now c.loop-stream.counts.items c.from.result c.loop-stream.costs (c.from.ensures ∙ ap (λ (h : Header). h.number_of_streams) c.header.ensures) c.loop-stream.invariant.summed.costs_are in
    one_keeps g.row.A.Denot c.args.limit c.args.walk.now c.loop-stream.walk c.loop-stream.counts.items c.loop-stream.rooms.items c.loop-stream.stream c.loop-stream.invariant.walking inside c.walk_stream.new.walk c.args.budget c.loop-stream.costs c.loop-stream.asks
    c.loop-stream.invariant.summed
    (subst (λ (m : ℕ). (c.walk_stream.new.walk ≡ c.loop-stream.walk) ⊎ KeepsUpTo c.args.budget m c.loop-stream.stream c.loop-stream.walk c.walk_stream.new.walk) spent c.in_err-walked.ensures.kept)

pub returns-in_err-walked-clause-over : goal.returns-in_err-walked-clause-over
returns-in_err-walked-clause-over g c =
    let fault = c.in_err-walked.field-0.0 in
    let is : c.from_residual.result ≡ Err fault = search rules in
    rw is (λ F known.
    let inside : c.loop-stream.stream < length c.args.walk.now.chosen = omega (arith, c.loop-stream-test.true, c.streams-streams.ensures) in
    let spent = spent_before c.args.walk.now c.loop-stream.counts.items c.from.result c.loop-stream.costs (c.from.ensures ∙ ap (λ (h : Header). h.number_of_streams) c.header.ensures) c.loop-stream.invariant.summed.costs_are in
    one_over g.row.A.Denot c.args.limit c.args.walk.now c.loop-stream.walk c.loop-stream.counts.items c.loop-stream.rooms.items c.loop-stream.stream c.loop-stream.invariant.walking inside c.walk_stream.new.walk c.args.budget c.loop-stream.costs c.loop-stream.asks
    c.loop-stream.invariant.summed F known fault
    (subst (λ (m : ℕ). IsShortAt c.args.budget (m + pass_cost_in F (chosen_entry c.loop-stream.walk c.loop-stream.stream)) fault) spent (c.in_err-walked.ensures.over F (c.loop-stream.invariant.walking.pays.same.fetches.fetches.same_content ∙ known))))

pub returns-in_err-walked-clause-place : goal.returns-in_err-walked-clause-place
returns-in_err-walked-clause-place g c =
    let fault = c.in_err-walked.field-0.0 in
    let is : c.from_residual.result ≡ Err fault = search rules in
    rw is (λ F known.
    let inside : c.loop-stream.stream < length c.args.walk.now.chosen = omega (arith, c.loop-stream-test.true, c.streams-streams.ensures) in
    let spent = spent_before c.args.walk.now c.loop-stream.counts.items c.from.result c.loop-stream.costs (c.from.ensures ∙ ap (λ (h : Header). h.number_of_streams) c.header.ensures) c.loop-stream.invariant.summed.costs_are in
    one_place g.row.A.Denot c.args.limit c.args.walk.now c.loop-stream.walk c.loop-stream.counts.items c.loop-stream.rooms.items c.loop-stream.stream c.loop-stream.invariant.walking inside c.walk_stream.new.walk c.args.budget c.loop-stream.costs c.loop-stream.asks
    c.loop-stream.invariant.summed F known fault
    (subst (λ (m : ℕ). TellsStream c.args.budget m F (chosen_entry c.loop-stream.walk c.loop-stream.stream) fault) spent (c.in_err-walked.ensures.place F (c.loop-stream.invariant.walking.pays.same.fetches.fetches.same_content ∙ known))))

pub returns-clause-kept : goal.returns-clause-kept
returns-clause-kept g c = elim c.loop-stream.invariant.summed.keeps [ inl same ↦ inl same | inr kept ↦ inr (record { reached = c.loop-stream.counts.items; pays = c.loop-stream.invariant.walking.pays; kept = kept }) ]

pub returns-clause-costs : goal.returns-clause-costs
returns-clause-costs g c =
    let all = walked_through c.loop-stream.stream c.streams-streams.result (length c.args.walk.now.chosen) c.loop-stream-test.false c.loop-stream.auto.stream-end c.streams-streams.ensures in
    let header = ap (λ (h : Header). h.number_of_streams) c.header.ensures in
    (c.loop-stream.invariant.summed.costs_are, omega (arith, c.loop-stream.invariant.summed.costs_few, all, c.requires.few, header, c.header.type_inv))

pub returns-clause-asks : goal.returns-clause-asks
returns-clause-asks g c = λ F known.
    let all = walked_through c.loop-stream.stream c.streams-streams.result (length c.args.walk.now.chosen) c.loop-stream-test.false c.loop-stream.auto.stream-end c.streams-streams.ensures in
    c.loop-stream.invariant.summed.asks_are F known ∙ ap (λ (xs : List Numbered). raised 0 (asks_in g.row.A.Denot F xs)) (take_all c.loop-stream.stream c.args.walk.now.chosen (omega (arith, all)))
