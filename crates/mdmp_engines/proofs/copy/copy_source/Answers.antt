use Rattle.std.proofs.Common.{◌≡◌, ◌+◌, ◌*◌, ◌∙◌, Some, ap, arith, map, refl, sum, sym}
use Rattle.mdmp_lister.specs.declared.choice.Choice.TheVariants.{Types}
use Rattle.mdmp_lister.specs.Format.Listing.{chosen, entry_count}
use Rattle.mdmp_dump.specs.FileView.{asks_in, file_shape, pass_cost_in}
use Rattle.mdmp_dump.specs.FileViewLaws.{opening_cost_told, view_sound}
use Rattle.mdmp_dump.specs.Opening.{copy_bound, entries_in, opened_by, opening_bound}
use Rattle.mdmp_dump.proofs.Asks.{view_asks}
use Rattle.mdmp_writer.specs.Passes.{all_asks}
use Rattle.mdmp_dump.specs.Shape.{ViewShape}
use Rattle.mdmp_dump.proofs.Taking.{FetchesSome_then}
use Rattle.mdmp_engines.specs.Copying.{first_not_copied, spent, unopened}
use Rattle.mdmp_engines.proofs.Engining.{may_change}
use Rattle.mdmp_engines.proofs.Copying.{Copies-not, Copies-over, Copies-refused, Copies-viewed, budget_over, budget_refused, budget_unread, budget_written, cause_copied, good_read, memory_refused, memory_viewed, memory_written, read_unopened, reliable_copied, shape_copied, unspent, view_spent, within_refused, within_unread, within_written}
use Rattle.mdmp_engines.proofs.copy.copy_source.Goals as goal

pub returns-in-Some-clause-copies : goal.returns-in-Some-clause-copies
returns-in-Some-clause-copies g c =
    Copies-not g.row.A.Denot c.args.source.store.content c.args.source.size c.args.types c.args.limits.name (g.O.Out.state c.args.out.now) c.in-Some.stream_type
    (ap first_not_copied (sym c.types.ensures) ∙ sym c.first_not_copied.ensures ∙ c.in-Some.is)

pub returns-else-is_over-clause-copies : goal.returns-else-is_over-clause-copies
returns-else-is_over-clause-copies g c =
    let of = c.in-Ok.ensures in
    Copies-viewed g.row.A.Denot c.args.source.store.content c.args.source.size c.args.types c.args.limits.name (g.O.Out.state c.args.out.now)
    (ap first_not_copied (sym c.types.ensures) ∙ sym c.in_default.ensures) (file_shape g.row.A.Denot c.in-Ok.field-0.view.walk c.in-Ok.field-0.view.counts.items c.in-Ok.field-0.view.rooms.items) (g.O.Out.state c.write_copy.new.out)
    of.views.lays_out of.refuses of.short c.write_copy.result c.write_copy.ensures.ends c.write_copy.ensures.out
    (may_change c.write_copy.result c.args.source c.write_copy.new.view.walk.source
    (cause_copied c.args.source c.in-Ok.field-0.view.walk c.write_copy.new.view.walk c.in-Ok.field-0.view.last c.write_copy.new.view.last c.write_copy.result of.new.fetches of.new.last c.write_copy.ensures.moves c.write_copy.ensures.told))
    (λ file known. c.write_copy.ensures.copies _ (of.views.shows file known))

pub returns-else-is_over-clause-good : goal.returns-else-is_over-clause-good
returns-else-is_over-clause-good g c = λ file good.
    reliable_copied (file_shape g.row.A.Denot c.in-Ok.field-0.view.walk c.in-Ok.field-0.view.counts.items c.in-Ok.field-0.view.rooms.items) (g.O.Out.state c.args.out.now) (g.O.Out.state c.write_copy.new.out) c.write_copy.result c.write_copy.ensures.ends (c.in-Ok.ensures.views.reliable file good)

pub returns-else-is_over-clause-reads : goal.returns-else-is_over-clause-reads
returns-else-is_over-clause-reads g c =
    let new = c.in-Ok.ensures.new in
    let moved = c.write_copy.ensures.moves in
    rw c.into_source-in-Ok.ensures.value (record {
      cause = cause_copied c.args.source c.in-Ok.field-0.view.walk c.write_copy.new.view.walk c.in-Ok.field-0.view.last c.write_copy.new.view.last c.write_copy.result new.fetches new.last moved c.write_copy.ensures.told;
      fetches = FetchesSome_then c.args.source c.in-Ok.field-0.view.walk.source c.write_copy.new.view.walk.source new.fetches moved.same.fetches;
    })

pub returns-in-Err-clause-good : goal.returns-in-Err-clause-good
returns-in-Err-clause-good g c = λ file good. rw c.told_reading.ensures (good_read c.in-Err.field-0.fault (c.in-Err.ensures.refused.good file good))

pub returns-in-Err-clause-copies : goal.returns-in-Err-clause-copies
returns-in-Err-clause-copies g c =
    let of = c.in-Err.ensures in
    rw c.told_reading.ensures
    (Copies-refused g.row.A.Denot c.args.source.store.content c.args.source.size c.args.types c.args.limits.name (g.O.Out.state c.args.out.now)
    (ap first_not_copied (sym c.types.ensures) ∙ sym c.in_default.ensures) c.args.limits c.args.limits.budget c.in-Err.field-0.fault of.refuses of.refused.refusal of.short of.refused.tells of.refused.limited)

pub returns-in-Some-clause-spends : goal.returns-in-Some-clause-spends
returns-in-Some-clause-spends g c = unopened tt (unspent c.args.source (Types c.args.types))

pub returns-in-Err-clause-spends : goal.returns-in-Err-clause-spends
returns-in-Err-clause-spends g c = rw c.told_reading.ensures (unopened (read_unopened c.args.limits.budget c.args.source.size c.in-Err.field-0.fault c.in-Err.ensures.refused.refusal) c.in-Err.ensures.handed_back.spends)

pub returns-else-is_over-clause-spends : goal.returns-else-is_over-clause-spends
returns-else-is_over-clause-spends g c =
    let of = c.in-Ok.ensures in
    let view = c.in-Ok.field-0.view in
    let after = c.write_copy.new.view in
    let written = c.write_copy.ensures in
    let shape = file_shape g.row.A.Denot view.walk view.counts.items view.rooms.items in
    let later : opened_by after ≡ 32 + 12 * entries_in after + sum (file_shape g.row.A.Denot after.walk after.counts.items after.rooms.items).costs = opening_cost_told g.row.A.Denot after.walk after.counts.items after.rooms.items in
    let first : opened_by view ≡ 32 + 12 * entries_in view + sum shape.costs = opening_cost_told g.row.A.Denot view.walk view.counts.items view.rooms.items in
    let costs : sum (file_shape g.row.A.Denot after.walk after.counts.items after.rooms.items).costs ≡ sum shape.costs = ap (λ (s : ViewShape). sum s.costs) written.shape in
    let entries : entries_in after ≡ entries_in view = ap (λ h. h.number_of_streams) written.moves.same.header in
    spent (record {
      shape = shape;
      size = shape_copied shape (g.O.Out.state c.args.out.now) (g.O.Out.state c.write_copy.new.out) c.write_copy.result written.ends;
      walk = after.walk;
      held = omega (arith, of.new.held, written.moves.same.held, entries);
      start = written.moves.same.start ∙ of.new.start;
      source = sym c.into_source-in-Ok.ensures.value;
      entries = entries_in view;
      entries_are = sym entries;
      fetched = omega (arith, c.into_source-in-Ok.ensures.spent, later, costs, entries, written.moves.same.start, of.new.start, of.new.passed, of.new.asked, written.passed, written.asked);
      costs = λ F known. sym first ∙ of.costs.cost F known;
      asks = of.views.shows;
    })

-- ---- budgets

pub returns-in-Some-clause-budget : goal.returns-in-Some-clause-budget
returns-in-Some-clause-budget g c = budget_unread g.row.A.Denot c.args.types c.args.limits.budget c.args.limits.window c.args.source.store.content c.in-Some.stream_type

pub returns-in-Some-clause-within : goal.returns-in-Some-clause-within
returns-in-Some-clause-within g c = within_refused c.args.limits.budget c.args.source c.args.source _ (within_unread c.args.limits.budget c.args.source)

pub returns-in-Err-clause-budget : goal.returns-in-Err-clause-budget
returns-in-Err-clause-budget g c =
    let of = c.in-Err.ensures in
    rw c.told_reading.ensures (budget_refused g.row.A.Denot c.args.types c.args.limits.budget c.args.limits.window c.args.source.store.content c.args.source.size c.in-Err.field-0.fault of.refused.refusal of.refused.over)

pub returns-in-Err-clause-within : goal.returns-in-Err-clause-within
returns-in-Err-clause-within g c = within_refused c.args.limits.budget c.args.source c.in-Err.field-0.source _ c.in-Err.ensures.handed_back.within

pub returns-in-Err-clause-memory : goal.returns-in-Err-clause-memory
returns-in-Err-clause-memory g c = rw c.told_reading.ensures (memory_refused c.args.limits c.args.source.store.content c.in-Err.field-0.fault c.in-Err.ensures.refused.limited)

pub returns-else-is_over-clause-budget : goal.returns-else-is_over-clause-budget
returns-else-is_over-clause-budget g c =
    let of = c.in-Ok.ensures in
    let view = c.in-Ok.field-0.view in
    budget_written g.row.A.Denot c.args.types c.args.limits.budget c.args.limits.window c.args.source.store.content (file_shape g.row.A.Denot view.walk view.counts.items view.rooms.items) (g.O.Out.state c.args.out.now) (g.O.Out.state c.write_copy.new.out)
    c.write_copy.result c.write_copy.ensures.ends (λ F known. sym (c.is_over.ensures.bound (copy_bound g.row.A.Denot F (Types c.args.types)) (c.needed-needed.ensures ∙ of.costs.needs F known)) ∙ c.if-is_over.false)

pub returns-else-is_over-clause-memory : goal.returns-else-is_over-clause-memory
returns-else-is_over-clause-memory g c =
    let view = c.in-Ok.field-0.view in
    let new = c.in-Ok.ensures.new in
    memory_written c.args.limits c.args.source.store.content (file_shape g.row.A.Denot view.walk view.counts.items view.rooms.items) (g.O.Out.state c.args.out.now) (g.O.Out.state c.write_copy.new.out) c.write_copy.result c.write_copy.ensures.ends
    (memory_viewed c.args.limits c.args.source.store.content view.sound c.args.source refl new.fetches new.within)

pub returns-else-is_over-clause-within : goal.returns-else-is_over-clause-within
returns-else-is_over-clause-within g c =
    let of = c.in-Ok.ensures in
    let view = c.in-Ok.field-0.view in
    let after = c.write_copy.new.view in
    let written = c.write_copy.ensures in
    let shape = file_shape g.row.A.Denot view.walk view.counts.items view.rooms.items in
    let later : opened_by after ≡ 32 + 12 * entries_in after + sum (file_shape g.row.A.Denot after.walk after.counts.items after.rooms.items).costs = opening_cost_told g.row.A.Denot after.walk after.counts.items after.rooms.items in
    let first : opened_by view ≡ 32 + 12 * entries_in view + sum shape.costs = opening_cost_told g.row.A.Denot view.walk view.counts.items view.rooms.items in
    let costs : sum (file_shape g.row.A.Denot after.walk after.counts.items after.rooms.items).costs ≡ sum shape.costs = ap (λ (s : ViewShape). sum s.costs) written.shape in
    let entries : entries_in after ≡ entries_in view = ap (λ h. h.number_of_streams) written.moves.same.header in
    within_written c.args.limits.budget c.args.source c.into_source-in-Ok.result shape (g.O.Out.state c.args.out.now) (g.O.Out.state c.write_copy.new.out) c.write_copy.result written.ends (λ F known.
    let kept = sym (c.is_over.ensures.bound (copy_bound g.row.A.Denot F (Types c.args.types)) (c.needed-needed.ensures ∙ of.costs.needs F known)) ∙ c.if-is_over.false in
    let now : view.walk.source.store.content ≡ Some F = of.new.fetches.fetches.same_content ∙ known in
    let listed : entries_in view ≡ entry_count F = ap (λ h. h.number_of_streams) (view.sound.of_file F now).header in
    let asked : all_asks shape ≡ asks_in g.row.A.Denot F (chosen F (Types c.args.types)) = view_asks g.row.A.Denot F (Types c.args.types) shape (view_sound g.row.A.Denot view.walk view.counts.items view.rooms.items) (of.views.shows F known) in
    let opened = of.costs.cost F known in
    let bound : opening_bound F (Types c.args.types) ≡ 32 + 12 * entry_count F + sum (map (pass_cost_in F) (chosen F (Types c.args.types))) = refl in (
      copy_bound g.row.A.Denot F (Types c.args.types),
      (
        kept,
        omega (arith, c.into_source-in-Ok.ensures.spent, later, first, costs, entries, listed, asked, opened, bound, written.moves.same.start, of.new.start, of.new.passed, of.new.asked, written.passed, written.asked),
      ),
    ))

-- ---- a copy that needs more than its budget

pub returns-then-is_over-clause-copies : goal.returns-then-is_over-clause-copies
returns-then-is_over-clause-copies g c =
    let of = c.in-Ok.ensures in
    Copies-over g.row.A.Denot c.args.source.store.content c.args.source.size c.args.types c.args.limits.name (g.O.Out.state c.args.out.now)
    (ap first_not_copied (sym c.types.ensures) ∙ sym c.in_default.ensures) c.needed-needed.result of.short (λ F known. (of.refuses F known, c.needed-needed.ensures ∙ of.costs.needs F known))

pub returns-then-is_over-clause-reads : goal.returns-then-is_over-clause-reads
returns-then-is_over-clause-reads g c = rw c.into_source.ensures.value (record { cause = tt; fetches = c.in-Ok.ensures.new.fetches })

pub returns-then-is_over-clause-spends : goal.returns-then-is_over-clause-spends
returns-then-is_over-clause-spends g c =
    let of = c.in-Ok.ensures in
    let view = c.in-Ok.field-0.view in
    unopened tt (view_spent view.sound c.args.source c.into_source.result (Types c.args.types) of.new.choice_is of.new.fetches of.new.counted (omega (arith, c.into_source.ensures.spent, of.new.start, of.new.passed, of.new.asked)) of.costs.cost)

pub returns-then-is_over-clause-budget : goal.returns-then-is_over-clause-budget
returns-then-is_over-clause-budget g c =
    budget_over g.row.A.Denot c.args.types c.args.limits.budget c.args.limits.window c.args.source.store.content c.needed-needed.result (sym c.is_over.ensures.value ∙ c.if-is_over.true)
    (λ F known. sym (c.is_over.ensures.bound (copy_bound g.row.A.Denot F (Types c.args.types)) (c.needed-needed.ensures ∙ c.in-Ok.ensures.costs.needs F known)) ∙ c.if-is_over.true)

pub returns-then-is_over-clause-within : goal.returns-then-is_over-clause-within
returns-then-is_over-clause-within g c =
    within_refused c.args.limits.budget c.args.source c.into_source.result _ (λ most is. omega (arith, c.into_source.ensures.booked, c.in-Ok.ensures.costs.kept most is, c.in-Ok.ensures.new.start))

pub returns-then-is_over-clause-memory : goal.returns-then-is_over-clause-memory
returns-then-is_over-clause-memory g c =
    let new = c.in-Ok.ensures.new in
    memory_viewed c.args.limits c.args.source.store.content c.in-Ok.field-0.view.sound c.args.source refl new.fetches new.within
