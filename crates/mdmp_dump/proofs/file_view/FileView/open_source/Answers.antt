use Rattle.mdmp_wire.specs.declared.header.Header.{Header}
use Rattle.std.proofs.Common.{◌≡◌, ◌∙◌, ◌<◌, ◌≤◌, ◌+◌, ◌*◌, ◌^◌, ℕ, true, arith, ap, refl, subst, sym}
use Rattle.mdmp_source.specs.Count.{raised}
use Rattle.mdmp_lister.specs.Memory.{is_within}
use Rattle.mdmp_dump.specs.Opening.{copy_held}
use Rattle.mdmp_source.specs.Store.{IsSizeOf}
use Rattle.mdmp_dump.proofs.Laid.{viewed_lays}
use Rattle.mdmp_dump.proofs.Opened.{tells_of}
use Rattle.mdmp_dump.proofs.OpenedViews.{held_whole, is_view, run_refused, view_cost, view_counted, view_fetches, view_needed, view_needs, view_of, view_quiet, view_reliable, view_start, walk_ends, walk_holds, walk_kept, walk_limited, walk_short, walk_spent, walk_within}
use Rattle.mdmp_dump.proofs.Refusals.{walk_refusal}
use Rattle.mdmp_dump.proofs.Taking.{fetches_err}
use Rattle.mdmp_dump.proofs.file_view.FileView.open_source.Goals as goal

pub invariant_of-result : goal.invariant_of-result
invariant_of-result g c =
    let of = c.in-Ok.ensures in
    let sized = subst (λ (n : ℕ). IsSizeOf c.in_ok-walk.walk.source.store.content n) c.size-size.ensures.value c.size-size.ensures.content in
    let entries : c.header-entries.result.number_of_streams ≡ c.in_ok-walk.walk.header.number_of_streams = ap (λ (h : Header). h.number_of_streams) c.header-entries.ensures in
    let light : c.in_ok-walk.walk.held < 2 ^ 64 = omega (arith, c.in_ok-walk.ensures.opened.held, entries, c.args.limits.window_most) in
    record { sound = is_view g.row.A.Denot c.args.source c.args.limits.window c.args.limits.name c.args.choice c.in_ok-walk.walk c.walk_all.new.walk c.in-Ok.field-0.counts.items c.in-Ok.field-0.rooms.items c.in_ok-walk.ensures.opened c.in_ok-walk.ensures.of_file sized c.size-size.ensures.bytes of.pays of.counts.0 of.counts.1 of.goes light of.of_file of.bare }

pub returns-in-Ok-clause-views : goal.returns-in-Ok-clause-views
returns-in-Ok-clause-views g c =
    let of = c.in-Ok.ensures in
    let sized = subst (λ (n : ℕ). IsSizeOf c.in_ok-walk.walk.source.store.content n) c.size-size.ensures.value c.size-size.ensures.content in
    let entries : c.header-entries.result.number_of_streams ≡ c.in_ok-walk.walk.header.number_of_streams = ap (λ (h : Header). h.number_of_streams) c.header-entries.ensures in
    let light : c.in_ok-walk.walk.held < 2 ^ 64 = omega (arith, c.in_ok-walk.ensures.opened.held, entries, c.args.limits.window_most) in
    record {
      lays_out = λ F known.
          viewed_lays g.row.A.Denot F c.args.limits.name c.args.choice (view_quiet g.row.A.Denot c.args.source c.args.limits.window c.args.limits.name c.args.choice c.in_ok-walk.walk c.walk_all.new.walk c.in-Ok.field-0.counts.items c.in-Ok.field-0.rooms.items c.in_ok-walk.ensures.opened c.in_ok-walk.ensures.of_file sized c.size-size.ensures.bytes of.pays of.counts.0 of.counts.1 of.goes light of.of_file of.bare F known);
      shows = view_of g.row.A.Denot c.args.source c.args.limits.window c.args.limits.name c.args.choice c.in_ok-walk.walk c.walk_all.new.walk c.in-Ok.field-0.counts.items c.in-Ok.field-0.rooms.items c.in_ok-walk.ensures.opened c.in_ok-walk.ensures.of_file sized c.size-size.ensures.bytes of.pays of.counts.0 of.counts.1 of.goes light of.of_file of.bare;
      reliable = view_reliable g.row.A.Denot c.args.source c.args.limits.window c.args.limits.name c.args.choice c.in_ok-walk.walk c.walk_all.new.walk c.in-Ok.field-0.counts.items c.in-Ok.field-0.rooms.items c.in_ok-walk.ensures.opened c.in_ok-walk.ensures.of_file sized c.size-size.ensures.bytes of.pays of.counts.0 of.counts.1 of.goes light of.of_file of.bare;
    }

pub returns-in-Ok-clause-refuses : goal.returns-in-Ok-clause-refuses
returns-in-Ok-clause-refuses g c =
    let of = c.in-Ok.ensures in
    let sized = subst (λ (n : ℕ). IsSizeOf c.in_ok-walk.walk.source.store.content n) c.size-size.ensures.value c.size-size.ensures.content in
    let entries : c.header-entries.result.number_of_streams ≡ c.in_ok-walk.walk.header.number_of_streams = ap (λ (h : Header). h.number_of_streams) c.header-entries.ensures in
    let light : c.in_ok-walk.walk.held < 2 ^ 64 = omega (arith, c.in_ok-walk.ensures.opened.held, entries, c.args.limits.window_most) in
    view_quiet g.row.A.Denot c.args.source c.args.limits.window c.args.limits.name c.args.choice c.in_ok-walk.walk c.walk_all.new.walk c.in-Ok.field-0.counts.items c.in-Ok.field-0.rooms.items c.in_ok-walk.ensures.opened c.in_ok-walk.ensures.of_file sized c.size-size.ensures.bytes of.pays of.counts.0 of.counts.1 of.goes light of.of_file of.bare

pub returns-in-Ok-clause-new : goal.returns-in-Ok-clause-new
returns-in-Ok-clause-new g c =
    let of = c.in-Ok.ensures in
    let sized = subst (λ (n : ℕ). IsSizeOf c.in_ok-walk.walk.source.store.content n) c.size-size.ensures.value c.size-size.ensures.content in
    let entries : c.header-entries.result.number_of_streams ≡ c.in_ok-walk.walk.header.number_of_streams = ap (λ (h : Header). h.number_of_streams) c.header-entries.ensures in
    let light : c.in_ok-walk.walk.held < 2 ^ 64 = omega (arith, c.in_ok-walk.ensures.opened.held, entries, c.args.limits.window_most) in
    let v = c.walk_all.new.walk in
    let costs = c.in-Ok.field-0.costs in
    let asks = c.in-Ok.field-0.asks in
    let header = ap (λ (h : Header). h.number_of_streams) c.header.ensures in
    let needed : c.saturating_add.result ≡ raised (32 + 12 * v.header.number_of_streams + 3 * costs) asks = omega (arith, c.saturating_add.ensures, c.from.ensures, header) in
    record {
      choice_is = of.pays.same.choice ∙ c.in_ok-walk.ensures.opened.choice_is;
      counted = view_counted g.row.A.Denot c.args.source c.args.limits.window c.args.limits.name c.args.choice c.in_ok-walk.walk c.walk_all.new.walk c.in-Ok.field-0.counts.items c.in-Ok.field-0.rooms.items c.in_ok-walk.ensures.opened c.in_ok-walk.ensures.of_file sized c.size-size.ensures.bytes of.pays of.counts.0 of.counts.1 of.goes light of.of_file of.bare of.counted;
      fetches = view_fetches g.row.A.Denot c.args.source c.args.limits.window c.args.limits.name c.args.choice c.in_ok-walk.walk c.walk_all.new.walk c.in-Ok.field-0.counts.items c.in-Ok.field-0.rooms.items c.in_ok-walk.ensures.opened c.in_ok-walk.ensures.of_file sized c.size-size.ensures.bytes of.pays of.counts.0 of.counts.1 of.goes light of.of_file of.bare;
      start = view_start g.row.A.Denot c.args.source c.args.limits.window c.args.limits.name c.args.choice c.in_ok-walk.walk c.walk_all.new.walk c.in-Ok.field-0.counts.items c.in-Ok.field-0.rooms.items c.in_ok-walk.ensures.opened c.in_ok-walk.ensures.of_file sized c.size-size.ensures.bytes of.pays of.counts.0 of.counts.1 of.goes light of.of_file of.bare;
      held = held_whole g.row.A.Denot c.args.source c.args.limits.window c.args.limits.name c.args.choice c.in_ok-walk.walk c.walk_all.new.walk c.in-Ok.field-0.counts.items c.in-Ok.field-0.rooms.items c.in_ok-walk.ensures.opened c.in_ok-walk.ensures.of_file sized c.size-size.ensures.bytes of.pays of.counts.0 of.counts.1 of.goes light of.of_file of.bare;
      needed = view_needed g.row.A.Denot c.args.source c.args.limits.window c.args.limits.name c.args.choice c.in_ok-walk.walk c.walk_all.new.walk c.in-Ok.field-0.counts.items c.in-Ok.field-0.rooms.items c.in_ok-walk.ensures.opened c.in_ok-walk.ensures.of_file sized c.size-size.ensures.bytes of.pays of.counts.0 of.counts.1 of.goes light of.of_file of.bare costs asks c.saturating_add.result of.costs.0 needed;
      within = subst (λ (n : ℕ). is_within c.args.limits.memory (copy_held c.args.limits.window n) ≡ true) (ap (λ (h : Header). h.number_of_streams) (sym of.pays.same.header)) c.in_ok-walk.ensures.memory;
      lists = omega (arith, of.lists.0, of.lists.1, ap (λ (h : Header). h.number_of_streams) of.pays.same.header);
      whole = refl;
      passed = refl;
      asked = refl;
      last = refl;
    }

pub returns-in-Ok-clause-costs : goal.returns-in-Ok-clause-costs
returns-in-Ok-clause-costs g c =
    let of = c.in-Ok.ensures in
    let sized = subst (λ (n : ℕ). IsSizeOf c.in_ok-walk.walk.source.store.content n) c.size-size.ensures.value c.size-size.ensures.content in
    let entries : c.header-entries.result.number_of_streams ≡ c.in_ok-walk.walk.header.number_of_streams = ap (λ (h : Header). h.number_of_streams) c.header-entries.ensures in
    let light : c.in_ok-walk.walk.held < 2 ^ 64 = omega (arith, c.in_ok-walk.ensures.opened.held, entries, c.args.limits.window_most) in
    let v = c.walk_all.new.walk in
    let costs = c.in-Ok.field-0.costs in
    let asks = c.in-Ok.field-0.asks in
    let header = ap (λ (h : Header). h.number_of_streams) c.header.ensures in
    let needed : c.saturating_add.result ≡ raised (32 + 12 * v.header.number_of_streams + 3 * costs) asks = omega (arith, c.saturating_add.ensures, c.from.ensures, header) in
    record {
      cost = view_cost g.row.A.Denot c.args.source c.args.limits.window c.args.limits.name c.args.choice c.in_ok-walk.walk c.walk_all.new.walk c.in-Ok.field-0.counts.items c.in-Ok.field-0.rooms.items c.in_ok-walk.ensures.opened c.in_ok-walk.ensures.of_file sized c.size-size.ensures.bytes of.pays of.counts.0 of.counts.1 of.goes light of.of_file of.bare;
      needs = λ F known.
          view_needs g.row.A.Denot c.args.source c.args.limits.window c.args.limits.name c.args.choice c.in_ok-walk.walk c.walk_all.new.walk c.in-Ok.field-0.counts.items c.in-Ok.field-0.rooms.items c.in_ok-walk.ensures.opened c.in_ok-walk.ensures.of_file sized c.size-size.ensures.bytes of.pays of.counts.0 of.counts.1 of.goes light of.of_file of.bare F known costs asks c.saturating_add.result of.costs.0 of.costs.1 (of.asks F (c.in_ok-walk.ensures.opened.fetches.fetches.same_content ∙ known)) needed;
      kept = λ most is.
          subst (λ (n : ℕ). n ≤ most) c.fetched-spent.ensures.value
          (walk_kept c.args.source c.args.limits.window c.args.choice c.in_ok-walk.walk v c.in_ok-walk.ensures.opened c.args.limits.budget c.in_ok-walk.ensures.kept of.kept most is
          c.fetched-spent.result c.fetched-spent.ensures.value (omega (arith, c.fetched-spent.type_inv)) c.fetched-spent.ensures.allowed);
    }

pub returns-in-Err-clause-refuses : goal.returns-in-Err-clause-refuses
returns-in-Err-clause-refuses g c = λ F known own.
    let first = c.in_ok-walk.ensures in
    run_refused c.args.source c.args.limits.window c.args.limits.name c.args.choice c.in_ok-walk.walk first.opened F known (first.of_file F known) c.in-Err.fault
    (c.in-Err.ensures.of_file F (first.opened.fetches.fetches.same_content ∙ known) own)

pub returns-in-Err-clause-refused : goal.returns-in-Err-clause-refused
returns-in-Err-clause-refused g c =
    let first = c.in_ok-walk.ensures in
    let of = c.in-Err in
    let cause = fetches_err {T = Unit {0}} c.args.source c.in_ok-walk.walk.source c.walk_all.new.walk.source first.opened.fetches of.fault of.ensures.fetches in
    record {
      refusal = walk_refusal c.args.limits.budget c.args.source.size of.fault of.ensures.told cause.refusal;
      good = cause.good;
      tells = tells_of of.fault c.args.source c.walk_all.new.walk.source cause (λ is file known. first.of_file file known);
      limited =
          walk_limited c.args.limits c.args.source.store.content c.args.limits.budget of.fault of.ensures.told
          (walk_holds c.args.source c.args.limits.window c.args.choice c.in_ok-walk.walk first.opened c.args.limits first.memory);
      over = λ F known.
          let at_walk = first.opened.fetches.fetches.same_content ∙ known in
          record {
            short = walk_short c.args.source c.args.limits.window c.args.choice c.in_ok-walk.walk first.opened c.args.limits.budget F known of.fault (of.ensures.over F at_walk);
            place = walk_ends c.args.source c.args.limits.window c.args.choice c.in_ok-walk.walk first.opened c.args.limits.budget F known (first.of_file F known) of.fault (of.ensures.place F at_walk);
          };
    }

pub returns-in-Err-clause-handed_back : goal.returns-in-Err-clause-handed_back
returns-in-Err-clause-handed_back g c =
    let first = c.in_ok-walk.ensures in
    let of = c.in-Err in
    let ended = c.into_source.ensures in
    record {
      cause = rw ended.value (fetches_err c.args.source c.in_ok-walk.walk.source c.walk_all.new.walk.source first.opened.fetches of.fault of.ensures.fetches);
      spends = walk_spent c.args.source c.args.limits.window c.args.choice c.in_ok-walk.walk c.walk_all.new.walk first.opened of.ensures.pays c.into_source.result ended.booked c.fetched-fetched.ensures.allowed;
      within = λ most is.
          walk_within c.args.source c.args.limits.window c.args.choice c.in_ok-walk.walk c.walk_all.new.walk first.opened c.args.limits.budget first.kept of.ensures.kept most is
          c.into_source.result ended.booked c.fetched-fetched.ensures.allowed;
    }
