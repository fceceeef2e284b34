use Rattle.std.proofs.Common.{Ok, Err, ◌≡◌, ◌<◌, ◌+◌, [], ◌∷◌, ◌++◌, ap, arith, refl, subst, sym, ◌∙◌, false, true}
use Rattle.mdmp_wire.specs.declared.header.Header.{Header}
use Rattle.mdmp_lister.specs.Fault.{is_unobtained}
use Rattle.mdmp_lister.specs.Format.Listing.{entry_count}
use Rattle.mdmp_lister.specs.Lister.{is_for_good}
use Rattle.mdmp_lister.specs.Walker as walker
use Rattle.mdmp_lister.specs.Walker.{is_sought}
use Rattle.mdmp_lister.specs.declared.meter.Amount.{Amount}
use Rattle.mdmp_lister.specs.declared.meter.MeterCounts.{MeterCounts}
use Rattle.mdmp_summary.specs.BadEntries.{told_bad}
use Rattle.mdmp_lister.specs.NamesFetched.{FetchesNames}
use Rattle.mdmp_summary.specs.Visiting.{RisesOutside}
use Rattle.mdmp_summary.specs.declared.bad_entries.BadEntries.{BadEntries}
use Rattle.mdmp_summary.specs.declared.visiting.VisitFault.TheVariants as faults
use Rattle.mdmp_summary.proofs.Entries.{no_faults, no_items}
use Rattle.mdmp_summary.proofs.Counting.{bad_on, counts_begin, counts_more, faults_end, items_end, items_first, skipped_left}
use Rattle.mdmp_lister.proofs.NamesFetched.{names_more, names_none}
use Rattle.mdmp_summary.proofs.Passing.{passed_done, passed_end, passed_skip, passed_sought, pays_none}
use Rattle.mdmp_summary.proofs.Skipped.{between_skipped}
use Rattle.mdmp_summary.proofs.Sought.{sought_between, sought_left}
use Rattle.mdmp_summary.proofs.Told.{end_later, good_still, look_later, obtained, same_listing_none, same_listing_then, skipped_listing, sought_listing, unobtained}
use Rattle.mdmp_summary.proofs.Visited.{outside_none, outside_same, outside_then, visited_same, visited_to}
use Rattle.mdmp_summary.proofs.walking.visit_all.Goals as goal

-- ---- a file without entries

pub returns-then-streams-eq0-clause-visits : goal.returns-then-streams-eq0-clause-visits
returns-then-streams-eq0-clause-visits g c = record {
  items = [];
  visited = refl;
  all = λ file known.
      let count : c.header-streams.result.number_of_streams ≡ entry_count file = ap (λ (h : Header). h.number_of_streams) (c.header-streams.ensures.of_file file known) in
      no_items file c.args.walker.now.list.limit (sym count ∙ c.if-streams-eq0.true);
  outside = outside_none _ c.args.walker.now.list.counts.aside;
  named = names_none 1 c.args.walker.now.list.counts.fetched;
}

pub returns-then-streams-eq0-clause-bad : goal.returns-then-streams-eq0-clause-bad
returns-then-streams-eq0-clause-bad g c = λ file known.
    let count : c.header-streams.result.number_of_streams ≡ entry_count file = ap (λ (h : Header). h.number_of_streams) (c.header-streams.ensures.of_file file known) in
    c.none-bad.ensures ∙ ap told_bad (sym (no_faults file c.args.walker.now.list.limit (sym count ∙ c.if-streams-eq0.true)))

pub returns-then-streams-eq0-clause-pays : goal.returns-then-streams-eq0-clause-pays
returns-then-streams-eq0-clause-pays g c = pays_none c.args.walker.now

pub returns-then-streams-eq0-clause-same : goal.returns-then-streams-eq0-clause-same
returns-then-streams-eq0-clause-same g c = same_listing_none c.args.walker.now.list

-- ---- a look

pub entries-init : goal.entries-init
entries-init g c =
    let old = c.args.walker.now in
    let new = c.seek_entry.new.self in
    let seeks = c.seek_entry.ensures in
    let goes = seeks.goes c.requires.going in
    record {
      same = sought_listing old.list new.list seeks.same;
      going = goes.stop;
      walks = λ not. let sought : is_sought new ≡ true = ap walker.seeks goes.position in absurd (cc);
      between = sought_between old new seeks.same goes c.requires.all (λ file known.
          let count : c.header-streams.result.number_of_streams ≡ entry_count file = ap (λ (h : Header). h.number_of_streams) (c.header-streams.ensures.of_file file known) in
          omega (arith, count, c.if-streams-eq0.false));
      count = ap (λ (b : BadEntries). b.count) c.none-bad.ensures;
      met = [];
      bad = c.none-bad.ensures;
      spans = refl;
      items = [];
      visited = refl;
      outside = subst (λ (a : Amount). RisesOutside (g.V.Visitor.room (g.V.Visitor.span c.args.visitor.now)) [] old.list.counts.aside a) (λ i. (sym seeks.same i).counts.aside) (outside_none _ old.list.counts.aside);
      named = subst (λ n. FetchesNames 1 [] old.list.counts.fetched n) (λ i. (sym seeks.same i).counts.fetched) (names_none 1 old.list.counts.fetched);
      passed = passed_sought old new seeks.same seeks.mark goes.position;
      counts = λ file known.
          let count : c.header-streams.result.number_of_streams ≡ entry_count file = ap (λ (h : Header). h.number_of_streams) (c.header-streams.ensures.of_file file known) in
          let some : 0 < entry_count file = omega (arith, count, c.if-streams-eq0.false) in
          counts_begin file old.list.limit new.list (goes.left ∙ sought_left file old.list.choice old.list.limit old.list.source.store.content known c.requires.all some);
    }

pub entries-preserved : goal.entries-preserved
entries-preserved g c =
    let first = c.args.walker.now.list in
    let now = c.entries.walker.list in
    let mid = c.visit_rest.new.walker.list in
    let new = c.skip_entry.new.self.list in
    let so_far = c.entries.invariant in
    let look = rw c.in-Err-List.field-0-is at c.in-Err-List.ensures in
    let f = c.in-Err-List.fault in
    let keeps = c.skip_entry.ensures.keeps in
    let of_file : is_unobtained f.kind ≡ false = sym c.is_unobtained.ensures ∙ c.if-is_unobtained.false in
    let skips = c.skip_entry.ensures.skips (ap is_for_good look.ends.stops.0 ∙ of_file) look.position in
    let before = same_listing_then first now mid so_far.same look.ends.same in
    let room = g.V.Visitor.room in
    let span = g.V.Visitor.span c.args.visitor.now in
    record {
      same = same_listing_then first mid new before (skipped_listing mid new keeps.same keeps.source);
      going = skips.stop;
      walks = λ not more. absurd (more skips.standing);
      between = between_skipped c.visit_rest.new.walker c.skip_entry.new.self skips keeps (c.skip_entry.ensures.position.0 ∙ look.position);
      count = let more = ap (λ (b : BadEntries). b.count) c.take.ensures in omega (arith, so_far.count, more);
      met = so_far.met ++ f ∷ [];
      bad = bad_on so_far.met f c.entries.bad c.take.new.self so_far.bad c.take.ensures;
      spans = look.spans ∙ so_far.spans;
      items = so_far.items ++ look.shows.items;
      visited = visited_to g.V.Visitor.taken (g.V.Visitor.looked first.source.store.content first.limit) {T = Unit {0}} so_far.items look.shows.items c.args.visitor.now c.entries.visitor c.visit_rest.new.visitor (Err (faults.List f))
          so_far.visited (visited_same g.V.Visitor.taken g.V.Visitor.looked {T = Unit {0}} _ _ _ _ c.entries.visitor look.shows.items (Err (faults.List f)) c.visit_rest.new.visitor so_far.same.same_file.fetches.same_content so_far.same.limit look.shows.visited);
      outside = outside_then (room span) so_far.items look.shows.items first.counts.aside now.counts.aside new.counts.aside so_far.outside
          (subst (λ (m : MeterCounts). RisesOutside (room span) look.shows.items now.counts.aside m.aside) (sym keeps.counts)
          (outside_same room span (g.V.Visitor.span c.entries.visitor) look.shows.items now.counts.aside mid.counts.aside so_far.spans look.shows.outside));
      named = names_more so_far.items look.shows.items first.counts.fetched now.counts.fetched new.counts.fetched so_far.named
          (subst (λ (m : MeterCounts). FetchesNames 1 look.shows.items now.counts.fetched m.fetched) (sym keeps.counts) look.shows.named);
      passed = passed_skip c.args.walker.now c.entries.walker c.visit_rest.new.walker so_far.same.limit (faults.List f) c.skip_entry.new.self keeps.same keeps.source keeps.counts keeps.passed keeps.current
          c.skip_entry.ensures.mark look.position (c.skip_entry.ensures.position.0 ∙ look.position) so_far.passed look.pays;
      counts = λ file known.
          let left = skips.left ∙ skipped_left file mid first.limit (f.entry + 1) (before.same_file.fetches.same_content ∙ known) (before.choice ∙ c.requires.all) before.limit look.ends.stops.1 in
          counts_more file first.limit now new so_far.met so_far.items look.shows.items f (so_far.counts file known) (λ run is. (look.shows.all run is).1 (obtained f.kind of_file)) left;
    }

-- ---- the end

pub returns-in-Ok-clause-visits : goal.returns-in-Ok-clause-visits
returns-in-Ok-clause-visits g c =
    let first = c.args.walker.now.list in
    let now = c.entries.walker.list in
    let so_far = c.entries.invariant in
    let shows = c.in-Ok.ensures.shows in
    let room = g.V.Visitor.room in
    let span = g.V.Visitor.span c.args.visitor.now in
    record {
      items = so_far.items ++ shows.items;
      visited = visited_to g.V.Visitor.taken (g.V.Visitor.looked first.source.store.content first.limit) {T = BadEntries} so_far.items shows.items c.args.visitor.now c.entries.visitor c.visit_rest.new.visitor (Ok c.entries.bad)
          so_far.visited (visited_same g.V.Visitor.taken g.V.Visitor.looked {T = BadEntries} _ _ _ _ c.entries.visitor shows.items (Ok c.entries.bad) c.visit_rest.new.visitor so_far.same.same_file.fetches.same_content so_far.same.limit shows.visited);
      all = λ file known. sym (items_end file first.limit now so_far.met so_far.items shows.items (so_far.counts file known) shows.all);
      outside = outside_then (room span) so_far.items shows.items first.counts.aside now.counts.aside c.visit_rest.new.walker.list.counts.aside so_far.outside
          (outside_same room span (g.V.Visitor.span c.entries.visitor) shows.items now.counts.aside c.visit_rest.new.walker.list.counts.aside so_far.spans shows.outside);
      named = names_more so_far.items shows.items first.counts.fetched now.counts.fetched c.visit_rest.new.walker.list.counts.fetched so_far.named shows.named;
    }

pub returns-in-Ok-clause-bad : goal.returns-in-Ok-clause-bad
returns-in-Ok-clause-bad g c = λ file known.
    let so_far = c.entries.invariant in
    let shows = c.in-Ok.ensures.shows in
    so_far.bad ∙ ap told_bad (faults_end file c.args.walker.now.list.limit c.entries.walker.list so_far.met so_far.items shows.items (so_far.counts file known) shows.all)

pub returns-in-Ok-clause-pays : goal.returns-in-Ok-clause-pays
returns-in-Ok-clause-pays g c =
    let so_far = c.entries.invariant in
    passed_end c.args.walker.now c.entries.walker c.visit_rest.new.walker so_far.same.limit (Ok tt) so_far.passed c.in-Ok.ensures.pays

pub returns-in-Ok-clause-same : goal.returns-in-Ok-clause-same
returns-in-Ok-clause-same g c =
    same_listing_then c.args.walker.now.list c.entries.walker.list c.visit_rest.new.walker.list c.entries.invariant.same c.in-Ok.ensures.ends.same

-- ---- a visitor that ended the pass

pub returns-in-Err-Ended-clause-visits : goal.returns-in-Err-Ended-clause-visits
returns-in-Err-Ended-clause-visits g c =
    let first = c.args.walker.now.list in
    let now = c.entries.walker.list in
    let so_far = c.entries.invariant in
    let shows = (rw c.in-Err-Ended.field-0-is at c.in-Err-Ended.ensures).shows in
    let room = g.V.Visitor.room in
    let span = g.V.Visitor.span c.args.visitor.now in
    record {
      items = so_far.items ++ shows.items;
      visited = visited_to g.V.Visitor.taken (g.V.Visitor.looked first.source.store.content first.limit) {T = BadEntries} so_far.items shows.items c.args.visitor.now c.entries.visitor c.visit_rest.new.visitor (Err (faults.Ended c.in-Err-Ended.end))
          so_far.visited (visited_same g.V.Visitor.taken g.V.Visitor.looked {T = BadEntries} _ _ _ _ c.entries.visitor shows.items (Err (faults.Ended c.in-Err-Ended.end)) c.visit_rest.new.visitor so_far.same.same_file.fetches.same_content so_far.same.limit shows.visited);
      all = λ file known. items_first file first.limit now so_far.met so_far.items shows.items (so_far.counts file known) (λ left is. shows.all left is);
      outside = outside_then (room span) so_far.items shows.items first.counts.aside now.counts.aside c.visit_rest.new.walker.list.counts.aside so_far.outside
          (outside_same room span (g.V.Visitor.span c.entries.visitor) shows.items now.counts.aside c.visit_rest.new.walker.list.counts.aside so_far.spans shows.outside);
      named = names_more so_far.items shows.items first.counts.fetched now.counts.fetched c.visit_rest.new.walker.list.counts.fetched so_far.named shows.named;
    }

pub returns-in-Err-Ended-clause-fault : goal.returns-in-Err-Ended-clause-fault
returns-in-Err-Ended-clause-fault g c =
    let before = c.entries.invariant.same.same_file in
    let look = rw c.in-Err-Ended.field-0-is at c.in-Err-Ended.ensures in
    end_later c.in-Err-Ended.end before.count c.args.walker.now.list.source c.entries.walker.list.source c.visit_rest.new.walker.list.source before.fetches look.fault

pub returns-in-Err-Ended-clause-good : goal.returns-in-Err-Ended-clause-good
returns-in-Err-Ended-clause-good g c = λ file good.
    let before = c.entries.invariant.same.same_file in
    let look = rw c.in-Err-Ended.field-0-is at c.in-Err-Ended.ensures in
    look.good file (good_still file before.count _ _ before.fetches good)

pub returns-in-Err-Ended-clause-pays : goal.returns-in-Err-Ended-clause-pays
returns-in-Err-Ended-clause-pays g c =
    let so_far = c.entries.invariant in
    let look = rw c.in-Err-Ended.field-0-is at c.in-Err-Ended.ensures in
    passed_end c.args.walker.now c.entries.walker c.visit_rest.new.walker so_far.same.limit (Err (faults.Ended c.in-Err-Ended.end)) so_far.passed look.pays

pub returns-in-Err-Ended-clause-begun : goal.returns-in-Err-Ended-clause-begun
returns-in-Err-Ended-clause-begun g c =
    let so_far = c.entries.invariant.passed in
    let look = rw c.in-Err-Ended.field-0-is at c.in-Err-Ended.ensures in
    look.pays.begun c.args.walker.now.list.counts.aside so_far.outside so_far.begun

pub returns-in-Err-Ended-clause-same : goal.returns-in-Err-Ended-clause-same
returns-in-Err-Ended-clause-same g c =
    let look = rw c.in-Err-Ended.field-0-is at c.in-Err-Ended.ensures in
    same_listing_then c.args.walker.now.list c.entries.walker.list c.visit_rest.new.walker.list c.entries.invariant.same look.ends.same

-- ---- bytes that were not read

pub returns-then-is_unobtained-clause-visits : goal.returns-then-is_unobtained-clause-visits
returns-then-is_unobtained-clause-visits g c =
    let first = c.args.walker.now.list in
    let now = c.entries.walker.list in
    let so_far = c.entries.invariant in
    let shows = (rw c.in-Err-List.field-0-is at c.in-Err-List.ensures).shows in
    let room = g.V.Visitor.room in
    let span = g.V.Visitor.span c.args.visitor.now in
    record {
      items = so_far.items ++ shows.items;
      visited = visited_to g.V.Visitor.taken (g.V.Visitor.looked first.source.store.content first.limit) {T = BadEntries} so_far.items shows.items c.args.visitor.now c.entries.visitor c.visit_rest.new.visitor (Err (faults.List c.in-Err-List.fault))
          so_far.visited (visited_same g.V.Visitor.taken g.V.Visitor.looked {T = BadEntries} _ _ _ _ c.entries.visitor shows.items (Err (faults.List c.in-Err-List.fault)) c.visit_rest.new.visitor so_far.same.same_file.fetches.same_content so_far.same.limit shows.visited);
      all = λ file known. items_first file first.limit now so_far.met so_far.items shows.items (so_far.counts file known) (λ left is. (shows.all left is).0);
      outside = outside_then (room span) so_far.items shows.items first.counts.aside now.counts.aside c.visit_rest.new.walker.list.counts.aside so_far.outside
          (outside_same room span (g.V.Visitor.span c.entries.visitor) shows.items now.counts.aside c.visit_rest.new.walker.list.counts.aside so_far.spans shows.outside);
      named = names_more so_far.items shows.items first.counts.fetched now.counts.fetched c.visit_rest.new.walker.list.counts.fetched so_far.named shows.named;
    }

pub returns-then-is_unobtained-clause-fault : goal.returns-then-is_unobtained-clause-fault
returns-then-is_unobtained-clause-fault g c =
    let f = c.in-Err-List.fault in
    let look = rw c.in-Err-List.field-0-is at c.in-Err-List.ensures in
    record {
      unobtained = unobtained f.kind (sym c.is_unobtained.ensures ∙ c.if-is_unobtained.true);
      look = look_later c.args.walker.now.list c.entries.walker.list c.visit_rest.new.walker.list f c.entries.invariant.same.same_file look.fault;
      entry = look.entry c.entries.invariant.walks;
      number = look.ends.stops.1;
      stop = look.ends.stops.0;
    }

pub returns-then-is_unobtained-clause-good : goal.returns-then-is_unobtained-clause-good
returns-then-is_unobtained-clause-good g c = λ file good.
    let before = c.entries.invariant.same.same_file in
    let look = rw c.in-Err-List.field-0-is at c.in-Err-List.ensures in
    look.good file (good_still file before.count _ _ before.fetches good)

pub returns-then-is_unobtained-clause-pays : goal.returns-then-is_unobtained-clause-pays
returns-then-is_unobtained-clause-pays g c =
    let so_far = c.entries.invariant in
    let look = rw c.in-Err-List.field-0-is at c.in-Err-List.ensures in
    passed_end c.args.walker.now c.entries.walker c.visit_rest.new.walker so_far.same.limit (Err (faults.List c.in-Err-List.fault)) so_far.passed look.pays

pub returns-then-is_unobtained-clause-begun : goal.returns-then-is_unobtained-clause-begun
returns-then-is_unobtained-clause-begun g c =
    let so_far = c.entries.invariant.passed in
    let look = rw c.in-Err-List.field-0-is at c.in-Err-List.ensures in
    look.pays.begun c.args.walker.now.list.counts.aside so_far.outside so_far.begun

pub returns-then-is_unobtained-clause-same : goal.returns-then-is_unobtained-clause-same
returns-then-is_unobtained-clause-same g c =
    let look = rw c.in-Err-List.field-0-is at c.in-Err-List.ensures in
    same_listing_then c.args.walker.now.list c.entries.walker.list c.visit_rest.new.walker.list c.entries.invariant.same look.ends.same

-- ---- after as many looks as there may be

pub returns-clause-visits : goal.returns-clause-visits
returns-clause-visits g c =
    let so_far = c.entries.invariant in
    record {
      items = so_far.items;
      visited = so_far.visited;
      all = λ file known.
          let counts = so_far.counts file known in
          let met = ap (λ (b : BadEntries). b.count) so_far.bad in
          let count : c.header-streams.result.number_of_streams ≡ entry_count file = ap (λ (h : Header). h.number_of_streams) (c.header-streams.ensures.of_file file known) in
          absurd (omega (arith, count, counts.few, counts.within, met, so_far.count, c.from-looks.ensures, c.entries-test.false));
      outside = so_far.outside;
      named = so_far.named;
    }

pub returns-clause-bad : goal.returns-clause-bad
returns-clause-bad g c = λ file known.
    let so_far = c.entries.invariant in
    let counts = so_far.counts file known in
    let met = ap (λ (b : BadEntries). b.count) so_far.bad in
    let count : c.header-streams.result.number_of_streams ≡ entry_count file = ap (λ (h : Header). h.number_of_streams) (c.header-streams.ensures.of_file file known) in
    absurd (omega (arith, count, counts.few, counts.within, met, so_far.count, c.from-looks.ensures, c.entries-test.false))

pub returns-clause-pays : goal.returns-clause-pays
returns-clause-pays g c = passed_done c.args.walker.now c.entries.walker c.entries.invariant.passed
