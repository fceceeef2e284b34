-- A view of a file that was opened.
use Rattle.std.proofs.Common.{◌≡◌, ◌∙◌, ◌≤◌, ◌<◌, ◌+◌, ◌*◌, ◌^◌, ◌⊎◌, ℕ, List, [], length, Option, Some, None, true, ap, arith, get_or, inl, inr, ltb-false, map, refl, subst, sum, sym}
use Rattle.std.proofs.lemmas.Bool.{cases_lt}
use Rattle.std.specs.Prelude.{IsTrue}
use Rattle.mdmp_source.specs.Count.{raised}
use Rattle.mdmp_source.specs.Source.{SourceState, FetchesSome}
use Rattle.mdmp_source.specs.Store.{IsGood, IsOfBytes, IsSizeOf}
use Rattle.mdmp_lister.specs.declared.choice.Choice.{Choice}
use Rattle.mdmp_lister.specs.declared.fault.OpenFault.{OpenFault}
use Rattle.mdmp_lister.specs.Format.Listing.{Numbered, chosen, entry_count}
use Rattle.mdmp_lister.specs.Format.Refusal.{directory_refusal}
use Rattle.mdmp_lister.specs.Meter.{KeepsTo}
use Rattle.mdmp_lister.specs.Opening.{IsHandedBackBare}
use Rattle.mdmp_lister.specs.declared.fault.OpenFault.TheVariants as opening
use Rattle.mdmp_lister.specs.declared.limits.Limits.{Limits}
use Rattle.mdmp_dump.specs.declared.fault.ReadFault.{ReadFault}
use Rattle.mdmp_dump.specs.declared.fault.ReadFault.TheVariants as faults
use Rattle.mdmp_dump.specs.EntryWalk.{IsOpenedWalk, LiesInside, MayCount, WalkState, chosen_entry, kind_by, no_entry}
use Rattle.mdmp_dump.specs.FileRefusal.{IsOfOpening, run_told, view_refusal}
use Rattle.mdmp_dump.specs.FileView.{AreBare, AreCounted, AreWalked, IsShortAt, IsViewPaid, IsView, IsViewed, KeepsAll, PaysAll, PaysSome, TellsFirst, asks_in, costs_in, file_shape, inside_cost_in, kind_at, opening_cost, pass_cost_in, room_told, shape_by}
use Rattle.mdmp_dump.specs.InFile.{dump_in, stream_named}
use Rattle.mdmp_dump.specs.Left.{run_of}
use Rattle.mdmp_dump.specs.Opening.{EndsOpening, HasSpentOpening, HoldsWithin, IsLimited, TellsOpeningEnd, copy_bound, copy_held, opening_bound}
use Rattle.mdmp_lister.specs.Memory.{is_within}
use Rattle.mdmp_dump.specs.Shape.{GivesNone, IsViewOf}
use Rattle.mdmp_dump.proofs.Budgets.{over_tells}
use Rattle.mdmp_dump.proofs.Costs.{costs_are}
use Rattle.mdmp_dump.proofs.Moving.{content_before, entry_stays, opening_stays}
use Rattle.mdmp_dump.proofs.Refusals.{none_told, opened_run}
use Rattle.mdmp_dump.proofs.Taking.{FetchesSome_then}

module _ (Z : Type 0) (source : SourceState) (window limit : ℕ) (choice : Choice) (w v : WalkState) (counts rooms : List ℕ) (opened : IsOpenedWalk source window choice w)
    (opens : (F : List ℕ) → source.store.content ≡ Some F → directory_refusal F ≡ None) (sized : IsSizeOf w.source.store.content w.source.size) (bytes : IsOfBytes w.source.store.content)
    (pays : PaysAll counts w v) (counted : length counts ≡ length w.chosen) (roomed : length rooms ≡ length w.chosen) (going : v.failed ≡ None)
    (light : w.held < 2 ^ 64) (of_file : (F : List ℕ) → w.source.store.content ≡ Some F → AreWalked Z F limit w counts rooms) (bare : AreBare (kind_at w) counts rooms) where
  at_first : (F : List ℕ) → w.source.store.content ≡ Some F → source.store.content ≡ Some F
  at_first F known = sym opened.fetches.fetches.same_content ∙ known

  chosen_same : (xs : List Numbered) → xs ≡ w.chosen → length v.chosen ≡ length xs
  chosen_same xs is = ap (λ (ys : List Numbered). length ys) (pays.same.chosen ∙ sym is)

  -- nothing of the file is refused
  quiet_file : (F : List ℕ) → w.source.store.content ≡ Some F → view_refusal F choice limit ≡ None
  quiet_file F known =
      let first = at_first F known in
      let walked = of_file F known in
      opened_run F choice limit (opens F first)
      ∙ ap (λ (xs : List Numbered). run_told F (run_of F limit xs)) (sym (opened.chosen_are F first))
      ∙ none_told F limit w.chosen (λ k inside. walked.quiet k (omega (arith, inside, counted)))

  opened_view : (F : List ℕ) → v.source.store.content ≡ Some F → IsViewed Z F limit v counts rooms
  opened_view F now =
      let known = content_before w v pays.same F now in
      let first = at_first F known in
      let walked = of_file F known in
      let choice_same : v.choice ≡ choice = pays.same.choice ∙ opened.choice_is in
      record {
        size = pays.same.fetches.fetches.same_size ∙ (rw known at sized);
        bytes = bytes F known;
        header = pays.same.header ∙ opened.header_is F first;
        chosen_are = pays.same.chosen ∙ opened.chosen_are F first ∙ ap (chosen F) (sym choice_same);
        quiet = ap (λ c. view_refusal F c limit) choice_same ∙ quiet_file F known;
        counted = λ k inside. rw (entry_stays w v pays.same k) (walked.counted k (omega (arith, inside, chosen_same w.chosen refl, counted)));
        roomed = λ k inside.
            walked.roomed k (omega (arith, inside, chosen_same w.chosen refl, counted))
            ∙ ap (λ (x : Numbered). room_told (stream_named {Z = Z} F x.entry)) (sym (entry_stays w v pays.same k));
      }

  costs_same : opening_cost v counts ≡ opening_cost w counts
  costs_same = opening_stays w v pays.same counts

  opened_paid : IsViewPaid v counts None 0 0
  opened_paid = record {
    bytes = λ low.
        let names : v.names + 1 < 2 ^ 128 = omega (arith, low, costs_same, pays.reached, opened.names) in
        omega (arith, costs_same, pays.allowed names, opened.allowed, opened.aside, pays.aside);
    names = λ low. omega (arith, costs_same, pays.reached, opened.names);
  }

  pub is_view : IsView Z limit v counts rooms None 0 0 None
  is_view = record {
    counted = counted ∙ sym (chosen_same w.chosen refl);
    roomed = roomed ∙ sym (chosen_same w.chosen refl);
    few = rw (pays.same.chosen, pays.same.header) opened.few;
    light = rw pays.same.held light;
    passing = λ p none. absurd (let some = none in cc);
    paid = opened_paid;
    bare = λ k none. bare k (subst (λ (x : Numbered). GivesNone (kind_by x.entry.stream_type) (get_or counts k 0)) (entry_stays w v pays.same k) none);
    of_file = opened_view;
    pass_of = λ F p known none. absurd (let some = none in cc);
    ended = λ told ended. absurd (let none = going in cc);
    steady = λ F good. going;
  }

  pub view_counted : AreCounted w.source.size w counts → AreCounted source.size v counts
  view_counted fits k inside =
      subst (λ (z : ℕ). MayCount z (chosen_entry v k).entry (get_or counts k 0)) opened.fetches.fetches.same_size (rw (entry_stays w v pays.same k) (fits k inside))

  pub view_quiet : (F : List ℕ) → source.store.content ≡ Some F → view_refusal F choice limit ≡ None
  view_quiet F known = quiet_file F (opened.fetches.fetches.same_content ∙ known)

  -- what it gives is the dump that the file lays out
  pub view_of : (F : List ℕ) → source.store.content ≡ Some F → IsViewOf (dump_in {Z = Z} F choice) (file_shape Z v counts rooms)
  view_of F known =
      let now : v.source.store.content ≡ Some F = pays.same.fetches.fetches.same_content ∙ opened.fetches.fetches.same_content ∙ known in
      subst (λ (c : Option (List ℕ)). IsViewOf (dump_in {Z = Z} F choice) (shape_by Z c v counts rooms)) (sym now)
      (subst (λ (c : Choice). IsViewOf (dump_in {Z = Z} F c) (shape_by Z (Some F) v counts rooms)) (pays.same.choice ∙ opened.choice_is) refl)

  -- over a good store it is reliable
  pub view_reliable : (F : List ℕ) → IsGood source.store F → IsTrue (file_shape Z v counts rooms).is_reliable
  view_reliable F good =
      let now : v.source.store.content ≡ Some F = pays.same.fetches.fetches.same_content ∙ opened.fetches.fetches.same_content ∙ good.known in
      subst (λ (c : Option (List ℕ)). IsTrue (shape_by Z c v counts rooms).is_reliable) (sym now) (pays.same.fetches.fetches.same_reliable ∙ opened.fetches.fetches.same_reliable ∙ good.reliable)

  pub held_whole : v.held + 12 * v.header.number_of_streams ≡ window + 24 * v.header.number_of_streams
  held_whole = omega (arith, opened.held, pays.same.held, ap (λ h. h.number_of_streams) pays.same.header)

  -- and what its opening may fetch is that of the file
  pub view_cost : (F : List ℕ) → source.store.content ≡ Some F → opening_cost v counts ≡ opening_bound F choice
  view_cost F known =
      let now : v.source.store.content ≡ Some F = pays.same.fetches.fetches.same_content ∙ opened.fetches.fetches.same_content ∙ known in
      let viewed = opened_view F now in
      let entries : v.header.number_of_streams ≡ entry_count F = ap (λ h. h.number_of_streams) viewed.header in
      let choice_same : v.choice ≡ choice = pays.same.choice ∙ opened.choice_is in
      let chosen_are : v.chosen ≡ chosen F choice = viewed.chosen_are ∙ ap (chosen F) choice_same in
      let costs : costs_in v.chosen counts ≡ map (pass_cost_in F) v.chosen = costs_are F v.chosen counts (omega (arith, counted, chosen_same w.chosen refl)) viewed.counted in
      let all : sum (costs_in v.chosen counts) ≡ sum (map (pass_cost_in F) (chosen F choice)) = ap sum (costs ∙ ap (map (pass_cost_in F)) chosen_are) in
      omega (arith, entries, all)

  -- what a copy of it needs is what a copy of the file may fetch
  pub view_needs : (F : List ℕ) → source.store.content ≡ Some F → (costs asks needed : ℕ) → costs ≡ sum (costs_in w.chosen counts) → costs ≤ 2 ^ 100 → asks ≡ raised 0 (asks_in Z F w.chosen)
      → needed ≡ raised (32 + 12 * v.header.number_of_streams + 3 * costs) asks → needed ≡ raised 0 (copy_bound Z F choice)
  view_needs F known costs asks needed sum_is few asks_are is =
      let opened_of = view_cost F known in
      let first = opened.header_is F known in
      let entries : v.header.number_of_streams ≡ entry_count F = ap (λ h. h.number_of_streams) (pays.same.header ∙ first) in
      let asked : asks_in Z F w.chosen ≡ asks_in Z F (chosen F choice) = ap (asks_in Z F) (opened.chosen_are F known) in
      let whole : opening_cost w counts ≡ 32 + 12 * w.header.number_of_streams + sum (costs_in w.chosen counts) = refl in
      let same : w.header.number_of_streams ≡ v.header.number_of_streams = ap (λ h. h.number_of_streams) (sym pays.same.header) in
      let bound : opening_bound F choice ≡ 32 + 12 * entry_count F + sum (map (pass_cost_in F) (chosen F choice)) = refl in
      omega (arith, opened_of, costs_same, whole, same, bound, entries, asked, sum_is, few, light, opened.held, asks_are, is)

  -- and no less than three passes over each stream cost
  pub view_needed : (costs asks needed : ℕ) → costs ≡ sum (costs_in w.chosen counts) → needed ≡ raised (32 + 12 * v.header.number_of_streams + 3 * costs) asks
      → opening_cost v counts + 2 * sum (costs_in v.chosen counts) ≤ needed
  view_needed costs asks needed sum_is is =
      let same : sum (costs_in v.chosen counts) ≡ sum (costs_in w.chosen counts) = ap (λ (xs : List Numbered). sum (costs_in xs counts)) pays.same.chosen in
      let whole : opening_cost v counts ≡ 32 + 12 * v.header.number_of_streams + sum (costs_in v.chosen counts) = refl in
      omega (arith, same, whole, sum_is, is)

  pub view_start : v.start ≡ source.fetched
  view_start = pays.same.start ∙ opened.start

  pub view_fetches : FetchesSome source v.source
  view_fetches = FetchesSome_then source w.source v.source opened.fetches pays.same.fetches

-- a refusal among the items is that of the file
pub run_refused : (source : SourceState) (window limit : ℕ) (choice : Choice) (w : WalkState) → IsOpenedWalk source window choice w → (F : List ℕ) → source.store.content ≡ Some F → directory_refusal F ≡ None
    → (fault : ReadFault) → run_told F (run_of F limit w.chosen) ≡ Some fault → view_refusal F choice limit ≡ Some fault
run_refused source window limit choice w opened F known opens fault refused =
    opened_run F choice limit opens ∙ ap (λ (xs : List Numbered). run_told F (run_of F limit xs)) (sym (opened.chosen_are F known)) ∙ refused

-- ---- what was fetched of a file that gives no view

-- the header or the directory was refused
pub head_spent : (source left : SourceState) (choice : Choice) (fault : OpenFault) → IsHandedBackBare source fault left → HasSpentOpening choice source left
unfolding costs_in
head_spent source left choice fault back = record {
  entries = back.asked;
  chosen_are = [];
  reached = [];
  few = omega arith;
  fetched = omega (arith, back.fetches.fetched);
  of_file = λ F known. omega (arith, back.known F known);
  inside = λ k within. absurd (let h : k < 0 = within in omega (arith, h));
  inside_costs = λ F known. omega (arith, back.known F known);
}

-- a stream was, behind some others
module _ (source : SourceState) (window : ℕ) (choice : Choice) (w v : WalkState) (opened : IsOpenedWalk source window choice w) where
  pub walk_spent : PaysSome w v → (left : SourceState) → left.fetched ≡ raised v.start (v.fetched + v.aside) → (v.names + 1 < 2 ^ 128 → v.fetched ≤ v.allowed) → HasSpentOpening choice source left
  walk_spent some left booked most = record {
    entries = w.header.number_of_streams;
    chosen_are = w.chosen;
    reached = some.reached;
    few = opened.few;
    fetched = elim (cases_lt (v.names + 1) (2 ^ 128)) [
      | inl few ↦ omega (arith, booked, most few, some.pays.allowed few, opened.allowed, some.pays.aside, opened.aside, some.pays.same.start, opened.start)
      | inr many ↦ omega (arith, many, booked, some.pays.reached, opened.names, some.pays.same.start, opened.start)
    ];
    of_file = λ F known.
        let entries : w.header.number_of_streams ≡ entry_count F = ap (λ h. h.number_of_streams) (opened.header_is F known) in
        let passes : sum (map (pass_cost_in F) w.chosen) ≡ sum (map (pass_cost_in F) (chosen F choice)) = ap (λ (xs : List Numbered). sum (map (pass_cost_in F) xs)) (opened.chosen_are F known) in
        omega (arith, entries, passes, some.few F (opened.fetches.fetches.same_content ∙ known));
    inside = λ k within. subst (λ (z : ℕ). LiesInside z (get_or w.chosen k no_entry).entry) opened.fetches.fetches.same_size (some.inside k within);
    inside_costs = λ F known.
        let entries : w.header.number_of_streams ≡ entry_count F = ap (λ h. h.number_of_streams) (opened.header_is F known) in
        let sized : sum (map (inside_cost_in w.source.size F) w.chosen) ≡ sum (map (inside_cost_in source.size F) w.chosen) = ap (λ (z : ℕ). sum (map (inside_cost_in z F) w.chosen)) opened.fetches.fetches.same_size in
        let passes : sum (map (inside_cost_in source.size F) w.chosen) ≡ sum (map (inside_cost_in source.size F) (chosen F choice)) = ap (λ (xs : List Numbered). sum (map (inside_cost_in source.size F) xs)) (opened.chosen_are F known) in
        omega (arith, entries, sized, passes, some.inside_costs F (opened.fetches.fetches.same_content ∙ known));
  }

  -- what was fetched is within a budget that the opening of the walk and the walk kept to
  module _ (budget : Option ℕ) (kept : KeepsTo budget w.fetched) (keeps : (v ≡ w) ⊎ KeepsAll budget w v) (most : ℕ) (is : budget ≡ Some most) where
    not_over : (n : ℕ) → KeepsTo budget n → n ≤ most
    not_over n within = ltb-false most n (rw is at within)

    -- as the view counts it, which stops at the greatest
    pub walk_kept : (told : ℕ) → told ≡ raised v.fetched v.aside → told < 2 ^ 128 → (v.names + 1 < 2 ^ 128 → v.fetched ≤ v.allowed) → told ≤ most
    walk_kept told count small allowed = elim keeps [
      | inl same ↦
          let fetched : v.fetched ≡ w.fetched = ap (λ (u : WalkState). u.fetched) same in
          let aside : v.aside ≡ w.aside = ap (λ (u : WalkState). u.aside) same in
          omega (arith, count, fetched, aside, opened.aside, not_over w.fetched kept)
      | inr all ↦
          let room = not_over (opening_cost w all.reached) all.kept in
          elim (cases_lt (v.names + 1) (2 ^ 128)) [
            | inl few ↦ omega (arith, count, allowed few, all.pays.allowed few, opened.allowed, all.pays.aside, opened.aside, room)
            | inr many ↦ omega (arith, many, small, all.pays.reached, opened.names, room)
          ]
    ]

    -- and as its source does
    pub walk_within : (left : SourceState) → left.fetched ≡ raised v.start (v.fetched + v.aside) → (v.names + 1 < 2 ^ 128 → v.fetched ≤ v.allowed) → left.fetched ≤ source.fetched + most
    walk_within left booked allowed = elim keeps [
      | inl same ↦
          let fetched : v.fetched ≡ w.fetched = ap (λ (u : WalkState). u.fetched) same in
          let aside : v.aside ≡ w.aside = ap (λ (u : WalkState). u.aside) same in
          let start : v.start ≡ w.start = ap (λ (u : WalkState). u.start) same in
          omega (arith, booked, fetched, aside, start, opened.start, opened.aside, not_over w.fetched kept)
      | inr all ↦
          let room = not_over (opening_cost w all.reached) all.kept in
          elim (cases_lt (v.names + 1) (2 ^ 128)) [
            | inl few ↦ omega (arith, booked, allowed few, all.pays.allowed few, opened.allowed, all.pays.aside, opened.aside, all.pays.same.start, opened.start, room)
            | inr many ↦ omega (arith, many, booked, all.pays.reached, opened.names, all.pays.same.start, opened.start, room)
          ]
    ]

-- a budget that ends the walk has no room for what the opening may fetch, and tells the first stream that it has no room for
pub walk_short : (source : SourceState) (window : ℕ) (choice : Choice) (w : WalkState) → IsOpenedWalk source window choice w → (budget : Option ℕ) (F : List ℕ) → source.store.content ≡ Some F → (fault : ReadFault)
    → IsShortAt budget (32 + 12 * w.header.number_of_streams + sum (map (pass_cost_in F) w.chosen)) fault → IsShortAt budget (opening_bound F choice + 16 * entry_count F) fault
walk_short source window choice w opened budget F known fault over =
    let entries : w.header.number_of_streams ≡ entry_count F = ap (λ h. h.number_of_streams) (opened.header_is F known) in
    let passes : sum (map (pass_cost_in F) w.chosen) ≡ sum (map (pass_cost_in F) (chosen F choice)) = ap (λ (xs : List Numbered). sum (map (pass_cost_in F) xs)) (opened.chosen_are F known) in
    over_tells budget (32 + 12 * w.header.number_of_streams + sum (map (pass_cost_in F) w.chosen)) (opening_bound F choice + 16 * entry_count F) fault (omega (arith, entries, passes)) over

first_ends : (budget : Option ℕ) (window : ℕ) (F : List ℕ) (choice : Choice) (fault : ReadFault) → directory_refusal F ≡ None → TellsFirst budget F (entry_count F) (chosen F choice) fault
    → TellsOpeningEnd budget window F choice fault
first_ends budget window F choice (faults.Opening (opening.Budget offset size)) opens first = EndsOpening.at_stream opens first
first_ends budget window F choice fault opens first = tt

pub walk_ends : (source : SourceState) (window : ℕ) (choice : Choice) (w : WalkState) → IsOpenedWalk source window choice w → (budget : Option ℕ) (F : List ℕ) → source.store.content ≡ Some F → directory_refusal F ≡ None
    → (fault : ReadFault) → TellsFirst budget F w.header.number_of_streams w.chosen fault → TellsOpeningEnd budget window F choice fault
walk_ends source window choice w opened budget F known opens fault first =
    let entries : w.header.number_of_streams ≡ entry_count F = ap (λ h. h.number_of_streams) (opened.header_is F known) in
    first_ends budget window F choice fault opens
    (subst (λ (xs : List Numbered). TellsFirst budget F (entry_count F) xs fault) (opened.chosen_are F known)
    (subst (λ (n : ℕ). TellsFirst budget F n w.chosen fault) entries first))

-- the limit of memory is not told of a walk, which keeps to it
pub walk_holds : (source : SourceState) (window : ℕ) (choice : Choice) (w : WalkState) → IsOpenedWalk source window choice w → (limits : Limits)
    → is_within limits.memory (copy_held limits.window w.header.number_of_streams) ≡ true → HoldsWithin limits source.store.content
walk_holds source window choice w opened limits within = λ F known.
    subst (λ (n : ℕ). is_within limits.memory (copy_held limits.window n) ≡ true) (ap (λ h. h.number_of_streams) (opened.header_is F known)) within

pub walk_limited : (limits : Limits) (content : Option (List ℕ)) (budget : Option ℕ) (fault : ReadFault) → IsOfOpening budget fault → HoldsWithin limits content → IsLimited limits content fault
walk_limited limits content budget (faults.Opening (opening.Budget offset size)) is holds = tt
walk_limited limits content budget (faults.Opening fault) is holds = absurd is
walk_limited limits content budget fault is holds = holds
