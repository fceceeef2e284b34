-- What a look and a pass fetch, by what was counted as each entry began.
use Rattle.std.proofs.Common.{◌≡◌, ◌≤◌, ◌<◌, ◌+◌, ◌-◌, ◌*◌, ◌^◌, ◌∙◌, ℕ, zero, suc, List, Option, Some, None, Result, Ok, Err, true, false, ap, arith, drop, get_or, length, refl, slice_get, subst, sym}
use Rattle.std.proofs.lemmas.Option.{get_or_from_slice_get, slice_get_within}
use Rattle.mdmp_wire.specs.declared.entry.Entry.{Entry}
use Rattle.mdmp_lister.specs.declared.choice.Choice.{Choice}
use Rattle.mdmp_lister.specs.declared.choice.Choice.TheVariants.{All}
use Rattle.mdmp_lister.specs.declared.fault.ListFault.{ListFault}
use Rattle.mdmp_lister.specs.declared.item.Item.{Item}
use Rattle.mdmp_lister.specs.declared.item.StreamItem.{StreamItem}
use Rattle.mdmp_lister.specs.declared.meter.Amount.{Amount}
use Rattle.mdmp_lister.specs.declared.meter.MeterCounts.{MeterCounts}
use Rattle.mdmp_lister.specs.declared.position.Position.{Position}
use Rattle.mdmp_lister.specs.declared.position.Position.TheVariants.{Begun, Sought, Within}
use Rattle.mdmp_lister.specs.declared.step.Step.{Step}
use Rattle.mdmp_lister.specs.declared.step.Step.TheVariants as step
use Rattle.mdmp_lister.specs.Following.{Cursor, Follows, GivesChosenEntry, GivesNextEntry, GoesOn, Standing}
use Rattle.mdmp_lister.specs.Following as following
use Rattle.mdmp_lister.specs.Format.Item.{plain}
use Rattle.mdmp_lister.specs.Format.Listing.{is_chosen}
use Rattle.mdmp_lister.specs.Format.Summary.{Summary, entry_begun, number_behind, summary_of}
use Rattle.mdmp_lister.specs.Listed.{cost_of, entry_cost}
use Rattle.mdmp_lister.specs.Lister.{AnswersNext, IsSameLister, ListerState, cursor_in}
use Rattle.mdmp_lister.specs.Step.{TellsAnswer, TellsItem, stream_told}
use Rattle.mdmp_lister.specs.Walk.Positions.{mark_by, position_by}
use Rattle.mdmp_lister.specs.Walker.{GivesEntry, WalkerLeaves, WalkerState, seeks}
use Rattle.mdmp_lister.proofs.Listed.{cost_by-more, cost_by-passed}
use Rattle.mdmp_lister.proofs.Summary.{summary_of-item_of, summary_of-plain}
use Rattle.mdmp_summary.specs.Spending.{CountsNames, IsBegunAfter, KeepsSettled, LookPaid, PaysLook, ReadsOutside, RisesByNames, ahead, ahead_after, room_for_name, next_number, settled}
use Rattle.mdmp_summary.specs.Visiting.{IsAtMost}
use Rattle.mdmp_summary.specs.Walking.{IsSameListing}

-- ---- numbers

pub rises_then : (room a na b nb c nc : ℕ) → RisesByNames room a na b nb → RisesByNames room b nb c nc → RisesByNames room a na c nc
rises_then room a na b nb c nc first then = omega (arith, first, then)

-- ---- what the entries cost

module _ (choice : Choice) (z : ℕ) (es : List Entry) (d : Entry) where
  -- those from a later number on cost no more
  cost_later : (n at to : ℕ) → to ≡ at + n → to < length es → cost_of choice z (drop to es) ≤ cost_of choice z (drop at es)
  cost_later zero at to is within = let same : to ≡ at = omega (arith, is) in rw same (omega arith)
  cost_later (suc n) at to is within =
      let next : to ≡ at + n + 1 = omega (arith, is) in
      let more = cost_by-passed (λ x. x) choice z (at + n) es d (omega (arith, within, next)) in
      let rest = cost_later n at (at + n) refl (omega (arith, within, next)) in
      rw next (omega (arith, more, rest))

  -- a chosen entry and those after it cost no more than those from an earlier number on
  begun_cost : (from number : ℕ) → from ≤ number → slice_get es number ≡ Some d → is_chosen choice d.stream_type ≡ true
      → entry_cost z d + cost_of choice z (drop (number + 1) es) ≤ cost_of choice z (drop from es)
  begun_cost from number behind is chosen =
      let within : number < length es = slice_get_within es number d is in
      let same : get_or es number d ≡ d = get_or_from_slice_get es number d d is in
      let known : is_chosen choice (get_or es number d).stream_type ≡ true = rw same chosen in
      let all = cost_by-more (λ x. x) choice z number es d within known in
      let one = ap (entry_cost z) same in
      let at : number ≡ from + (number - from) = omega (arith, behind) in
      let earlier = cost_later (number - from) from number at within in
      omega (arith, all, one, earlier)

-- ---- a Stream item begins an entry

-- it is of the next chosen entry, or of the one that was sought
pub record BeginsEntry (v : ListerState) (from : ℕ) (s : StreamItem) : Type 0 where
  pub number : ℕ
  pub entry : Entry
  pub behind : from ≤ number
  pub is : slice_get v.entries number ≡ Some entry
  pub chosen : is_chosen v.choice entry.stream_type ≡ true
  pub item_is : s ≡ record { entry = number; stream_type = entry.stream_type; location = entry.location }

-- an item begins the entry that its step does
told_stream : (z : ℕ) (s : Step) (x : Item) → TellsItem z s (plain x) → (summary_of x).stream ≡ stream_told s
told_stream z (step.Stream y) x told = sym (ap (λ (s : Summary). s.stream) (summary_of-plain x)) ∙ ap (λ (y : Item). (summary_of y).stream) told
told_stream z (step.Record r) x told =
    sym (ap (λ (s : Summary). s.stream) (summary_of-plain x)) ∙ ap (λ (y : Item). (summary_of y).stream) told.1.1
    ∙ ap (λ (s : Summary). s.stream) (summary_of-item_of z r.entry r.index r.offset r.fields told.0)

module _ (choice : Choice) (entries : List Entry) (z limit : ℕ) (c : Cursor) (s : StreamItem) (d : Cursor) where
  chosen_on : (standing : Standing) → GoesOn choice entries z limit c standing (Ok (Some (step.Stream s))) d → GivesChosenEntry choice entries z limit c (step.Stream s) d
  chosen_on following.through goes = goes
  chosen_on following.begun goes = absurd goes
  chosen_on (following.within given zero offset) goes = goes.0 refl
  chosen_on (following.within given (suc left) offset) goes = let gives = goes.1 (omega arith) in let is = gives.is.step_is in absurd (cc)

  chosen_next : Follows choice entries z limit c (Ok (Some (step.Stream s))) d → GivesChosenEntry choice entries z limit c (step.Stream s) d
  chosen_next (following.goes_on goes) = chosen_on c.standing goes
  chosen_next (following.begins at standing of goes) = chosen_on standing goes
  chosen_next (following.refuses at fault of meets) = let is = meets.answer_is in absurd (cc)

module _ (v : ListerState) (all : v.choice ≡ All) (x : Item) (s : StreamItem) (is : (summary_of x).stream ≡ Some s) where
  begins_next : (new : ListerState) → AnswersNext v (Ok (Some x)) new → BeginsEntry v v.passed s
  begins_next new next = of next.read next.told next.follows where
    of : (read : Result (Option Step) ListFault) → TellsAnswer v.source.size read (Ok (Some (plain x))) → Follows v.choice v.entries v.source.size v.limit (cursor_in v) read (cursor_in new) → BeginsEntry v v.passed s
    of (Ok None) told follows = absurd (cc)
    of (Err f) told follows = absurd (cc)
    of (Ok (Some (step.Record r))) told follows =
        let same : told.0 ≡ plain x = let e = told.1.0 in cc in
        let none = told_stream v.source.size (step.Record r) x (subst (λ (y : Item). TellsItem v.source.size (step.Record r) y) same told.1.1) in
        absurd (cc)
    of (Ok (Some (step.Stream y))) told follows =
        let same : told.0 ≡ plain x = let e = told.1.0 in cc in
        let one = told_stream v.source.size (step.Stream y) x (subst (λ (y' : Item). TellsItem v.source.size (step.Stream y) y') same told.1.1) in
        let gives = chosen_next v.choice v.entries v.source.size v.limit (cursor_in v) y (cursor_in new) follows in
        let e : s ≡ y = cc in
        let step_is = gives.step_is in
        record {
          number = gives.number;
          entry = gives.entry;
          behind = gives.first.behind;
          is = gives.first.is;
          chosen = ap (λ (c : Choice). is_chosen c gives.entry.stream_type) all;
          item_is = cc;
        }

  begins_sought : (number : ℕ) → GivesEntry number v.entries (Ok (Some x)) → BeginsEntry v number s
  begins_sought number gives =
      let one = sym (ap (λ (s : Summary). s.stream) (summary_of-plain x)) ∙ ap (λ (y : Item). (summary_of y).stream) gives.1.1 in
      record {
        number = number;
        entry = gives.0;
        behind = omega arith;
        is = gives.1.0;
        chosen = ap (λ (c : Choice). is_chosen c gives.0.stream_type) all;
        item_is = cc;
      }

  pub begins_entry : (p : Position) → (new : ListerState) → (seeks p ≡ false → AnswersNext v (Ok (Some x)) new) → ((number : ℕ) → p ≡ Sought number → GivesEntry number v.entries (Ok (Some x)))
      → BeginsEntry v (next_number p v.passed) s
  begins_entry (Sought number) new next sought = begins_sought number (sought number refl)
  begins_entry Begun new next sought = begins_next new (next refl)
  begins_entry Within new next sought = begins_next new (next refl)

-- ---- an item

-- an item that begins no entry is of no entry that is sought
pub no_entry_sought : (entries : List Entry) (x : Item) (number : ℕ) → (summary_of x).stream ≡ None → GivesEntry number entries (Ok (Some x)) → ⊥
no_entry_sought entries x number none gives = let one = sym (ap (λ (s : Summary). s.stream) (summary_of-plain x)) ∙ ap (λ (y : Item). (summary_of y).stream) gives.1.1 in cc

pub unsought : (entries : List Entry) (x : Item) (p : Position) (passed : ℕ) → (summary_of x).stream ≡ None → ((number : ℕ) → p ≡ Sought number → GivesEntry number entries (Ok (Some x))) → next_number p passed ≡ passed
unsought entries x (Sought number) passed none sought = absurd (no_entry_sought entries x number none (sought number refl))
unsought entries x Begun passed none sought = refl
unsought entries x Within passed none sought = refl

module _ (count : MeterCounts → ℕ) (now new : WalkerState) (same : IsSameLister now.list new.list) (size : new.list.source.size ≡ now.list.source.size) where
  item_paid : (o : Option StreamItem) → new.position ≡ position_by o → new.mark ≡ mark_by o new.list.counts now.mark → new.list.current ≡ entry_begun o now.list.current
      → new.list.passed ≡ number_behind o now.list.passed → ((s : StreamItem) → o ≡ Some s → BeginsEntry now.list (next_number now.position now.list.passed) s)
      → (o ≡ None → next_number now.position now.list.passed ≡ now.list.passed)
      → RisesByNames (room_for_name now) (settled count now) now.mark.names (count new.list.counts) new.list.counts.names
      → RisesByNames (room_for_name now) (settled count now + ahead now) now.mark.names (settled count new + ahead new) new.mark.names
  item_paid None position mark current passed begins stays spent =
      let at : next_number new.position new.list.passed ≡ next_number now.position now.list.passed = ap (λ (p : Position). next_number p new.list.passed) position ∙ passed ∙ sym (stays refl) in
      let rest : ahead new ≡ ahead now = λ i. cost_of (same.choice i) (size i) (drop (at i) (same.entries i)) in
      let one : settled count new ≡ settled count now = λ i. count (mark i) + entry_cost (size i) (current i) in
      let names : new.mark.names * room_for_name now ≡ now.mark.names * room_for_name now = ap (λ (m : MeterCounts). m.names * room_for_name now) mark in
      omega (arith, rest, one, names)
  item_paid (Some s) position mark current passed begins stays spent =
      let b = begins s refl in
      let number : new.list.passed ≡ b.number + 1 = passed ∙ ap (λ (t : StreamItem). t.entry + 1) b.item_is in
      let at : next_number new.position new.list.passed ≡ b.number + 1 = ap (λ (p : Position). next_number p new.list.passed) position ∙ number in
      let entry : new.list.current ≡ b.entry = current ∙ (λ i. record { stream_type = (b.item_is i).stream_type; location = (b.item_is i).location }) in
      let rest : ahead new ≡ cost_of now.list.choice now.list.source.size (drop (b.number + 1) now.list.entries) = λ i. cost_of (same.choice i) (size i) (drop (at i) (same.entries i)) in
      let one : settled count new ≡ count new.list.counts + entry_cost now.list.source.size b.entry = λ i. count (mark i) + entry_cost (size i) (entry i) in
      let names : new.mark.names * room_for_name now ≡ new.list.counts.names * room_for_name now = ap (λ (m : MeterCounts). m.names * room_for_name now) mark in
      let cost = begun_cost now.list.choice now.list.source.size now.list.entries b.entry (next_number now.position now.list.passed) b.number b.behind b.is b.chosen in
      omega (arith, rest, one, names, cost, spent)

-- ---- a look so far

pub record HasPaid (old now : WalkerState) : Type 0 where
  pub outside : IsAtMost old.list.counts.aside now.list.counts.aside
  pub begun : (least : Amount) → IsAtMost least old.list.counts.aside → IsBegunAfter least old → IsBegunAfter least now
  pub more_names : old.list.counts.names ≤ now.list.counts.names
  pub asked : CountsNames now → RisesByNames (room_for_name old) (settled (λ c. c.asked) old + ahead old) old.mark.names (settled (λ c. c.asked) now + ahead now) now.mark.names
  pub fetched : CountsNames now → RisesByNames (room_for_name old) (settled (λ c. c.fetched) old + ahead old) old.mark.names (settled (λ c. c.fetched) now + ahead now) now.mark.names

pub paid_none : (v : WalkerState) → HasPaid v v
paid_none v = record { outside = record { bytes = omega arith; calls = omega arith }; begun = λ least few begun. begun; more_names = omega arith; asked = λ few. omega arith; fetched = λ few. omega arith }

-- ---- what was read outside the listing by then

pub at_most_then : (a b c : Amount) → IsAtMost a b → IsAtMost b c → IsAtMost a c
at_most_then a b c first then =
    let bytes = first.bytes in
    let more_bytes = then.bytes in
    let calls = first.calls in
    let more_calls = then.calls in
    record { bytes = omega (arith, bytes, more_bytes); calls = omega (arith, calls, more_calls) }

pub at_most_same : (a b c : Amount) → c ≡ b → IsAtMost a b → IsAtMost a c
at_most_same a b c same few = subst (λ (n : Amount). IsAtMost a n) (sym same) few

-- an item begins an entry, or is of the one in which the listing stood
begun_more : (least : Amount) (now new : WalkerState) (o : Option StreamItem) → new.mark ≡ mark_by o new.list.counts now.mark → IsAtMost least new.list.counts.aside
    → (o ≡ None → seeks now.position ≡ false) → IsBegunAfter least now → IsAtMost least new.mark.aside
begun_more least now new None mark few stays begun = at_most_same least now.mark.aside new.mark.aside (ap (λ (m : MeterCounts). m.aside) mark) (begun (stays refl))
begun_more least now new (Some s) mark few stays begun = at_most_same least new.list.counts.aside new.mark.aside (ap (λ (m : MeterCounts). m.aside) mark) few

unsought_item : (entries : List Entry) (x : Item) (p : Position) → (summary_of x).stream ≡ None → ((number : ℕ) → p ≡ Sought number → GivesEntry number entries (Ok (Some x))) → seeks p ≡ false
unsought_item entries x (Sought number) none sought = absurd (no_entry_sought entries x number none (sought number refl))
unsought_item entries x Begun none sought = refl
unsought_item entries x Within none sought = refl

unsought_error : (entries : List Entry) (f : ListFault) (p : Position) → ((number : ℕ) → p ≡ Sought number → GivesEntry number entries (Err f)) → seeks p ≡ false
unsought_error entries f (Sought number) sought = absurd (sought number refl)
unsought_error entries f Begun sought = refl
unsought_error entries f Within sought = refl

-- names are counted so long as they are later
pub few_names : (before after : ℕ) → before ≤ after → after + 1 < 2 ^ 128 → before + 1 < 2 ^ 128
few_names before after more few = omega (arith, more, few)

module _ (old now new : WalkerState) (first : IsSameListing old.list now.list) (paid : HasPaid old now) where
  paid_then : (count : MeterCounts → ℕ) (most after : ℕ)
      → RisesByNames (room_for_name old) (settled count old + ahead old) old.mark.names (settled count now + ahead now) now.mark.names
      → RisesByNames (room_for_name now) (settled count now + ahead now) now.mark.names most after
      → RisesByNames (room_for_name old) (settled count old + ahead old) old.mark.names most after
  paid_then count most after so_far then =
      rises_then (room_for_name old) (settled count old + ahead old) old.mark.names (settled count now + ahead now) now.mark.names most after so_far
      (subst (λ l. RisesByNames (l + 4) (settled count now + ahead now) now.mark.names most after) first.limit then)

  -- an item more
  module _ (x : Item) (all : old.list.choice ≡ All) (going : now.list.stop ≡ None) (leaves : WalkerLeaves now (Ok (Some x)) new)
      (sought : (number : ℕ) → now.position ≡ Sought number → GivesEntry number now.list.entries (Ok (Some x))) where
    more_by : (count : MeterCounts → ℕ) → RisesByNames (room_for_name now) (settled count now) now.mark.names (count new.list.counts) new.list.counts.names
        → RisesByNames (room_for_name now) (settled count now + ahead now) now.mark.names (settled count new + ahead new) new.mark.names
    more_by count spent =
        item_paid count now new leaves.list.same leaves.list.spends.fetches.same_size (summary_of x).stream leaves.position leaves.mark leaves.list.places.current leaves.list.places.passed
        (λ s is. begins_entry now.list (first.choice ∙ all) x s is now.position new.list (λ not. leaves.follows going not) sought)
        (λ none. unsought now.list.entries x now.position now.list.passed none sought) spent

    pub paid_more : HasPaid old new
    paid_more =
        let names = leaves.list.spends.counts.more_names in
        let outside = at_most_same old.list.counts.aside now.list.counts.aside new.list.counts.aside leaves.list.same.aside paid.outside in
        record {
          outside = outside;
          begun = λ least few begun not.
              begun_more least now new (summary_of x).stream leaves.mark (at_most_then least old.list.counts.aside new.list.counts.aside few outside)
              (λ none. unsought_item now.list.entries x now.position none sought) (paid.begun least few begun);
          more_names = omega (arith, paid.more_names, names);
          asked = λ few. paid_then (λ c. c.asked) (settled (λ c. c.asked) new + ahead new) new.mark.names (paid.asked (few_names now.list.counts.names new.list.counts.names names few)) (more_by (λ c. c.asked) (leaves.spent few));
          fetched = λ few. paid_then (λ c. c.fetched) (settled (λ c. c.fetched) new + ahead new) new.mark.names (paid.fetched (few_names now.list.counts.names new.list.counts.names names few)) (more_by (λ c. c.fetched) (leaves.fetched few));
        }

  -- ---- the end of a look

  settled_still : (count : MeterCounts → ℕ) → new.mark ≡ now.mark → new.list.current ≡ now.list.current → new.list.source.size ≡ now.list.source.size → settled count new ≡ settled count now
  settled_still count mark current size = λ i. count (mark i) + entry_cost (size i) (current i)

  -- an answer that gives no item keeps what was counted since the entry began
  kept_by : (count : MeterCounts → ℕ) → new.mark ≡ now.mark → new.list.current ≡ now.list.current → new.list.source.size ≡ now.list.source.size → new.list.limit ≡ now.list.limit
      → RisesByNames (room_for_name now) (settled count now) now.mark.names (count new.list.counts) new.list.counts.names → KeepsSettled count new
  kept_by count mark current size limit spent =
      let one = settled_still count mark current size in
      subst (λ l. RisesByNames (l + 4) (settled count new) new.mark.names (count new.list.counts) new.list.counts.names) (sym limit)
      (subst (λ n. RisesByNames (room_for_name now) n new.mark.names (count new.list.counts) new.list.counts.names) (sym one)
      (subst (λ (m : MeterCounts). RisesByNames (room_for_name now) (settled count now) m.names (count new.list.counts) new.list.counts.names) (sym mark) spent))

  -- and so do the entries ahead
  pub look_by : {E : Type 0} (count : MeterCounts → ℕ) (result : Result (Unit {0}) E) → new.mark ≡ now.mark → new.list.current ≡ now.list.current → new.list.source.size ≡ now.list.source.size → new.list.limit ≡ now.list.limit
      → ahead_after result new ≤ ahead now
      → RisesByNames (room_for_name now) (settled count now) now.mark.names (count new.list.counts) new.list.counts.names
      → RisesByNames (room_for_name old) (settled count old + ahead old) old.mark.names (settled count now + ahead now) now.mark.names
      → LookPaid count old result new
  look_by count result mark current size limit rest spent so_far =
      let one = settled_still count mark current size in
      let names : new.mark.names * room_for_name old ≡ now.mark.names * room_for_name old = ap (λ (m : MeterCounts). m.names * room_for_name old) mark in
      record {
        rises = omega (arith, one, names, rest, so_far);
        kept = kept_by count mark current size limit spent;
      }

  pub look_end : {E : Type 0} → WalkerLeaves now (Ok None) new → PaysLook {E = E} old (Ok tt) new
  look_end {E} leaves =
      let names = leaves.list.spends.counts.more_names in
      let rest : ahead_after {E = E} (Ok tt) new ≤ ahead now = omega arith in
      record {
        outside = at_most_same old.list.counts.aside now.list.counts.aside new.list.counts.aside leaves.list.same.aside paid.outside;
        begun = λ least few begun. tt;
        more_names = omega (arith, paid.more_names, names);
        asked = λ few. look_by (λ c. c.asked) (Ok tt) leaves.mark leaves.list.places.current leaves.list.spends.fetches.same_size leaves.list.same.limit rest (leaves.spent few)
            (paid.asked (few_names now.list.counts.names new.list.counts.names names few));
        fetched = λ few. look_by (λ c. c.fetched) (Ok tt) leaves.mark leaves.list.places.current leaves.list.spends.fetches.same_size leaves.list.same.limit rest (leaves.fetched few)
            (paid.fetched (few_names now.list.counts.names new.list.counts.names names few));
      }

  unsought_fault : (f : ListFault) (p : Position) → ((number : ℕ) → p ≡ Sought number → GivesEntry number now.list.entries (Err f)) → next_number p now.list.passed ≡ now.list.passed
  unsought_fault f (Sought number) sought = absurd (sought number refl)
  unsought_fault f Begun sought = refl
  unsought_fault f Within sought = refl

  pub look_fault : {E : Type 0} (e : E) (f : ListFault) → WalkerLeaves now (Err f) new → ((number : ℕ) → now.position ≡ Sought number → GivesEntry number now.list.entries (Err f)) → PaysLook old (Err e) new
  look_fault e f leaves sought =
      let names = leaves.list.spends.counts.more_names in
      let same = leaves.list.same in
      let size = leaves.list.spends.fetches.same_size in
      let passed : new.list.passed ≡ now.list.passed = leaves.list.places.passed in
      let at : next_number new.position new.list.passed ≡ next_number now.position now.list.passed =
      ap (λ (p : Position). next_number p new.list.passed) leaves.position ∙ passed ∙ sym (unsought_fault f now.position sought) in
      let still : ahead new ≡ ahead now = λ i. cost_of (same.choice i) (size i) (drop (at i) (same.entries i)) in
      let rest : ahead_after (Err e) new ≤ ahead now = omega (arith, still) in
      record {
        outside = at_most_same old.list.counts.aside now.list.counts.aside new.list.counts.aside same.aside paid.outside;
        begun = λ least few begun.
            at_most_same least now.mark.aside new.mark.aside (ap (λ (m : MeterCounts). m.aside) leaves.mark)
            (paid.begun least few begun (unsought_error now.list.entries f now.position sought));
        more_names = omega (arith, paid.more_names, names);
        asked = λ few. look_by (λ c. c.asked) (Err e) leaves.mark leaves.list.places.current size same.limit rest (leaves.spent few) (paid.asked (few_names now.list.counts.names new.list.counts.names names few));
        fetched = λ few. look_by (λ c. c.fetched) (Err e) leaves.mark leaves.list.places.current size same.limit rest (leaves.fetched few) (paid.fetched (few_names now.list.counts.names new.list.counts.names names few));
      }

-- ---- a look that ends at an item

module _ (count : MeterCounts → ℕ) (now new : WalkerState) where
  -- what was counted since the entry of an item began is kept
  kept_item : (o : Option StreamItem) → new.mark ≡ mark_by o new.list.counts now.mark → new.list.current ≡ entry_begun o now.list.current → new.list.source.size ≡ now.list.source.size
      → new.list.limit ≡ now.list.limit → RisesByNames (room_for_name now) (settled count now) now.mark.names (count new.list.counts) new.list.counts.names → KeepsSettled count new
  kept_item None mark current size limit spent =
      let one : settled count new ≡ settled count now = λ i. count (mark i) + entry_cost (size i) (current i) in
      subst (λ l. RisesByNames (l + 4) (settled count new) new.mark.names (count new.list.counts) new.list.counts.names) (sym limit)
      (subst (λ n. RisesByNames (room_for_name now) n new.mark.names (count new.list.counts) new.list.counts.names) (sym one)
      (subst (λ (m : MeterCounts). RisesByNames (room_for_name now) (settled count now) m.names (count new.list.counts) new.list.counts.names) (sym mark) spent))
  kept_item (Some s) mark current size limit spent =
      let one : count new.mark ≡ count new.list.counts = ap count mark in
      let names : new.mark.names * room_for_name new ≡ new.list.counts.names * room_for_name new = ap (λ (m : MeterCounts). m.names * room_for_name new) mark in
      omega (arith, one, names)

-- an item that was given is of no entry that is sought
pub unsought_behind : (o : Option StreamItem) (p : Position) → p ≡ position_by o → seeks p ≡ false
unsought_behind None p is = ap seeks is
unsought_behind (Some s) p is = ap seeks is

-- what an item leaves counted
pub record KeepsBoth (v : WalkerState) : Type 0 where
  pub unsought : seeks v.position ≡ false
  pub asked : CountsNames v → KeepsSettled (λ c. c.asked) v
  pub fetched : CountsNames v → KeepsSettled (λ c. c.fetched) v

pub item_kept : (now new : WalkerState) (x : Item) → WalkerLeaves now (Ok (Some x)) new → KeepsBoth new
item_kept now new x leaves =
    let size = leaves.list.spends.fetches.same_size in
    record {
      unsought = unsought_behind (summary_of x).stream new.position leaves.position;
      asked = λ few. kept_item (λ c. c.asked) now new (summary_of x).stream leaves.mark leaves.list.places.current size leaves.list.same.limit (leaves.spent few);
      fetched = λ few. kept_item (λ c. c.fetched) now new (summary_of x).stream leaves.mark leaves.list.places.current size leaves.list.same.limit (leaves.fetched few);
    }

-- what is read outside the listing changes none of it
module _ (most : Amount) (mid new : WalkerState) (reads : ReadsOutside most mid new) where
  settled_outside : (count : MeterCounts → ℕ) → settled count new ≡ settled count mid
  settled_outside count = λ i. count (reads.same i).mark + entry_cost (reads.fetches.same_size i) (reads.same i).list.current

  kept_outside : (count : MeterCounts → ℕ) → count new.list.counts ≡ count mid.list.counts → KeepsSettled count mid → KeepsSettled count new
  kept_outside count same kept =
      let names = reads.aside.same_names in
      let one = settled_outside count in
      let before : new.mark.names * room_for_name mid ≡ mid.mark.names * room_for_name mid = λ i. (reads.same i).mark.names * room_for_name mid in
      let limit : new.list.limit ≡ mid.list.limit = λ i. (reads.same i).list.limit in
      let after : new.list.counts.names * room_for_name mid ≡ mid.list.counts.names * room_for_name mid = ap (λ n. n * room_for_name mid) names in
      let known : RisesByNames (room_for_name mid) (settled count mid) mid.mark.names (count mid.list.counts) mid.list.counts.names = kept in
      let now : RisesByNames (room_for_name mid) (settled count new) new.mark.names (count new.list.counts) new.list.counts.names = omega (arith, known, one, before, after, same) in
      subst (λ l. RisesByNames (l + 4) (settled count new) new.mark.names (count new.list.counts) new.list.counts.names) (sym limit) now

  few_outside : CountsNames new → CountsNames mid
  few_outside few = let names = reads.aside.same_names in omega (arith, names, few)

  pub both_outside : KeepsBoth mid → KeepsBoth new
  both_outside kept = record {
    unsought = (λ i. seeks (reads.same i).position) ∙ kept.unsought;
    asked = λ few. kept_outside (λ c. c.asked) reads.aside.same_asked (kept.asked (few_outside few));
    fetched = λ few. kept_outside (λ c. c.fetched) reads.aside.same_fetched (kept.fetched (few_outside few));
  }

  rises_outside : (count : MeterCounts → ℕ) (room a na : ℕ) → RisesByNames room a na (settled count mid + ahead mid) mid.mark.names → RisesByNames room a na (settled count new + ahead new) new.mark.names
  rises_outside count room a na rises =
      let one = settled_outside count in
      let rest : ahead new ≡ ahead mid =
      λ i. cost_of (reads.same i).list.choice (reads.fetches.same_size i) (drop (next_number (reads.same i).position (reads.same i).list.passed) (reads.same i).list.entries) in
      let names : new.mark.names * room ≡ mid.mark.names * room = λ i. (reads.same i).mark.names * room in
      omega (arith, rises, one, rest, names)

  pub paid_outside : (old : WalkerState) → HasPaid old mid → HasPaid old new
  paid_outside old paid = record {
    outside =
        let bytes = reads.aside.more in
        let calls = reads.aside.more_aside_calls in
        at_most_then old.list.counts.aside mid.list.counts.aside new.list.counts.aside paid.outside (record { bytes = omega (arith, bytes); calls = omega (arith, calls) });
    begun = λ least few begun. λ not. subst (λ (v : WalkerState). IsAtMost least v.mark.aside) (sym reads.same) (paid.begun least few begun (sym (λ i. seeks (reads.same i).position) ∙ not));
    more_names = let names = reads.aside.same_names in omega (arith, names, paid.more_names);
    asked = λ few. rises_outside (λ c. c.asked) (room_for_name old) (settled (λ c. c.asked) old + ahead old) old.mark.names (paid.asked (few_outside few));
    fetched = λ few. rises_outside (λ c. c.fetched) (room_for_name old) (settled (λ c. c.fetched) old + ahead old) old.mark.names (paid.fetched (few_outside few));
  }

pub look_ended : {E : Type 0} (e : E) (old new : WalkerState) → HasPaid old new → KeepsBoth new → PaysLook old (Err e) new
look_ended e old new paid kept = record {
  outside = paid.outside;
  begun = λ least few begun. paid.begun least few begun kept.unsought;
  more_names = paid.more_names;
  asked = λ few. record { rises = paid.asked few; kept = kept.asked few };
  fetched = λ few. record { rises = paid.fetched few; kept = kept.fetched few };
}
