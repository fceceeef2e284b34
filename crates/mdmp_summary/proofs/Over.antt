-- A look that passes over records: what the visitor was shown, what is left, and what was paid.
use Rattle.std.proofs.Common.{◌≡◌, ◌≤◌, ◌+◌, ◌*◌, ◌∙◌, ◌++◌, ℕ, List, Option, Result, Err, ap, append_assoc, arith, drop, false, ◌⊎◌, inl, inr, sym}
use Rattle.mdmp_lister.specs.declared.fault.ListFault.{ListFault}
use Rattle.mdmp_lister.specs.declared.item.Item.{Item}
use Rattle.mdmp_lister.specs.declared.meter.Amount.{Amount}
use Rattle.mdmp_lister.specs.declared.meter.MeterCounts.{MeterCounts}
use Rattle.mdmp_lister.specs.declared.sink.Stopped.{Stopped}
use Rattle.mdmp_lister.specs.Format.Listing.{Run}
use Rattle.mdmp_lister.specs.Listed.{cost_of, entry_cost}
use Rattle.mdmp_lister.specs.Lister.{ListerState}
use Rattle.mdmp_lister.specs.Sink.{give_all}
use Rattle.mdmp_lister.specs.Walker.{CountsRecords, WalkerState, is_sought}
use Rattle.mdmp_summary.specs.Skipping.{IsBetween, PassesOver, StaysInEntry, next_in}
use Rattle.mdmp_summary.specs.Spending.{CountsNames, PaysLook, RisesByNames, ahead, ahead_after, next_number, room_for_name, settled}
use Rattle.mdmp_summary.specs.Visiting.{RisesOutside}
use Rattle.mdmp_summary.specs.Walking.{IsSameListing}
use Rattle.mdmp_summary.specs.declared.visiting.VisitEnd.{VisitEnd}
use Rattle.mdmp_summary.proofs.LeftOn.{LeftBy, left_between, left_same}
use Rattle.mdmp_lister.proofs.NamesFetched.{names_more}
use Rattle.mdmp_summary.proofs.Paying.{HasPaid, at_most_same, few_names, look_by}
use Rattle.mdmp_summary.proofs.Visited.{HasShown, outside_then, visited_then}

-- ---- what was shown

-- nothing more was read outside
outside_idle : (room : Item → Amount) (xs : List Item) (a b : Amount) → b ≡ a → RisesOutside room xs a b
outside_idle room xs a b same =
    let bytes = ap (λ (n : Amount). n.bytes) same in
    let calls = ap (λ (n : Amount). n.calls) same in
    record { bytes = omega (arith, bytes); calls = omega (arith, calls) }

give_all-then : (xs ys : List Item) (rest : Run) → give_all xs (give_all ys rest) ≡ give_all (xs ++ ys) rest
give_all-then xs ys rest = λ i. record { items = sym (append_assoc xs ys rest.items) i; fault = rest.fault }

module _ {K : Type 0} (taken : K → Item → Result (Unit {0}) Stopped → K → Type 0) (looked : Option (List ℕ) → ℕ → K → Result (Unit {0}) VisitEnd → K → Type 0)
    (room : Item → Amount) (old : ListerState) (k l : K) (mid new : WalkerState) where
  pub shown_over : HasShown taken looked room old k mid.list l → PassesOver taken looked l mid new → HasShown taken looked room old k new.list l
  shown_over run over = record {
    items = run.items ++ over.items;
    visited = visited_then taken (looked old.source.store.content old.limit) run.items over.items k l l run.visited (over.unused old.source.store.content old.limit);
    left = λ left known.
        let rest = run.left left known in
        let more = over.left rest.0 rest.1.0 in
        (more.0, (more.1.0, rest.1.1 ∙ ap (give_all run.items) more.1.1 ∙ give_all-then run.items over.items more.0));
    outside = outside_then room run.items over.items old.counts.aside mid.list.counts.aside new.list.counts.aside run.outside (outside_idle room over.items _ _ over.stays.aside);
    named = names_more run.items over.items old.counts.fetched mid.list.counts.fetched new.list.counts.fetched run.named over.named;
  }

  -- ---- what is left

  pub left_over : (content : Option (List ℕ)) → new.list.source.store.content ≡ content → PassesOver taken looked l mid new → LeftBy content mid → LeftBy content new
  left_over content known over so_far = by_follows over.follows where
    by_follows : (new.list.left ≡ mid.list.left) ⊎ IsBetween new → LeftBy content new
    by_follows (inl same) = left_same content mid new same over.stays.same.choice over.stays.same.limit over.stays.next so_far
    by_follows (inr between) = left_between content new known between

-- ---- what was paid

module _ (old mid new : WalkerState) (stays : StaysInEntry mid new) where
  rises_over : (count : MeterCounts → ℕ) (room a na : ℕ) → RisesByNames room a na (settled count mid + ahead mid) mid.mark.names → RisesByNames room a na (settled count new + ahead new) new.mark.names
  rises_over count room a na rises =
      let same = stays.same in
      let size = same.same_file.fetches.same_size in
      let one : settled count new ≡ settled count mid = λ i. count (stays.mark i) + entry_cost (size i) (stays.current i) in
      let rest : ahead new ≡ ahead mid = λ i. cost_of (same.choice i) (size i) (drop (stays.next i) (same.entries i)) in
      let names : new.mark.names * room ≡ mid.mark.names * room = λ i. (stays.mark i).names * room in
      omega (arith, rises, one, rest, names)

  pub paid_over : HasPaid old mid → HasPaid old new
  paid_over paid =
      let names = stays.names in
      let few : CountsNames new → CountsNames mid = λ few. omega (arith, names, few) in
      let aside = at_most_same old.list.counts.aside mid.list.counts.aside new.list.counts.aside stays.aside paid.outside in
      record {
        outside = aside;
        begun = λ least few begun. λ not. at_most_same least mid.mark.aside new.mark.aside (ap (λ (m : MeterCounts). m.aside) stays.mark) (paid.begun least few begun (sym stays.sought ∙ not));
        more_names = omega (arith, names, paid.more_names);
        asked = λ counts. rises_over (λ c. c.asked) (room_for_name old) (settled (λ c. c.asked) old + ahead old) old.mark.names (paid.asked (few counts));
        fetched = λ counts. rises_over (λ c. c.fetched) (room_for_name old) (settled (λ c. c.fetched) old + ahead old) old.mark.names (paid.fetched (few counts));
      }

-- ---- a head with an error

module _ (old mid new : WalkerState) (f : ListFault) (counted : CountsRecords mid (Err f) new) where
  pub paid_head : {E : Type 0} (e : E) → IsSameListing old.list mid.list → is_sought mid ≡ false → HasPaid old mid → PaysLook old (Err e) new
  paid_head e first unsought paid =
      let same = counted.same in
      let size = counted.fetches.same_size in
      let names = counted.counts.more_names in
      let next : next_in new ≡ next_in mid = λ i. next_number (counted.position i) (counted.passed i) in
      let still : ahead new ≡ ahead mid = λ i. cost_of (same.choice i) (size i) (drop (next i) (same.entries i)) in
      let rest : ahead_after (Err e) new ≤ ahead mid = omega (arith, still) in
      record {
        outside = at_most_same old.list.counts.aside mid.list.counts.aside new.list.counts.aside same.aside paid.outside;
        begun = λ least few begun. at_most_same least mid.mark.aside new.mark.aside (ap (λ (m : MeterCounts). m.aside) counted.mark) (paid.begun least few begun unsought);
        more_names = omega (arith, paid.more_names, names);
        asked = λ few. look_by old mid new first paid (λ c. c.asked) (Err e) counted.mark counted.current size same.limit rest (counted.spent few) (paid.asked (few_names mid.list.counts.names new.list.counts.names names few));
        fetched = λ few. look_by old mid new first paid (λ c. c.fetched) (Err e) counted.mark counted.current size same.limit rest (counted.fetched few) (paid.fetched (few_names mid.list.counts.names new.list.counts.names names few));
      }
