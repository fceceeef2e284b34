-- Ranges that stand in order: each begins at or past the end of the one before.
use Rattle.std.proofs.Common.{◌≡◌, ◌≤◌, ◌<◌, ℕ, zero, suc, ◌+◌, ◌-◌, ◌∙◌, List, [], ◌∷◌, Some, None, false, refl, sym, ap, subst, arith, drop, get_or, length, inl, inr, slice_get}
use Rattle.std.specs.Prelude.{All}
use Rattle.std.specs.List.Sorted.{IsNonDecreasingBy}
use Rattle.std.proofs.lemmas.Bool.{cases_lt}
use Rattle.std.proofs.lemmas.Bool.Decides.{nat_tests}
use Rattle.std.proofs.lemmas.List.{at_drop_more, at_drop_all, get_or-drop, length-drop}
use Rattle.std.proofs.lemmas.List.Elements.{All-from_get_or, All-head, All-tail}
use Rattle.std.proofs.lemmas.Option.{get_or_from_slice_get, slice_get-get_or, slice_get_past}
use Rattle.std.proofs.lemmas.List.Sorted.{IsNonDecreasingBy-from_all_adjacent}
use Rattle.mdmp_map.specs.declared.range.Range.{Range}
use Rattle.mdmp_map.specs.Finding.{IsFirstPast, place_in}
use Rattle.mdmp_map.specs.Ranges.{AreSorted, IsGap, IsPlaced, address_end, holds, next_start, place_of, range_end}
use Rattle.mdmp_map.specs.RangeLaws.{limit_past, none_found}
use Rattle.mdmp_map.proofs.Gaps.{gap_to_next_start}
use Rattle.mdmp_map.proofs.Scanning.{found, holds_from, limit_past-ahead, limit_past-begun, next_start-nil, next_start-passes, no_range, scan, scan-nil, scan-passes, scan-place_of}

-- their ends rise, and their starts do
pub ends_rise : (ranges : List Range) → AreSorted ranges → IsNonDecreasingBy range_end ranges
ends_rise ranges sorted = IsNonDecreasingBy-from_all_adjacent range_end ranges (λ k d lt. omega (arith, sorted k d lt))

pub starts_rise : (ranges : List Range) → AreSorted ranges → IsNonDecreasingBy (λ (r : Range). r.start) ranges
starts_rise ranges sorted = IsNonDecreasingBy-from_all_adjacent (λ (r : Range). r.start) ranges (λ k d lt. omega (arith, sorted k d lt))

-- ---- ranges that end at or before the address

ended : (address : ℕ) (r : Range) → range_end r ≤ address → holds address r ≡ false
ended address r before = grind (arith, nat_tests)

-- what a list of ranges makes that such a range in front of it does not change, it makes behind the first i of them
behind : {Y : Type 0} (F : List Range → Y) (address i : ℕ) (d : Range) (ranges : List Range)
    → ((r : Range) (rest : List Range) → range_end r ≤ address → F (r ∷ rest) ≡ F rest) → i ≤ length ranges
    → ((k : ℕ) → k < i → range_end (get_or ranges k d) ≤ address) → F (drop i ranges) ≡ F ranges
behind F address zero d ranges unchanged within all = refl
behind F address (suc i) d ranges unchanged within all =
    let next : suc i ≡ i + 1 = omega arith in
    rw next (sym (
    at_drop_more F ranges i d (omega (arith, within))
    ∙ unchanged (get_or ranges i d) (drop (i + 1) ranges) (all i (omega arith))
    )
    ∙ behind F address i d ranges unchanged (omega (arith, within)) (λ k lt. all k (omega (arith, lt))))

-- they hold nothing from there on, and none begins behind it
scan_behind : (limit address i : ℕ) (d : Range) (ranges : List Range) → i ≤ length ranges
    → ((k : ℕ) → k < i → range_end (get_or ranges k d) ≤ address) → scan limit address (drop i ranges) ≡ scan limit address ranges
scan_behind limit address i d ranges =
    behind (scan limit address) address i d ranges (λ r rest before.
    scan-passes limit address r rest (ended address r before)
    ∙ ap (λ n. scan n address rest) (limit_past-begun limit address r (omega (arith, before))))

starts_behind : (limit address i : ℕ) (d : Range) (ranges : List Range) → i ≤ length ranges
    → ((k : ℕ) → k < i → range_end (get_or ranges k d) ≤ address) → next_start limit address (drop i ranges) ≡ next_start limit address ranges
starts_behind limit address i d ranges =
    behind (next_start limit address) address i d ranges (λ r rest before.
    next_start-passes limit address r rest
    ∙ ap (λ n. next_start n address rest) (limit_past-begun limit address r (omega (arith, before))))

-- ---- ranges that begin behind the address

to_come : (address : ℕ) (r : Range) → address + 1 ≤ r.start → holds address r ≡ false
to_come address r ahead = grind (arith, nat_tests)

scan_ahead : (limit address : ℕ) (ranges : List Range) → All (λ (r : Range). address + 1 ≤ r.start) ranges → scan limit address ranges ≡ None
scan_ahead limit address [] ahead = scan-nil limit address
scan_ahead limit address (r ∷ ranges) ahead =
    scan-passes limit address r ranges (to_come address r (All-head (λ (q : Range). address + 1 ≤ q.start) r ranges ahead))
    ∙ scan_ahead (limit_past limit address r) address ranges (All-tail (λ (q : Range). address + 1 ≤ q.start) r ranges ahead)

starts_ahead : (limit address : ℕ) (ranges : List Range) → All (λ (r : Range). limit ≤ r.start) ranges → next_start limit address ranges ≡ limit
starts_ahead limit address [] ahead = next_start-nil limit address
starts_ahead limit address (r ∷ ranges) ahead =
    let at_least : limit ≤ r.start = All-head (λ (q : Range). limit ≤ q.start) r ranges ahead in
    let same : limit_past limit address r ≡ limit = grind (arith, nat_tests) in
    next_start-passes limit address r ranges
    ∙ ap (λ n. next_start n address ranges) same
    ∙ starts_ahead limit address ranges (All-tail (λ (q : Range). limit ≤ q.start) r ranges ahead)

-- none of those from number j on begins lower than an earlier one
begin_behind : (low i j : ℕ) (d : Range) (ranges : List Range) → AreSorted ranges → i ≤ j → i < length ranges → low ≤ (get_or ranges i d).start
    → All (λ (r : Range). low ≤ r.start) (drop j ranges)
begin_behind low i j d ranges sorted from lt lowest =
    All-from_get_or (λ (r : Range). low ≤ r.start) (drop j ranges) d (λ k within.
    let rise = starts_rise ranges sorted i (j + k) d (omega (arith, from)) (omega (arith, within, length-drop j ranges)) in
    subst (λ (r : Range). low ≤ r.start) (sym (get_or-drop j ranges k d)) (omega (arith, rise, lowest)))

-- ---- what is found behind the ranges that end at or before the address

-- the next range holds the address
found_next : (address i : ℕ) (d : Range) (ranges : List Range) → i < length ranges
    → ((k : ℕ) → k < i → range_end (get_or ranges k d) ≤ address) → address < address_end → (get_or ranges i d).start ≤ address
    → address < range_end (get_or ranges i d) → Some (place_in address_end address (get_or ranges i d)) ≡ place_of ranges address
found_next address i d ranges lt all in_space begun not_past =
    found address_end address i d ranges lt (scan_behind address_end address i d ranges (omega (arith, lt)) all ∙ scan-place_of address ranges)
    (holds_from address (get_or ranges i d) in_space begun not_past)

-- it begins behind the address
free_to_next : (address i : ℕ) (d : Range) (ranges : List Range) → i < length ranges
    → ((k : ℕ) → k < i → range_end (get_or ranges k d) ≤ address) → address < address_end → AreSorted ranges → All IsPlaced ranges
    → address < (get_or ranges i d).start → (get_or ranges i d).start ≤ address_end
    → (None ≡ place_of ranges address) × IsGap ranges address ((get_or ranges i d).start - address)
free_to_next address i d ranges lt all in_space sorted placed ahead within =
    let r = get_or ranges i d in
    let later = begin_behind (address + 1) i i d ranges sorted (omega arith) lt (omega (arith, ahead)) in
    let none : None ≡ place_of ranges address =
    sym (scan_ahead address_end address (drop i ranges) later) ∙ scan_behind address_end address i d ranges (omega (arith, lt)) all ∙ scan-place_of address ranges in
    let first : limit_past address_end address r ≡ r.start = limit_past-ahead address_end address r ahead ∙ omega (arith, within) in
    let lowest : next_start address_end address ranges ≡ r.start =
    sym (starts_behind address_end address i d ranges (omega (arith, lt)) all)
    ∙ at_drop_more (next_start address_end address) ranges i d lt
    ∙ next_start-passes address_end address r (drop (i + 1) ranges)
    ∙ ap (λ n. next_start n address (drop (i + 1) ranges)) first
    ∙ starts_ahead r.start address (drop (i + 1) ranges) (begin_behind r.start i (i + 1) d ranges sorted (omega arith) lt (omega arith)) in
    (none, subst (λ n. IsGap ranges address (n - address)) lowest (gap_to_next_start ranges address placed in_space (none_found ranges address none)))

-- there is no next range
free_to_end : (address : ℕ) (d : Range) (ranges : List Range) → ((k : ℕ) → k < length ranges → range_end (get_or ranges k d) ≤ address)
    → address < address_end → All IsPlaced ranges → (None ≡ place_of ranges address) × IsGap ranges address (address_end - address)
free_to_end address d ranges all in_space placed =
    let n = length ranges in
    let none : None ≡ place_of ranges address =
    sym (at_drop_all (scan address_end address) ranges n (omega arith) ∙ scan-nil address_end address)
    ∙ scan_behind address_end address n d ranges (omega arith) all ∙ scan-place_of address ranges in
    let lowest : next_start address_end address ranges ≡ address_end =
    sym (starts_behind address_end address n d ranges (omega arith) all)
    ∙ at_drop_all (next_start address_end address) ranges n (omega arith) ∙ next_start-nil address_end address in
    (none, subst (λ m. IsGap ranges address (m - address)) lowest (gap_to_next_start ranges address placed in_space (none_found ranges address none)))

-- ---- the same by what stands at the number of the first range that ends past the address

inside_list : (ranges : List Range) (i : ℕ) (r : Range) → slice_get ranges i ≡ Some r → i < length ranges
inside_list ranges i r is = elim (cases_lt i (length ranges)) [
  | inl lt ↦ lt
  | inr past ↦ let none = slice_get_past ranges i past in absurd cc
]

pub found_at_first : (address i : ℕ) (r : Range) (ranges : List Range) → IsFirstPast ranges address i → Some r ≡ slice_get ranges i
    → address < address_end → r.start ≤ address → Some (place_in address_end address r) ≡ place_of ranges address
found_at_first address i r ranges first is in_space begun =
    let lt = inside_list ranges i r (sym is) in
    let same : get_or ranges i r ≡ r = get_or_from_slice_get ranges i r r (sym is) in
    subst (λ q. Some (place_in address_end address q) ≡ place_of ranges address) same
    (found_next address i r ranges lt (λ k. first.behind k r) in_space (subst (λ (q : Range). q.start ≤ address) (sym same) begun) (first.past lt r))

pub free_to_first : (address i : ℕ) (r : Range) (ranges : List Range) → IsFirstPast ranges address i → Some r ≡ slice_get ranges i
    → address < address_end → AreSorted ranges → All IsPlaced ranges → address < r.start → r.start ≤ address_end
    → (None ≡ place_of ranges address) × IsGap ranges address (r.start - address)
free_to_first address i r ranges first is in_space sorted placed ahead within =
    let lt = inside_list ranges i r (sym is) in
    let same : get_or ranges i r ≡ r = get_or_from_slice_get ranges i r r (sym is) in
    subst (λ (q : Range). (None ≡ place_of ranges address) × IsGap ranges address (q.start - address)) same
    (free_to_next address i r ranges lt (λ k. first.behind k r) in_space sorted placed (subst (λ (q : Range). address < q.start) (sym same) ahead)
    (subst (λ (q : Range). q.start ≤ address_end) (sym same) within))

pub free_behind_all : (address i : ℕ) (ranges : List Range) → IsFirstPast ranges address i → None ≡ slice_get ranges i → address < address_end
    → All IsPlaced ranges → (None ≡ place_of ranges address) × IsGap ranges address (address_end - address)
free_behind_all address i ranges first is in_space placed =
    let at_end : length ranges ≤ i = elim (cases_lt i (length ranges)) [
      | inl lt ↦ let some = slice_get-get_or ranges i no_range lt in absurd cc
      | inr past ↦ past
    ] in
    free_to_end address no_range ranges (λ k lt. first.behind k no_range (omega (arith, lt, at_end))) in_space placed
