-- How far no range holds an address.
use Rattle.std.proofs.Common.{◌≡◌, ◌≢◌, ◌≤◌, ◌<◌, ℕ, ◌+◌, ◌-◌, ◌∙◌, ap, drop, get_or, length, List, [], ◌∷◌, Some, None, false, refl, sym, subst, arith, inl, inr}
use Rattle.std.specs.Prelude.{All}
use Rattle.std.proofs.lemmas.Bool.{cases_Bool, cases_lt, both_ways}
use Rattle.std.proofs.lemmas.List.{at_drop_more, at_drop_all}
use Rattle.std.proofs.lemmas.List.Elements.{All-head, All-tail}
use Rattle.mdmp_map.specs.declared.range.Range.{Range}
use Rattle.mdmp_map.specs.declared.place.Place.{Place}
use Rattle.mdmp_map.specs.RangeLaws.{first_range-holds, first_range-passes, first_range_holds, holds_parts, limit_past, limit_past-le, next_start-le, next_start-lt, none_found, place-first_range}
use Rattle.mdmp_map.specs.Ranges.{IsGap, IsPlaced, address_end, first_range, holds, next_start, place_of}
use Rattle.mdmp_map.proofs.Scanning.{begins, holds_later, next_start-nil, next_start-passes}

-- there is none where a range holds the address
pub held_has_no_gap : (ranges : List Range) (address : ℕ) (place : Place) → Some place ≡ place_of ranges address → IsGap ranges address 0
held_has_no_gap ranges address place is =
    let of = place-first_range ranges address place (sym is) in
    let parts = holds_parts address of.0 (first_range_holds address of.0 ranges of.1) in
    record {
      below = omega (arith, parts.0);
      none = λ k lt. absurd (omega (arith, lt));
      greatest = λ m inside all. elim (cases_lt 0 m) [
        | inl some ↦
            let e : address + 0 ≡ address = omega arith in
            let free : first_range ranges address ≡ None = subst (λ n. first_range ranges n ≡ None) e (all 0 some) in
            let held = of.1 in absurd (cc)
        | inr at_most ↦ at_most
      ];
    }

-- where no range holds an address, none holds one from there to the lowest start behind it
none_reaches : (limit address later : ℕ) (ranges : List Range) → address < address_end → first_range ranges address ≡ None → address ≤ later
    → later < next_start limit address ranges → first_range ranges later ≡ None
none_reaches limit address later [] in_space is from below = refl
none_reaches limit address later (r ∷ ranges) in_space is from below = elim (cases_Bool (holds address r)) [
  | inl here ↦ let found = first_range-holds address r ranges here in cc
  | inr other ↦
      let rest : later < next_start (limit_past limit address r) address ranges = omega (arith, below, next_start-passes limit address r ranges) in
      let later_not : holds later r ≡ false =
      holds_later limit address later r in_space other from (omega (arith, rest, next_start-le (limit_past limit address r) address ranges)) in
      first_range-passes later r ranges later_not
      ∙ none_reaches (limit_past limit address r) address later ranges in_space (sym (first_range-passes address r ranges other) ∙ is) from rest
]

-- the range that begins there holds it
none_stops : (limit address later : ℕ) (ranges : List Range) → All IsPlaced ranges → limit ≤ address_end → first_range ranges address ≡ None
    → later ≡ next_start limit address ranges → later < limit → first_range ranges later ≢ None
none_stops limit address later [] placed space is lowest below again = absurd (omega (arith, lowest, below, next_start-nil limit address))
none_stops limit address later (r ∷ ranges) placed space is lowest below again = elim (cases_Bool (holds address r)) [
  | inl here ↦ let found = first_range-holds address r ranges here in cc
  | inr other ↦
      let rest = lowest ∙ next_start-passes limit address r ranges in
      let narrower = limit_past-le limit address r in
      elim (cases_Bool (holds later r)) [
        | inl later_too ↦ let found = first_range-holds later r ranges later_too in cc
        | inr later_not ↦ elim (cases_lt later (limit_past limit address r)) [
          | inl before ↦
              none_stops (limit_past limit address r) address later ranges (All-tail IsPlaced r ranges placed) (omega (arith, narrower, space))
              (sym (first_range-passes address r ranges other) ∙ is) rest before
              (sym (first_range-passes later r ranges later_not) ∙ again)
          | inr at ↦
              let at_most = next_start-le (limit_past limit address r) address ranges in
              both_ways (holds later r) later_not (begins limit address later r (All-head IsPlaced r ranges placed) space below (omega (arith, rest, at_most, at)))
        ]
      ]
]

-- so the gap goes up to the lowest start behind the address
pub gap_to_next_start : (ranges : List Range) (address : ℕ) → All IsPlaced ranges → address < address_end → first_range ranges address ≡ None
    → IsGap ranges address (next_start address_end address ranges - address)
gap_to_next_start ranges address placed in_space is =
    let reached : ℕ = next_start address_end address ranges in
    let ahead : address < reached = next_start-lt address_end address ranges in_space in
    let at_most : reached ≤ address_end = next_start-le address_end address ranges in
    record {
      below = omega (arith, ahead, at_most);
      none = λ k lt. none_reaches address_end address (address + k) ranges in_space is (omega arith) (omega (arith, lt, ahead));
      greatest = λ m inside all. elim (cases_lt (reached - address) m) [
        | inr within ↦ within
        | inl more ↦
            let e : address + (reached - address) ≡ reached = omega (arith, ahead) in
            let again : first_range ranges reached ≡ None = subst (λ n. first_range ranges n ≡ None) e (all (reached - address) more) in
            absurd (none_stops address_end address reached ranges placed (omega arith) is refl (omega (arith, inside, more, ahead)) again)
      ];
    }

-- ---- the steps of a scan

pub starts_passed : (limit next address i : ℕ) (d : Range) (ranges : List Range) → i < length ranges
    → next_start limit address (drop i ranges) ≡ next_start address_end address ranges → next ≡ limit_past limit address (get_or ranges i d)
    → next_start next address (drop (i + 1) ranges) ≡ next_start address_end address ranges
starts_passed limit next address i d ranges lt so_far is =
    let r = get_or ranges i d in
    ap (λ n. next_start n address (drop (i + 1) ranges)) is
    ∙ sym (next_start-passes limit address r (drop (i + 1) ranges))
    ∙ sym (at_drop_more (next_start limit address) ranges i d lt)
    ∙ so_far

-- what is left when all ranges were passed
pub gap_at_end : (limit address i : ℕ) (ranges : List Range) → length ranges ≤ i → All IsPlaced ranges → address < address_end
    → None ≡ place_of ranges address → next_start limit address (drop i ranges) ≡ next_start address_end address ranges
    → IsGap ranges address (limit - address)
gap_at_end limit address i ranges past placed in_space is so_far =
    let reached : limit ≡ next_start address_end address ranges =
    sym (next_start-nil limit address) ∙ sym (at_drop_all (next_start limit address) ranges i past) ∙ so_far in
    subst (λ n. IsGap ranges address (n - address)) (sym reached) (gap_to_next_start ranges address placed in_space (none_found ranges address is))
