-- A scan of ranges from the front: the place that it finds, and how far that reaches.
use Rattle.std.proofs.Common.{◌≡◌, ◌≢◌, ◌≤◌, ◌<◌, ℕ, ◌+◌, ◌-◌, ◌∙◌, min, List, [], ◌∷◌, Option, Some, None, true, false, refl, sym, ap, subst, arith, inl, inr, drop, length, get_or}
use Rattle.std.specs.Prelude.{All, not, ◌&&◌, nat_lt, nat_le, if◌then◌else◌, option_map}
use Rattle.std.proofs.lemmas.Bool.{cases_Bool, cases_lt, and_from, lt-ltb, le-ltb, le-leb, false_from_ne_true, both_ways}
use Rattle.std.proofs.lemmas.Bool.Decides.{nat_tests}
use Rattle.std.proofs.lemmas.List.{at_drop_more, at_drop_all}
use Rattle.std.proofs.lemmas.List.Sums.{take_while-cons}
use Rattle.std.proofs.lemmas.List.Elements.{All-head, All-tail}
use Rattle.mdmp_map.specs.declared.range.Range.{Range}
use Rattle.mdmp_map.specs.declared.place.Place.{Place}
use Rattle.mdmp_map.specs.RangeLaws.{limit_past, limit_past-le, next_start-lt, next_start-le, holds_parts, first_range-holds, first_range-passes, first_range_holds}
use Rattle.mdmp_map.specs.Finding.{place_in, scan_len}
use Rattle.mdmp_map.specs.Ranges.{IsPlaced, IsGreatestLeft, address_end, range_end, holds, first_range, ranges_before, next_start, addresses_left, place_of}

-- what is read past the end of a list
abbrev pub no_range : Range
no_range = record { start = 0; length = 0; offset = 0 }

-- what a scan finds from some ranges on
unfoldable pub scan : ℕ → ℕ → List Range → Option Place
scan limit address [] = None
scan limit address (r ∷ ranges) =
    if holds address r then Some (place_in limit address r) else scan (limit_past limit address r) address ranges

pub scan-holds : (limit address : ℕ) (r : Range) (ranges : List Range) → holds address r ≡ true
    → scan limit address (r ∷ ranges) ≡ Some (place_in limit address r)
unfolding scan
scan-holds limit address r ranges here = rw here refl

pub scan-passes : (limit address : ℕ) (r : Range) (ranges : List Range) → holds address r ≡ false
    → scan limit address (r ∷ ranges) ≡ scan (limit_past limit address r) address ranges
unfolding scan
scan-passes limit address r ranges other = rw other refl

pub scan-nil : (limit address : ℕ) → scan limit address [] ≡ None
unfolding scan
scan-nil limit address = refl

-- ---- one more range

ranges_before-holds : (address : ℕ) (r : Range) (ranges : List Range) → holds address r ≡ true
    → ranges_before (r ∷ ranges) address ≡ []
ranges_before-holds address r ranges here = rw here refl

ranges_before-passes : (address : ℕ) (r : Range) (ranges : List Range) → holds address r ≡ false
    → ranges_before (r ∷ ranges) address ≡ r ∷ ranges_before ranges address
ranges_before-passes address r ranges other = take_while-cons (λ q. not (holds address q)) r ranges ∙ rw other refl

-- ---- the lowest start

pub next_start-passes : (limit address : ℕ) (r : Range) (ranges : List Range)
    → next_start limit address (r ∷ ranges) ≡ next_start (limit_past limit address r) address ranges
unfolding next_start
next_start-passes limit address r ranges = refl

pub next_start-nil : (limit address : ℕ) → next_start limit address [] ≡ limit
unfolding next_start
next_start-nil limit address = refl

pub limit_past-ahead : (limit address : ℕ) (r : Range) → address < r.start → limit_past limit address r ≡ min limit r.start
limit_past-ahead limit address r ahead = rw (lt-ltb address r.start ahead) refl

pub limit_past-begun : (limit address : ℕ) (r : Range) → r.start ≤ address → limit_past limit address r ≡ limit
limit_past-begun limit address r begun = rw (le-ltb address r.start begun) refl

limit_past-min : (l m address : ℕ) (r : Range) → limit_past (min l m) address r ≡ min l (limit_past m address r)
limit_past-min l m address r = grind (arith, nat_tests)

next_start-min : (l m address : ℕ) (ranges : List Range) → next_start (min l m) address ranges ≡ min l (next_start m address ranges)
unfolding next_start
next_start-min l m address [] = refl
next_start-min l m address (r ∷ ranges) =
    ap (λ limit. next_start limit address ranges) (limit_past-min l m address r)
    ∙ next_start-min l (limit_past m address r) address ranges

-- ---- a scan finds the place

-- the lowest start behind the address among the ranges before the first that holds it
abbrev lowest_start : ℕ → ℕ → List Range → ℕ
lowest_start limit address ranges = next_start limit address (ranges_before ranges address)

lowest_start-holds : (limit address : ℕ) (r : Range) (ranges : List Range) → holds address r ≡ true
    → lowest_start limit address (r ∷ ranges) ≡ limit
lowest_start-holds limit address r ranges here = rw (ranges_before-holds address r ranges here) (next_start-nil limit address)

lowest_start-passes : (limit address : ℕ) (r : Range) (ranges : List Range) → holds address r ≡ false
    → lowest_start limit address (r ∷ ranges) ≡ lowest_start (limit_past limit address r) address ranges
lowest_start-passes limit address r ranges other =
    rw (ranges_before-passes address r ranges other) (next_start-passes limit address r (ranges_before ranges address))

scan-option_map : (limit address : ℕ) (ranges : List Range)
    → scan limit address ranges ≡ option_map (λ r. place_in (lowest_start limit address ranges) address r) (first_range ranges address)
scan-option_map limit address [] = scan-nil limit address
scan-option_map limit address (r ∷ ranges) = elim (cases_Bool (holds address r)) [
  | inl here ↦
      scan-holds limit address r ranges here
      ∙ rw (first_range-holds address r ranges here, lowest_start-holds limit address r ranges here) refl
  | inr other ↦
      scan-passes limit address r ranges other
      ∙ scan-option_map (limit_past limit address r) address ranges
      ∙ rw (first_range-passes address r ranges other, lowest_start-passes limit address r ranges other) refl
]

option_map-same : {X Y : Type 0} (f g : X → Y) → ((x : X) → f x ≡ g x) → (o : Option X) → option_map f o ≡ option_map g o
option_map-same f g same None = refl
option_map-same f g same (Some x) = ap Some (same x)

pub scan-place_of : (address : ℕ) (ranges : List Range) → scan address_end address ranges ≡ place_of ranges address
scan-place_of address ranges =
    scan-option_map address_end address ranges
    ∙ option_map-same (λ r. place_in (lowest_start address_end address ranges) address r)
    (λ r. record { offset = r.offset + (address - r.start); left = addresses_left ranges address r })
    (λ r. ap (λ n. record { offset = r.offset + (address - r.start); left = n - address })
    (sym (next_start-min (range_end r) address_end address (ranges_before ranges address))))
    (first_range ranges address)

-- ---- the steps of the loop

pub found : (limit address i : ℕ) (d : Range) (ranges : List Range) → i < length ranges
    → scan limit address (drop i ranges) ≡ place_of ranges address → holds address (get_or ranges i d) ≡ true
    → Some (place_in limit address (get_or ranges i d)) ≡ place_of ranges address
found limit address i d ranges lt so_far here =
    sym (scan-holds limit address (get_or ranges i d) (drop (i + 1) ranges) here)
    ∙ sym (at_drop_more (scan limit address) ranges i d lt)
    ∙ so_far

pub passed : (limit next address i : ℕ) (d : Range) (ranges : List Range) → i < length ranges
    → scan limit address (drop i ranges) ≡ place_of ranges address → holds address (get_or ranges i d) ≡ false
    → next ≡ limit_past limit address (get_or ranges i d)
    → scan next address (drop (i + 1) ranges) ≡ place_of ranges address
passed limit next address i d ranges lt so_far other is =
    let r = get_or ranges i d in
    ap (λ n. scan n address (drop (i + 1) ranges)) is
    ∙ sym (scan-passes limit address r (drop (i + 1) ranges) other)
    ∙ sym (at_drop_more (scan limit address) ranges i d lt)
    ∙ so_far

pub not_found : (limit address i : ℕ) (ranges : List Range) → length ranges ≤ i
    → scan limit address (drop i ranges) ≡ place_of ranges address → None ≡ place_of ranges address
not_found limit address i ranges past so_far =
    sym (scan-nil limit address) ∙ sym (at_drop_all (scan limit address) ranges i past) ∙ so_far

-- ---- how many addresses are left

pub holds_from : (address : ℕ) (r : Range) → address < address_end → r.start ≤ address → address < range_end r → holds address r ≡ true
holds_from address r in_space begun not_past =
    and_from (nat_lt address address_end && nat_le r.start address) (nat_lt address (range_end r))
    (and_from (nat_lt address address_end) (nat_le r.start address) (lt-ltb address address_end in_space) (le-leb r.start address begun))
    (lt-ltb address (range_end r) not_past)

-- a range that does not hold an address holds none from there to where it begins
pub holds_later : (limit address later : ℕ) (r : Range) → address < address_end → holds address r ≡ false → address ≤ later
    → later < limit_past limit address r → holds later r ≡ false
holds_later limit address later r in_space other from below =
    false_from_ne_true (holds later r) (λ here.
    let parts = holds_parts later r here in
    elim (cases_lt address r.start) [
      | inl ahead ↦ absurd (omega (arith, parts.1, limit_past-ahead limit address r ahead))
      | inr begun ↦ both_ways (holds address r) other (holds_from address r in_space begun (omega (arith, parts.2)))
    ])

-- r stays the first range up to where it or the addresses end, and to where an earlier range begins
reaches : (limit address later : ℕ) (r : Range) (ranges : List Range) → first_range ranges address ≡ Some r → address ≤ later
    → later < range_end r → later < address_end → later < lowest_start limit address ranges
    → first_range ranges later ≡ Some r
reaches limit address later r [] is from not_past in_space below = cc
reaches limit address later r (q ∷ ranges) is from not_past in_space below = elim (cases_Bool (holds address q)) [
  | inl here ↦
      let same : q ≡ r = let e = first_range-holds address q ranges here in cc in
      let parts = holds_parts address q here in
      let later_too : holds later q ≡ true = holds_from later q in_space (omega (arith, parts.1)) (subst (λ x. later < range_end x) (sym same) not_past) in
      first_range-holds later q ranges later_too ∙ ap Some same
  | inr other ↦
      let rest : later < lowest_start (limit_past limit address q) address ranges = omega (arith, lowest_start-passes limit address q ranges other) in
      let later_not : holds later q ≡ false =
      holds_later limit address later q (omega arith) other from
      (omega (arith, rest, next_start-le (limit_past limit address q) address (ranges_before ranges address))) in
      first_range-passes later q ranges later_not
      ∙ reaches (limit_past limit address q) address later r ranges (sym (first_range-passes address q ranges other) ∙ is) from not_past in_space rest
]

-- an earlier range that begins at the lowest start holds it
pub begins : (limit address later : ℕ) (r : Range) → IsPlaced r → limit ≤ address_end → later < limit → later ≡ limit_past limit address r
    → holds later r ≡ true
begins limit address later r placed space below lowest = elim (cases_lt address r.start) [
  | inl ahead ↦
      let start : later ≡ r.start = omega (arith, limit_past-ahead limit address r ahead) in
      holds_from later r (omega arith) (omega arith) (omega (arith, placed.some))
  | inr begun ↦ absurd (omega (arith, limit_past-begun limit address r begun))
]

-- where an earlier range begins, it comes before r
stops : (limit address later : ℕ) (r : Range) (ranges : List Range) → All IsPlaced ranges → limit ≤ address_end
    → first_range ranges address ≡ Some r → later ≡ lowest_start limit address ranges → later < limit
    → first_range ranges later ≢ Some r
stops limit address later r [] placed space is lowest below again = cc
stops limit address later r (q ∷ ranges) placed space is lowest below again = elim (cases_Bool (holds address q)) [
  | inl here ↦ absurd (omega (arith, lowest_start-holds limit address q ranges here))
  | inr other ↦
      let rest = lowest ∙ lowest_start-passes limit address q ranges other in
      let at_most = next_start-le (limit_past limit address q) address (ranges_before ranges address) in
      let narrower = limit_past-le limit address q in
      elim (cases_Bool (holds later q)) [
        | inl later_too ↦
            let same : q ≡ r = let e = first_range-holds later q ranges later_too in cc in
            both_ways (holds address q) other (subst (λ x. holds address x ≡ true) (sym same) (first_range_holds address r (q ∷ ranges) is))
        | inr later_not ↦ elim (cases_lt later (limit_past limit address q)) [
          | inl before ↦
              stops (limit_past limit address q) address later r ranges (All-tail IsPlaced q ranges placed) (omega (arith, narrower))
              (sym (first_range-passes address q ranges other) ∙ is) rest before
              (sym (first_range-passes later q ranges later_not) ∙ again)
          | inr here ↦ both_ways (holds later q) later_not (begins limit address later q (All-head IsPlaced q ranges placed) space below (omega (arith, rest, at_most, here)))
        ]
      ]
]

-- what `addresses_left` gives is the greatest count
addresses_left-IsGreatestLeft : (address : ℕ) (r : Range) (ranges : List Range) → All IsPlaced ranges → first_range ranges address ≡ Some r
    → IsGreatestLeft ranges address r (addresses_left ranges address r)
addresses_left-IsGreatestLeft address r ranges placed is =
    let limit : ℕ = min (range_end r) address_end in
    let reached : ℕ = lowest_start limit address ranges in
    let parts = holds_parts address r (first_range_holds address r ranges is) in
    let ahead : address < reached = next_start-lt limit address (ranges_before ranges address) (omega (arith, parts.0, parts.2)) in
    let at_most : reached ≤ limit = next_start-le limit address (ranges_before ranges address) in
    record {
      same = λ k lt. reaches limit address (address + k) r ranges is (omega arith) (omega (arith, lt, at_most)) (omega (arith, lt, at_most)) (omega (arith, lt));
      greatest = λ m all. elim (cases_lt (addresses_left ranges address r) m) [
        | inr within ↦ within
        | inl more ↦
            let again : first_range ranges reached ≡ Some r =
            let e : address + addresses_left ranges address r ≡ reached = omega (arith, ahead) in
            subst (λ n. first_range ranges n ≡ Some r) e (all (addresses_left ranges address r) more) in
            let still = holds_parts reached r (first_range_holds reached r ranges again) in
            absurd (stops limit address reached r ranges placed (omega arith) is refl (omega (arith, still.0, still.2)) again)
      ];
    }

pub place_of-IsGreatestLeft : (address : ℕ) (place : Place) (ranges : List Range) → All IsPlaced ranges → Some place ≡ place_of ranges address
    → (r : Range) → first_range ranges address ≡ Some r → IsGreatestLeft ranges address r place.left
place_of-IsGreatestLeft address place ranges placed found r is =
    let expected : Place = record { offset = r.offset + (address - r.start); left = addresses_left ranges address r } in
    let all : Some place ≡ Some expected =
    found ∙ ap (option_map (λ q. record { offset = q.offset + (address - q.start); left = addresses_left ranges address q })) is in
    let same : place ≡ expected = cc in
    subst (λ (p : Place). IsGreatestLeft ranges address r p.left) (sym same) (addresses_left-IsGreatestLeft address r ranges placed is)

-- ---- how many ranges a scan looks at

before_len-holds : (address : ℕ) (r : Range) (ranges : List Range) → holds address r ≡ true → length (ranges_before (r ∷ ranges) address) ≡ 0
before_len-holds address r ranges here = ap length (ranges_before-holds address r ranges here)

before_len-passes : (address : ℕ) (r : Range) (ranges : List Range) → holds address r ≡ false
    → length (ranges_before (r ∷ ranges) address) ≡ length (ranges_before ranges address) + 1
before_len-passes address r ranges other = ap length (ranges_before-passes address r ranges other) ∙ omega arith

-- those before this one do not hold the address
pub counted_passed : (address i : ℕ) (d : Range) (ranges : List Range) → i < length ranges
    → length (ranges_before ranges address) ≡ i + length (ranges_before (drop i ranges) address) → holds address (get_or ranges i d) ≡ false
    → length (ranges_before ranges address) ≡ i + 1 + length (ranges_before (drop (i + 1) ranges) address)
counted_passed address i d ranges lt so_far other =
    let here = at_drop_more (λ xs. length (ranges_before xs address)) ranges i d lt in
    let next = before_len-passes address (get_or ranges i d) (drop (i + 1) ranges) other in
    omega (arith, so_far, here, next)

pub counted_found : (address i : ℕ) (d : Range) (ranges : List Range) → i < length ranges
    → length (ranges_before ranges address) ≡ i + length (ranges_before (drop i ranges) address) → holds address (get_or ranges i d) ≡ true
    → scan_len ranges address ≡ i + 1
counted_found address i d ranges lt so_far is =
    let here = at_drop_more (λ xs. length (ranges_before xs address)) ranges i d lt in
    let none = before_len-holds address (get_or ranges i d) (drop (i + 1) ranges) is in
    omega (arith, so_far, here, none, lt)

pub counted_all : (address i : ℕ) (ranges : List Range) → i ≡ length ranges
    → length (ranges_before ranges address) ≡ i + length (ranges_before (drop i ranges) address) → scan_len ranges address ≡ i
counted_all address i ranges all so_far = omega (arith, so_far, all)
