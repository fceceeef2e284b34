-- What the place of an address has to do with the range that holds it.
use Rattle.std.proofs.Common.{◌≡◌, ◌≤◌, ◌<◌, ℕ, ◌+◌, ◌-◌, ◌∙◌, min, List, [], ◌∷◌, ◌++◌, Option, Some, None, true, false, refl, ap, sym, subst, arith, inl, inr}
use Rattle.std.specs.Prelude.{All, ◌&&◌, nat_lt, nat_le, if◌then◌else◌, option_map}
use Rattle.std.proofs.lemmas.Bool.{cases_Bool, and_parts, ltb-true, leb-true}
use Rattle.std.proofs.lemmas.Bool.Decides.{nat_tests}
use Rattle.std.proofs.lemmas.List.Folds.{find-append}
use Rattle.std.proofs.lemmas.List.Elements.{All-head, All-tail}
use Rattle.mdmp_map.specs.declared.range.Range.{Range}
use Rattle.mdmp_map.specs.declared.place.Place.{Place}
use Rattle.mdmp_map.specs.Ranges.{IsWithin, address_end, range_end, holds, first_range, ranges_before, next_start, addresses_left, place_of}

-- ---- the first range that holds an address

-- what it says that a range holds an address
pub holds_parts : (address : ℕ) (r : Range) → holds address r ≡ true → (address < address_end) × (r.start ≤ address) × (address < range_end r)
holds_parts address r here =
    let both = and_parts (nat_lt address address_end && nat_le r.start address) (nat_lt address (range_end r)) here in
    let first = and_parts (nat_lt address address_end) (nat_le r.start address) both.0 in
    (ltb-true address address_end first.0, leb-true r.start address first.1, ltb-true address (range_end r) both.1)

-- the first range that holds an address, where the list's first one does, and where it doesn't
pub first_range-holds : (address : ℕ) (r : Range) (ranges : List Range) → holds address r ≡ true
    → first_range (r ∷ ranges) address ≡ Some r
first_range-holds address r ranges here = rw here refl

pub first_range-passes : (address : ℕ) (r : Range) (ranges : List Range) → holds address r ≡ false
    → first_range (r ∷ ranges) address ≡ first_range ranges address
first_range-passes address r ranges other = rw other refl

-- a range that is found holds the address
pub first_range_holds : (address : ℕ) (r : Range) (ranges : List Range) → first_range ranges address ≡ Some r → holds address r ≡ true
first_range_holds address r [] is = cc
first_range_holds address r (q ∷ ranges) is = elim (cases_Bool (holds address q)) [
  | inl here ↦ let same : q ≡ r = let e = first_range-holds address q ranges here in cc in subst (λ x. holds address x ≡ true) same here
  | inr other ↦ first_range_holds address r ranges (sym (first_range-passes address q ranges other) ∙ is)
]

-- the first of some ranges that holds an address is the first of those and more
pub first_range-more : (address : ℕ) (r : Range) (ranges more : List Range) → first_range ranges address ≡ Some r → first_range (ranges ++ more) address ≡ Some r
first_range-more address r ranges more is = let all = find-append (holds address) ranges more in cc

-- and where none of them does, it is the first of the others
pub first_range-behind : (address : ℕ) (ranges more : List Range) → first_range ranges address ≡ None → first_range (ranges ++ more) address ≡ first_range more address
first_range-behind address ranges more none = let all = find-append (holds address) ranges more in cc

-- what holds of each range holds of the one that is found
pub All-first_range : (P : Range → Type 0) (address : ℕ) (r : Range) (ranges : List Range) → All P ranges → first_range ranges address ≡ Some r → P r
All-first_range P address r [] all is = cc
All-first_range P address r (q ∷ ranges) all is = elim (cases_Bool (holds address q)) [
  | inl here ↦ let same : q ≡ r = let e = first_range-holds address q ranges here in cc in subst P same (All-head P q ranges all)
  | inr other ↦ All-first_range P address r ranges (All-tail P q ranges all) (sym (first_range-passes address q ranges other) ∙ is)
]

-- ---- the lowest start behind an address

-- the lowest start behind the address, after one more range
abbrev pub limit_past : ℕ → ℕ → Range → ℕ
limit_past limit address r = if nat_lt address r.start then min limit r.start else limit

-- it stays behind the address, and gets no higher
pub limit_past-lt : (limit address : ℕ) (r : Range) → address < limit → address < limit_past limit address r
limit_past-lt limit address r below = grind (arith, nat_tests)

pub limit_past-le : (limit address : ℕ) (r : Range) → limit_past limit address r ≤ limit
limit_past-le limit address r = grind (arith, nat_tests)

-- so does the lowest start of all
pub next_start-lt : (limit address : ℕ) (ranges : List Range) → address < limit → address < next_start limit address ranges
unfolding next_start
next_start-lt limit address [] below = below
next_start-lt limit address (r ∷ ranges) below =
    next_start-lt (limit_past limit address r) address ranges (limit_past-lt limit address r below)

pub next_start-le : (limit address : ℕ) (ranges : List Range) → next_start limit address ranges ≤ limit
unfolding next_start
next_start-le limit address [] = omega arith
next_start-le limit address (r ∷ ranges) = omega (arith, next_start-le (limit_past limit address r) address ranges, limit_past-le limit address r)

-- ---- the place of an address

-- what a mapped option was made from
mapped_from : (f : Range → Place) (found : Option Range) (place : Place) → option_map f found ≡ Some place
    → (r : Range) × (found ≡ Some r) × (place ≡ f r)
mapped_from f None place is = cc
mapped_from f (Some r) place is = (r, refl, cc)

-- the range that gave a place
pub place-first_range : (ranges : List Range) (address : ℕ) (place : Place) → place_of ranges address ≡ Some place
    → (r : Range) × (first_range ranges address ≡ Some r) × (place ≡ record { offset = r.offset + (address - r.start); left = addresses_left ranges address r })
place-first_range ranges address place is =
    mapped_from (λ r. record { offset = r.offset + (address - r.start); left = addresses_left ranges address r }) (first_range ranges address) place is

nothing_mapped : {X Y : Type 0} (f : X → Y) (o : Option X) → None ≡ option_map f o → o ≡ None
nothing_mapped f None is = refl
nothing_mapped f (Some x) is = absurd cc

-- where there is no place, no range holds the address
pub none_found : (ranges : List Range) (address : ℕ) → None ≡ place_of ranges address → first_range ranges address ≡ None
none_found ranges address is =
    nothing_mapped (λ r. record { offset = r.offset + (address - r.start); left = addresses_left ranges address r }) (first_range ranges address) is

-- at least one address is left, the one that was looked up
pub place-left : (ranges : List Range) (address : ℕ) (place : Place) → place_of ranges address ≡ Some place → 0 < place.left
place-left ranges address place is =
    let of = place-first_range ranges address place is in
    let parts = holds_parts address of.0 (first_range_holds address of.0 ranges of.1) in
    let ahead = next_start-lt (min (range_end of.0) address_end) address (ranges_before ranges address) (omega (arith, parts.0, parts.2)) in
    omega (arith, ahead, ap (λ (p : Place). p.left) of.2)

-- what is left at a place stands below an offset below which the bytes of all ranges stand
pub place-within : (ranges : List Range) (address size : ℕ) (place : Place) → All (IsWithin size) ranges
    → place_of ranges address ≡ Some place → place.offset + place.left ≤ size
place-within ranges address size place all is =
    let of = place-first_range ranges address place is in
    let parts = holds_parts address of.0 (first_range_holds address of.0 ranges of.1) in
    let reached = next_start-le (min (range_end of.0) address_end) address (ranges_before ranges address) in
    let within : of.0.offset + of.0.length ≤ size = All-first_range (IsWithin size) address of.0 ranges all of.1 in
    omega (arith, parts.1, parts.2, reached, within, ap (λ (p : Place). p.offset) of.2, ap (λ (p : Place). p.left) of.2)
