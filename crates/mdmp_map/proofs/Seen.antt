-- A search that was shown some ranges, none of which holds the address.
use Rattle.std.proofs.Common.{◌≡◌, ◌∙◌, ◌<◌, ◌-◌, ◌++◌, ℕ, List, [], ◌∷◌, Some, None, true, false, ap, inl, inr, refl, sym, subst}
use Rattle.std.specs.Prelude.{All}
use Rattle.std.proofs.lemmas.Bool.{cases_Bool}
use Rattle.mdmp_map.specs.declared.range.Range.{Range}
use Rattle.mdmp_map.specs.Finding.{place_in}
use Rattle.mdmp_map.specs.RangeLaws.{first_range-holds, first_range-passes, limit_past}
use Rattle.mdmp_map.specs.Ranges.{IsGap, IsPlaced, address_end, first_range, holds, next_start, place_of}
use Rattle.mdmp_map.specs.Search.{HasSeen, SearchState}
use Rattle.mdmp_map.proofs.Gaps.{gap_to_next_start}
use Rattle.mdmp_map.proofs.Scanning.{next_start-nil, next_start-passes, scan, scan-holds, scan-passes, scan-place_of}

-- the ranges behind those that do not hold the address decide
scan_behind : (limit address : ℕ) (seen rest : List Range) → first_range seen address ≡ None → scan limit address (seen ++ rest) ≡ scan (next_start limit address seen) address rest
scan_behind limit address [] rest none = ap (λ n. scan n address rest) (sym (next_start-nil limit address))
scan_behind limit address (r ∷ seen) rest none = elim (cases_Bool (holds address r)) [
  | inl here ↦ let found = first_range-holds address r seen here in cc
  | inr other ↦
      scan-passes limit address r (seen ++ rest) other
      ∙ scan_behind (limit_past limit address r) address seen rest (sym (first_range-passes address r seen other) ∙ none)
      ∙ ap (λ n. scan n address rest) (sym (next_start-passes limit address r seen))
]

-- the next range holds it
pub seen_held : (s : SearchState) (r : Range) (seen rest : List Range) → HasSeen seen s → holds s.address r ≡ true → Some (place_in s.next_start s.address r) ≡ place_of (seen ++ r ∷ rest) s.address
seen_held s r seen rest has here =
    ap (λ n. Some (place_in n s.address r)) has.lowest
    ∙ sym (scan-holds (next_start address_end s.address seen) s.address r rest here)
    ∙ sym (scan_behind address_end s.address seen (r ∷ rest) has.none)
    ∙ scan-place_of s.address (seen ++ r ∷ rest)

first_behind : (address : ℕ) (seen : List Range) (r : Range) → first_range seen address ≡ None → holds address r ≡ false → first_range (seen ++ r ∷ []) address ≡ None
first_behind address [] r none other = first_range-passes address r [] other
first_behind address (q ∷ seen) r none other = elim (cases_Bool (holds address q)) [
  | inl here ↦ let found = first_range-holds address q seen here in cc
  | inr passed ↦ first_range-passes address q (seen ++ r ∷ []) passed ∙ first_behind address seen r (sym (first_range-passes address q seen passed) ∙ none) other
]

next_start_push : (limit address : ℕ) (seen : List Range) (r : Range) → next_start limit address (seen ++ r ∷ []) ≡ limit_past (next_start limit address seen) address r
next_start_push limit address [] r =
    next_start-passes limit address r [] ∙ next_start-nil (limit_past limit address r) address ∙ ap (λ n. limit_past n address r) (sym (next_start-nil limit address))
next_start_push limit address (q ∷ seen) r =
    next_start-passes limit address q (seen ++ r ∷ [])
    ∙ next_start_push (limit_past limit address q) address seen r
    ∙ ap (λ n. limit_past n address r) (sym (next_start-passes limit address q seen))

-- it does not
pub seen_more : (s t : SearchState) (r : Range) (seen : List Range) → HasSeen seen s → holds s.address r ≡ false → t.address ≡ s.address → t.next_start ≡ limit_past s.next_start s.address r
    → HasSeen (seen ++ r ∷ []) t
seen_more s t r seen has other same next = record {
  none = ap (first_range (seen ++ r ∷ [])) same ∙ first_behind s.address seen r has.none other;
  lowest = next ∙ ap (λ n. limit_past n s.address r) has.lowest ∙ sym (next_start_push address_end s.address seen r) ∙ ap (λ a. next_start address_end a (seen ++ r ∷ [])) (sym same);
}

-- and none does
pub seen_gap : (s : SearchState) (seen : List Range) → HasSeen seen s → All IsPlaced seen → s.address < address_end
    → (None ≡ place_of seen s.address) × IsGap seen s.address (s.next_start - s.address)
seen_gap s seen has placed in_space = (
  rw has.none refl,
  subst (λ n. IsGap seen s.address (n - s.address)) (sym has.lowest) (gap_to_next_start seen s.address placed in_space has.none),
)
