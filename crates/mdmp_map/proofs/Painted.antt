-- Ranges that are painted onto the places of a block.
use Rattle.std.proofs.Common.{◌≡◌, ◌≤◌, ◌<◌, ◌+◌, ◌-◌, ◌||◌, ◌∙◌, ◌∷◌, ◌++◌, [], ℕ, List, Option, None, Some, Bool, true, false, ap, arith, get_or, inl, inr, is_some, max, min, sym, refl, nat_le, nat_lt}
use Rattle.std.proofs.lemmas.Bool.{cases_Bool, cases_lt, leb-true, ltb-true, or_cases}
use Rattle.std.proofs.lemmas.Bool.Decides.{nat_tests}
use Rattle.std.proofs.lemmas.List.{get_or_past}
use Rattle.std.proofs.lemmas.List.FromFn.{get_or-map-range_with_len, length-map-range_with_len}
use Rattle.mdmp_map.specs.declared.paint.PaintedRun.{PaintedRun}
use Rattle.mdmp_map.specs.declared.range.Range.{Range}
use Rattle.mdmp_map.specs.Painting.{HoldsFirst, IsAround, IsPaintOf, IsPaintTo, IsPassed, IsRun, PaintState, Paints, is_held_at, is_marked, is_painted, marks}
use Rattle.mdmp_map.specs.RangeLaws.{first_range-behind, first_range-holds, first_range-more, first_range-passes, holds_parts}
use Rattle.mdmp_map.specs.Ranges.{address_end, first_range, holds, range_end}

-- ---- what is painted, by the marks

marks_at : (next : List ℕ) (count place : ℕ) → place < count → get_or (marks next count) place false ≡ is_marked next place
marks_at next count place within = get_or-map-range_with_len (is_marked next) 0 count place place false within (omega arith)

marks_past : (next : List ℕ) (count place : ℕ) → count ≤ place → get_or (marks next count) place false ≡ false
marks_past next count place past =
    get_or_past (marks next count) place false (omega (arith, length-map-range_with_len (is_marked next) 0 count, past))

pub painted_is : (s : PaintState) (start count : ℕ) (next : List ℕ) → record { start = start; count = count; painted = marks next count } ≡ s
    → (place : ℕ) → place < s.count → is_painted s place ≡ is_marked next place
painted_is s start count next is place within =
    let counted : count ≡ s.count = ap (λ (t : PaintState). t.count) is in
    ap (λ (t : PaintState). is_painted t place) (sym is) ∙ marks_at next count place (omega (arith, within, counted))

pub painted_past : (s : PaintState) (start count : ℕ) (next : List ℕ) → record { start = start; count = count; painted = marks next count } ≡ s
    → (place : ℕ) → s.count ≤ place → is_painted s place ≡ false
painted_past s start count next is place past =
    let counted : count ≡ s.count = ap (λ (t : PaintState). t.count) is in
    ap (λ (t : PaintState). is_painted t place) (sym is) ∙ marks_past next count place (omega (arith, past, counted))

-- none is, where each place has its own number
pub none_painted : (start count : ℕ) (next : List ℕ) → ((place : ℕ) → place < count → is_marked next place ≡ false)
    → (place : ℕ) → is_painted (record { start = start; count = count; painted = marks next count }) place ≡ false
none_painted start count next own place = elim (cases_lt place count) [
  | inl within ↦ marks_at next count place within ∙ own place within
  | inr past ↦ marks_past next count place past
]

-- the same at two states of which one has more places marked
pub paints_by : (old : PaintState) (start count first end : ℕ) (next passed now : List ℕ)
    → record { start = start; count = count; painted = marks next count } ≡ old → end ≤ count
    → ((place : ℕ) → is_marked passed place ≡ is_marked next place)
    → ((place : ℕ) → first ≤ place → place < end → is_marked now place ≡ true)
    → ((place : ℕ) → place < first → is_marked now place ≡ is_marked passed place)
    → ((place : ℕ) → end ≤ place → is_marked now place ≡ is_marked passed place)
    → Paints first end old (record { start = start; count = count; painted = marks now count })
paints_by old start count first end next passed now is within same marked below behind =
    let stays : (place : ℕ) → is_marked now place ≡ is_marked passed place → get_or (marks now count) place false ≡ is_painted old place =
    λ place eq. elim (cases_lt place count) [
      | inl lt ↦ marks_at now count place lt ∙ eq ∙ same place ∙ sym (marks_at next count place lt) ∙ ap (λ (t : PaintState). is_painted t place) is
      | inr past ↦ marks_past now count place past ∙ sym (marks_past next count place past) ∙ ap (λ (t : PaintState). is_painted t place) is
    ] in
    record {
      painted = λ place at lt. marks_at now count place (omega (arith, lt, within)) ∙ marked place at lt;
      below = λ place lt. stays place (below place lt);
      behind = λ place ge. stays place (behind place ge);
    }

-- ---- which places a range holds

-- a place from one on that it holds stands between its bounds in the block
pub held_bounds : (s : PaintState) (r : Range) (from at low high top place : ℕ) → ((k : ℕ) → k < at → s.start + k < r.start)
    → ((k : ℕ) → high ≤ k → k < s.count → top ≤ s.start + k) → low ≡ max from at → top ≡ min (range_end r) address_end
    → from ≤ place → place < s.count → is_held_at s r place ≡ true → (low ≤ place) × (place < high)
held_bounds s r from at low high top place below behind low_is top_is from_le within held =
    let parts = holds_parts (s.start + place) r held in (
      elim (cases_lt place at) [ inl lt ↦ absurd (omega (arith, below place lt, parts.1)) | inr le ↦ omega (arith, le, from_le, low_is) ],
      elim (cases_lt place high) [ inl lt ↦ lt | inr le ↦ absurd (omega (arith, behind place le within, parts.0, parts.2, top_is)) ],
    )

-- and one between them is held
pub bounds_held : (s : PaintState) (r : Range) (place top : ℕ) → r.start ≤ s.start + place → s.start + place < top → top ≡ min (range_end r) address_end
    → is_held_at s r place ≡ true
bounds_held s r place top begun before is = grind (arith, nat_tests)

-- none that begins behind all places, or ends before them
pub missed : (s : PaintState) (r : Range) (first last gap : ℕ) → IsAround first last s.start s.count → gap ≡ first - r.start
    → (nat_lt last r.start || nat_le r.length gap) ≡ true → (place : ℕ) → place < s.count → is_held_at s r place ≡ false
missed s r first last gap around gap_is test place within = elim (cases_Bool (is_held_at s r place)) [
  | inl held ↦
      let parts = holds_parts (s.start + place) r held in
      let below : s.start + place ≤ last = around.high (s.start + place) (omega arith) (omega (arith, within)) parts.0 in
      elim (or_cases (nat_lt last r.start) (nat_le r.length gap) test) [
        | inl behind ↦ absurd (omega (arith, below, parts.1, ltb-true last r.start behind))
        | inr before ↦ absurd (omega (arith, parts.2, around.low, gap_is, leb-true r.length gap before))
      ]
  | inr none ↦ none
]

-- ---- ranges one after another

some_found : (found : Option Range) → is_some found ≡ true → (q : Range) × (found ≡ Some q)
some_found None is = absurd (cc)
some_found (Some q) is = (q, refl)

none_found : (found : Option Range) → is_some found ≡ false → found ≡ None
none_found None is = refl
none_found (Some q) is = absurd (cc)

-- one more range changes nothing where some range before it holds the address, or it does not
held_more : (a : ℕ) (seen : List Range) (r : Range) → (holds a r ≡ true → is_some (first_range seen a) ≡ true) → is_some (first_range (seen ++ r ∷ []) a) ≡ is_some (first_range seen a)
held_more a seen r held = elim (cases_Bool (is_some (first_range seen a))) [
  | inl some ↦
      let found = some_found (first_range seen a) some in
      ap is_some (first_range-more a found.0 seen (r ∷ []) found.1 ∙ sym found.1)
  | inr none ↦
      let not_found = none_found (first_range seen a) none in
      elim (cases_Bool (holds a r)) [
        | inl here ↦ absurd (let some = held here in cc)
        | inr other ↦ ap is_some (first_range-behind a seen (r ∷ []) not_found ∙ first_range-passes a r [] other ∙ sym not_found)
      ]
]

-- the range that is painted next is the first to hold what is free
pub free_first : (from : ℕ) (seen : List Range) (r : Range) (s : PaintState) (run : PaintedRun) → IsPaintTo from seen r s → IsRun s r from run → HoldsFirst s.start seen r run
free_first from seen r s run painted is rest place at lt =
    let inside : place < s.count = omega (arith, lt, is.within) in
    let none = none_found (first_range seen (s.start + place)) (sym (painted.behind place (omega (arith, at, is.order)) inside) ∙ is.free place at lt) in
    first_range-behind (s.start + place) seen (r ∷ rest) none ∙ first_range-holds (s.start + place) r rest (is.held place at lt)

-- it is painted up to the end of the run
pub painted_to : (from : ℕ) (seen : List Range) (r : Range) (s t : PaintState) (run : PaintedRun) → t.start ≡ s.start → t.count ≡ s.count → IsRun s r from run → Paints run.first run.end s t
    → IsPaintTo from seen r s → IsPaintTo run.end seen r t
painted_to from seen r s t run start count is paints painted = record {
  before = λ place lt in_t.
      let inside : place < s.count = omega (arith, in_t, count) in
      elim (cases_lt place run.first) [
        | inl below ↦
            paints.below place below
            ∙ elim (cases_lt place from) [
              | inl before ↦ painted.before place before inside
              | inr behind ↦
                  painted.behind place behind inside
                  ∙ sym (held_more (s.start + place) seen r (λ here. sym (painted.behind place behind inside) ∙ is.passed place behind below here))
            ]
            ∙ ap (λ a. is_some (first_range (seen ++ r ∷ []) (a + place))) (sym start)
        | inr at ↦
            paints.painted place at lt ∙ ap is_some (sym (free_first from seen r s run painted is [] place at lt))
            ∙ ap (λ a. is_some (first_range (seen ++ r ∷ []) (a + place))) (sym start)
      ];
  behind = λ place at in_t.
      paints.behind place at ∙ painted.behind place (omega (arith, at, is.order, is.some)) (omega (arith, in_t, count))
      ∙ ap (λ a. is_some (first_range seen (a + place))) (sym start);
}

-- and then whole
pub painted_whole : (from : ℕ) (seen : List Range) (r : Range) (s t : PaintState) → t.start ≡ s.start → t.count ≡ s.count → t.painted ≡ s.painted → IsPassed s r from s.count
    → IsPaintTo from seen r s → IsPaintOf (seen ++ r ∷ []) t
painted_whole from seen r s t start count same passed painted place in_t =
    let inside : place < s.count = omega (arith, in_t, count) in
    ap (λ (p : List Bool). get_or p place false) same
    ∙ elim (cases_lt place from) [
      | inl before ↦ painted.before place before inside
      | inr behind ↦
          painted.behind place behind inside
          ∙ sym (held_more (s.start + place) seen r (λ here. sym (painted.behind place behind inside) ∙ passed place behind inside here))
    ]
    ∙ ap (λ a. is_some (first_range (seen ++ r ∷ []) (a + place))) (sym start)
