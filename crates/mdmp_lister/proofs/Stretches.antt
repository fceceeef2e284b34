-- How many stretches some addresses have, and that each is read by one fetch.
use Rattle.std.proofs.Common.{◌≡◌, ◌≤◌, ◌<◌, ◌+◌, ◌-◌, ◌∙◌, ℕ, zero, suc, Bool, true, false, Option, None, Some, List, arith, ap, refl, subst, sym, inl, inr}
use Rattle.std.specs.Prelude.{◌==◌, ◌&&◌}
use Rattle.std.proofs.lemmas.Bool.{and_parts, cases_lt, eqb-true}
use Rattle.mdmp_map.specs.declared.range.Range.{Range}
use Rattle.mdmp_map.specs.Ranges.{IsGap, IsGreatestLeft, first_range}
use Rattle.mdmp_lister.specs.Addressing.{FetchesAside, IsStretch, begins_stretch, is_held, is_same_range, stretches_at}
use Rattle.mdmp_lister.specs.Meter.{BooksAside, MeterState, counts_of}

-- ---- counts

past : (ranges : List Range) (address m k : ℕ) → stretches_at ranges address m ≤ stretches_at ranges address (m + k)
unfolding stretches_at
past ranges address m zero =
    let same : m ≡ m + 0 = omega arith in
    subst (λ n. stretches_at ranges address m ≤ stretches_at ranges address n) same (omega arith)
past ranges address m (suc k) =
    let next : suc (m + k) ≡ m + suc k = omega arith in
    subst (λ n. stretches_at ranges address m ≤ stretches_at ranges address n) next (omega (arith, past ranges address m k))

pub stretches-within : (ranges : List Range) (address m n : ℕ) → m ≤ n → stretches_at ranges address m ≤ stretches_at ranges address n
stretches-within ranges address m n le =
    let all : m + (n - m) ≡ n = omega (arith, le) in
    subst (λ k. stretches_at ranges address m ≤ stretches_at ranges address k) all (past ranges address m (n - m))

one_begun : (ranges : List Range) (address d : ℕ) → begins_stretch ranges address d ≡ true → stretches_at ranges address (suc d) ≡ stretches_at ranges address d + 1
unfolding stretches_at
one_begun ranges address d begun = rw begun refl

-- a stretch that begins is one more
begun_more : (ranges : List Range) (address d count : ℕ) → begins_stretch ranges address d ≡ true → 0 < count → stretches_at ranges address d + 1 ≤ stretches_at ranges address (d + count)
begun_more ranges address d count begun some =
    let first = one_begun ranges address d begun in
    let rest = stretches-within ranges address (suc d) (d + count) (omega (arith, some)) in
    omega (arith, first, rest)

-- where the addresses before are of another range
pub begins_here : (ranges : List Range) (address d : ℕ) → is_held ranges (address + d) ≡ true
    → (0 < d → is_same_range (first_range ranges (address + (d - 1))) (first_range ranges (address + d)) ≡ false) → begins_stretch ranges address d ≡ true
begins_here ranges address zero held edge = held
begins_here ranges address (suc k) held edge =
    let before : suc k - 1 ≡ k = omega arith in
    let other : is_same_range (first_range ranges (address + k)) (first_range ranges (address + suc k)) ≡ false =
    subst (λ n. is_same_range (first_range ranges (address + n)) (first_range ranges (address + suc k)) ≡ false) before (edge (omega arith)) in
    rw (held, other) refl

-- ---- where a stretch ends

pub same_range : (q r : Range) → is_same_range (Some q) (Some r) ≡ true → q ≡ r
same_range q r is =
    let parts = and_parts (q.start == r.start) (q.length == r.length && q.offset == r.offset) is in
    let rest = and_parts (q.length == r.length) (q.offset == r.offset) parts.1 in
    let start : q.start ≡ r.start = eqb-true q.start r.start parts.0 in
    let long : q.length ≡ r.length = eqb-true q.length r.length rest.0 in
    let offset : q.offset ≡ r.offset = eqb-true q.offset r.offset rest.1 in
    λ i. record { start = start i; length = long i; offset = offset i }

never_longer : (ranges : List Range) (address n : ℕ) (r : Range) → IsGreatestLeft ranges address r n → first_range ranges (address + n) ≡ Some r → ⊥
never_longer ranges address n r left next =
    let all : (k : ℕ) → k < n + 1 → first_range ranges (address + k) ≡ Some r =
    λ k lt. elim (cases_lt k n) [
      | inl before ↦ left.same k before
      | inr at ↦ let here : n ≡ k = omega (arith, lt, at) in subst (λ m. first_range ranges (address + m) ≡ Some r) here next
    ] in
    let more : n + 1 ≤ n = left.greatest (n + 1) all in
    omega (arith, more)

other_range : (ranges : List Range) (address n : ℕ) (r q : Range) → IsGreatestLeft ranges address r n → first_range ranges (address + n) ≡ Some q
    → (b : Bool) → is_same_range (Some r) (Some q) ≡ b → is_same_range (Some r) (Some q) ≡ false
other_range ranges address n r q left next false is = is
other_range ranges address n r q left next true is = absurd (never_longer ranges address n r left (next ∙ ap Some (sym (same_range r q is))))

edge_behind : (ranges : List Range) (address n : ℕ) (r : Range) → IsGreatestLeft ranges address r n → (o : Option Range) → first_range ranges (address + n) ≡ o
    → is_same_range (Some r) (first_range ranges (address + n)) ≡ false
edge_behind ranges address n r left None next = rw next refl
edge_behind ranges address n r left (Some q) next = rw next (other_range ranges address n r q left next (is_same_range (Some r) (Some q)) refl)

pub edge_of_range : (ranges : List Range) (address n : ℕ) (r : Range) → IsGreatestLeft ranges address r n → 0 < n
    → is_same_range (first_range ranges (address + (n - 1))) (first_range ranges (address + n)) ≡ false
edge_of_range ranges address n r left some =
    let last : first_range ranges (address + (n - 1)) ≡ Some r = left.same (n - 1) (omega (arith, some)) in
    rw last (edge_behind ranges address n r left (first_range ranges (address + n)) refl)

pub edge_of_gap : (ranges : List Range) (address n : ℕ) → IsGap ranges address n → 0 < n
    → is_same_range (first_range ranges (address + (n - 1))) (first_range ranges (address + n)) ≡ false
edge_of_gap ranges address n gap some =
    let last : first_range ranges (address + (n - 1)) ≡ None = gap.none (n - 1) (omega (arith, some)) in
    rw last refl

-- ---- what is fetched

pub fetches-within : (m n : ℕ) (a b : MeterState) → m ≤ n → FetchesAside m a.source b.source (counts_of a) (counts_of b) → FetchesAside n a.source b.source (counts_of a) (counts_of b)
fetches-within m n a b le fetches = record { calls_are = omega (arith, le, fetches.calls_are); aside = omega (arith, le, fetches.aside) }

-- a stretch is read by one fetch, and by none where no range holds it
pub stretch_fetched : (ranges : List Range) (address d count n : ℕ) (offset : Option ℕ) (a b c : MeterState) → IsStretch ranges (address + d) offset count → 0 < count
    → (0 < d → is_same_range (first_range ranges (address + (d - 1))) (first_range ranges (address + d)) ≡ false)
    → FetchesAside (stretches_at ranges address d) a.source b.source (counts_of a) (counts_of b) → BooksAside 1 n b c → (offset ≡ None → c ≡ b)
    → FetchesAside (stretches_at ranges address (d + count)) a.source c.source (counts_of a) (counts_of c)
stretch_fetched ranges address d count n None a b c stretch some edge first books none =
    subst (λ (m : MeterState). FetchesAside (stretches_at ranges address (d + count)) a.source m.source (counts_of a) (counts_of m)) (sym (none refl))
    (fetches-within (stretches_at ranges address d) (stretches_at ranges address (d + count)) a b (stretches-within ranges address d (d + count) (omega arith)) first)
stretch_fetched ranges address d count n (Some at) a b c stretch some edge first books none =
    let here : address + d + 0 ≡ address + d = omega arith in
    let held : is_held ranges (address + d) ≡ true = subst (λ x. is_held ranges x ≡ true) here (stretch.held 0 some) in
    let more = begun_more ranges address d count (begins_here ranges address d held edge) some in
    record { calls_are = omega (arith, first.calls_are, books.source_calls, more); aside = omega (arith, first.aside, books.spends.aside_calls, more) }
