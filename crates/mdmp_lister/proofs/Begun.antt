-- How many stretches begin in a block of addresses, and that each is read by one fetch.
use Rattle.std.proofs.Common.{◌≡◌, ◌≤◌, ◌<◌, ◌+◌, ◌-◌, ◌/◌, ◌%◌, ◌∙◌, ◌∷◌, ◌++◌, [], ℕ, zero, suc, List, Option, None, Some, Bool, true, false, ap, arith, drop, get_or, inl, inr, is_some, length, refl, subst, sym, take}
use Rattle.std.specs.Prelude.{◌&&◌, if◌then◌else◌, slice_get}
use Rattle.std.proofs.lemmas.Bool.{cases_Bool, cases_lt, false≢true}
use Rattle.std.proofs.lemmas.List.{append_assoc, take-append-drop}
use Rattle.mdmp_map.specs.declared.paint.PaintedRun.{PaintedRun}
use Rattle.mdmp_map.specs.declared.range.Range.{Range}
use Rattle.mdmp_map.specs.Painting.{IsRun, PaintState, is_held_at, is_painted}
use Rattle.mdmp_map.specs.RangeLaws.{first_range-behind, first_range-holds, first_range-more, first_range-passes, first_range_holds}
use Rattle.mdmp_map.specs.Ranges.{first_range, holds}
use Rattle.mdmp_lister.specs.Addressing.{FetchesAside, begins_stretch, is_held, is_same_range, stretches_at}
use Rattle.mdmp_lister.specs.Meter.{BooksAside, MeterState, counts_of}
use Rattle.mdmp_lister.specs.Painting.{AreCellsTo, ArePainted, FetchesBegun, count_begun}
use Rattle.mdmp_lister.proofs.Painted.{none_is, some_is, take_next}
use Rattle.mdmp_lister.proofs.Stretches.{begins_here, fetches-within, same_range, stretches-within}

-- ---- where a run begins, a stretch does

-- a place at which no run of the range goes on: it is the first of the block, or painted if the range holds it
abbrev pub IsPassedAt : PaintState → Range → ℕ → Type 0
IsPassedAt s r from = 0 < from → from < s.count → is_held_at s r from ≡ true → is_painted s from ≡ true

-- a range that is found for one address is not behind all that hold another of its own
held_too : (seen : List Range) (r : Range) (a b : ℕ) → first_range seen a ≡ Some r → holds b r ≡ true → is_held seen b ≡ true
held_too [] r a b is here = cc
held_too (q ∷ seen) r a b is here = elim (cases_Bool (holds b q)) [
  | inl first ↦ ap is_some (first_range-holds b q seen first)
  | inr other ↦ elim (cases_Bool (holds a q)) [
    | inl found ↦
        let same : q ≡ r = let e = first_range-holds a q seen found in cc in
        absurd (false≢true (sym other ∙ subst (λ x. holds b x ≡ true) (sym same) here))
    | inr past ↦
        ap is_some (first_range-passes b q seen other)
        ∙ held_too seen r a b (sym (first_range-passes a q seen past) ∙ is) here
  ]
]

-- no range before it holds the first place of a run
unseen : (from : ℕ) (content : Option (List ℕ)) (seen : List Range) (r : Range) (s : PaintState) (run : PaintedRun) (bytes : List ℕ) (known : List Bool) → length known ≡ length bytes
    → ArePainted s known → IsRun s r from run → AreCellsTo from content seen r s.start bytes known → is_held seen (s.start + run.first) ≡ false
unseen from content seen r s run bytes known same painted is are =
    let place : run.first < s.count = omega (arith, is.some, is.within) in
    sym (are.behind run.first is.order (omega (arith, place, painted.count, same))).held ∙ sym (painted.same run.first place) ∙ is.free run.first (omega arith) is.some

-- the place before it has another range
another_before : (from : ℕ) (content : Option (List ℕ)) (seen rest : List Range) (r : Range) (s : PaintState) (run : PaintedRun) (bytes : List ℕ) (known : List Bool) → length known ≡ length bytes
    → ArePainted s known → IsRun s r from run → AreCellsTo from content seen r s.start bytes known
    → IsPassedAt s r from → (k : ℕ) → run.first ≡ k + 1
    → first_range (seen ++ r ∷ rest) (s.start + k) ≡ Some r → ⊥
another_before from content seen rest r s run bytes known same painted is are edge k before found =
    let inside : run.first < s.count = omega (arith, is.some, is.within) in
    let held : is_held_at s r k ≡ true = first_range_holds (s.start + k) r (seen ++ r ∷ rest) found in
    elim (cases_lt k from) [
      | inl past ↦
          let at : run.first ≡ from = omega (arith, past, before, is.order) in
          let marked : is_painted s run.first ≡ true =
          subst (λ n. is_painted s n ≡ true) (sym at)
          (edge (omega (arith, at, before)) (omega (arith, at, inside)) (subst (λ n. is_held_at s r n ≡ true) at (is.held run.first (omega arith) is.some))) in
          false≢true (sym (is.free run.first (omega arith) is.some) ∙ marked)
      | inr ahead ↦
          let within : k < s.count = omega (arith, before, inside) in
          let marked : is_painted s k ≡ true = is.passed k ahead (omega (arith, before)) held in
          let some : is_held seen (s.start + k) ≡ true =
          sym (are.behind k ahead (omega (arith, within, painted.count, same))).held ∙ sym (painted.same k within) ∙ marked in
          let of = some_is (first_range seen (s.start + k)) some in
          let r_is : of.0 ≡ r = let e = first_range-more (s.start + k) of.0 seen (r ∷ rest) of.1 in cc in
          let seen_r : first_range seen (s.start + k) ≡ Some r = of.1 ∙ ap Some r_is in
          false≢true (sym (unseen from content seen r s run bytes known same painted is are)
          ∙ held_too seen r (s.start + k) (s.start + run.first) seen_r (is.held run.first (omega arith) is.some))
    ]

-- so another than the range of the run
differs : (o : Option Range) (r : Range) → (o ≡ Some r → ⊥) → (b : Bool) → is_same_range o (Some r) ≡ b → is_same_range o (Some r) ≡ false
differs None r other b is = refl
differs (Some q) r other false is = is
differs (Some q) r other true is = absurd (other (ap Some (same_range q r is)))

pub run_begins : (from : ℕ) (content : Option (List ℕ)) (seen rest : List Range) (r : Range) (s : PaintState) (run : PaintedRun) (bytes : List ℕ) (known : List Bool) → length known ≡ length bytes
    → ArePainted s known → IsRun s r from run → AreCellsTo from content seen r s.start bytes known
    → IsPassedAt s r from → begins_stretch (seen ++ r ∷ rest) s.start run.first ≡ true
run_begins from content seen rest r s run bytes known same painted is are edge =
    let ranges = seen ++ r ∷ rest in
    let none = none_is (first_range seen (s.start + run.first)) (unseen from content seen r s run bytes known same painted is are) in
    let found : first_range ranges (s.start + run.first) ≡ Some r =
    first_range-behind (s.start + run.first) seen (r ∷ rest) none ∙ first_range-holds (s.start + run.first) r rest (is.held run.first (omega arith) is.some) in
    begins_here ranges s.start run.first (ap is_some found) (λ more.
    let before : run.first ≡ run.first - 1 + 1 = omega (arith, more) in
    let last : Option Range = first_range ranges (s.start + (run.first - 1)) in
    rw found (differs last r (another_before from content seen rest r s run bytes known same painted is are edge (run.first - 1) before) (is_same_range last (Some r)) refl))

-- ---- how many begin

counts_more : (was now begun : Bool) → (was ≡ true → now ≡ true) → (if was && begun then 1 else 0) ≤ (if now && begun then 1 else 0)
counts_more false now begun stays = omega arith
counts_more true true begun stays = omega arith
counts_more true false begun stays = absurd (false≢true (stays refl))

begun_more : (ranges : List Range) (address : ℕ) (known also : List Bool) (n : ℕ) → ((k : ℕ) → get_or known k false ≡ true → get_or also k false ≡ true)
    → count_begun ranges address known n ≤ count_begun ranges address also n
unfolding count_begun
begun_more ranges address known also zero stays = omega arith
begun_more ranges address known also (suc n) stays =
    omega (arith, begun_more ranges address known also n stays, counts_more (get_or known n false) (get_or also n false) (begins_stretch ranges address n) (stays n))

one_more : (was now begun : Bool) → was ≡ false → now ≡ true → begun ≡ true → (if was && begun then 1 else 0) + 1 ≤ (if now && begun then 1 else 0)
one_more false true true was_is now_is begun_is = omega arith
one_more true now begun was_is now_is begun_is = absurd (false≢true (sym was_is))
one_more false false begun was_is now_is begun_is = absurd (false≢true now_is)
one_more false true false was_is now_is begun_is = absurd (false≢true begun_is)

run_begun : (ranges : List Range) (address : ℕ) (known also : List Bool) (first n : ℕ) → ((k : ℕ) → get_or known k false ≡ true → get_or also k false ≡ true) → first < n
    → get_or known first false ≡ false → get_or also first false ≡ true → begins_stretch ranges address first ≡ true
    → count_begun ranges address known n + 1 ≤ count_begun ranges address also n
unfolding count_begun
run_begun ranges address known also first zero stays lt was now begun = absurd (omega (arith, lt))
run_begun ranges address known also first (suc n) stays lt was now begun = elim (cases_lt first n) [
  | inl before ↦
      omega (arith, run_begun ranges address known also first n stays before was now begun, counts_more (get_or known n false) (get_or also n false) (begins_stretch ranges address n) (stays n))
  | inr at ↦
      let here : first ≡ n = omega (arith, lt, at) in
      omega (
        arith,
        begun_more ranges address known also n stays,
        one_more (get_or known n false) (get_or also n false) (begins_stretch ranges address n) (subst (λ k. get_or known k false ≡ false) here was)
            (subst (λ k. get_or also k false ≡ true) here now) (subst (λ k. begins_stretch ranges address k ≡ true) here begun),
      )
]

counts_some : (was begun : Bool) → (if was && begun then 1 else 0) ≤ (if begun then 1 else 0)
counts_some false begun = omega arith
counts_some true begun = omega arith

pub begun_within : (ranges : List Range) (address : ℕ) (known : List Bool) (n : ℕ) → count_begun ranges address known n ≤ stretches_at ranges address n
unfolding count_begun stretches_at
begun_within ranges address known zero = omega arith
begun_within ranges address known (suc n) = omega (arith, begun_within ranges address known n, counts_some (get_or known n false) (begins_stretch ranges address n))

-- ---- what is fetched

pub fetches_then : (m n : ℕ) (a b c : MeterState) → FetchesAside m a.source b.source (counts_of a) (counts_of b) → FetchesAside n b.source c.source (counts_of b) (counts_of c)
    → FetchesAside (m + n) a.source c.source (counts_of a) (counts_of c)
fetches_then m n a b c first next = record { calls_are = omega (arith, first.calls_are, next.calls_are); aside = omega (arith, first.aside, next.aside) }

-- a run is read by one fetch
pub run_fetched : (from : ℕ) (content : Option (List ℕ)) (seen rest : List Range) (r : Range) (s : PaintState) (run : PaintedRun) (bytes : List ℕ) (address n : ℕ)
    (known also then_known : List Bool) (a b c : MeterState) → s.start ≡ address → length also ≡ length bytes → ArePainted s also → IsRun s r from run
    → AreCellsTo from content seen r address bytes also → IsPassedAt s r from → length then_known ≡ length also
    → ((k : ℕ) → run.first ≤ k → k < run.end → get_or then_known k false ≡ true)
    → ((k : ℕ) → k < run.first → get_or then_known k false ≡ get_or also k false)
    → ((k : ℕ) → run.end ≤ k → get_or then_known k false ≡ get_or also k false)
    → FetchesBegun (seen ++ r ∷ rest) address known also a b → BooksAside 1 n b c → FetchesBegun (seen ++ r ∷ rest) address known then_known a c
run_fetched from content seen rest r s run bytes address n known also then_known a b c start long painted is are edge same known_is below behind first books =
    let ranges = seen ++ r ∷ rest in
    let within : run.first < length also = omega (arith, is.some, is.within, painted.count) in
    let free : get_or also run.first false ≡ false = sym (painted.same run.first (omega (arith, is.some, is.within))) ∙ is.free run.first (omega arith) is.some in
    let begun : begins_stretch ranges address run.first ≡ true =
    subst (λ x. begins_stretch ranges x run.first ≡ true) start
    (run_begins from content seen rest r s run bytes also long painted is (subst (λ x. AreCellsTo from content seen r x bytes also) (sym start) are) edge) in
    let stays : (k : ℕ) → get_or also k false ≡ true → get_or then_known k false ≡ true =
    λ k was. elim (cases_lt k run.first) [
      | inl before ↦ below k before ∙ was
      | inr at ↦ elim (cases_lt k run.end) [ inl in_run ↦ known_is k at in_run | inr past ↦ behind k past ∙ was ]
    ] in
    let more : count_begun ranges address also (length also) + 1 ≤ count_begun ranges address then_known (length also) =
    run_begun ranges address also then_known run.first (length also) stays within free (known_is run.first (omega arith) is.some) begun in
    let all : count_begun ranges address also (length also) + 1 ≤ count_begun ranges address then_known (length then_known) =
    subst (λ m. count_begun ranges address also (length also) + 1 ≤ count_begun ranges address then_known m) (sym same) more in
    record {
      count = first.count + 1;
      newly = omega (arith, first.newly, all);
      fetches = fetches_then first.count 1 a b c first.fetches (record { calls_are = books.source_calls; aside = books.spends.aside_calls });
    }

-- before any was
pub none_fetched : (ranges : List Range) (address : ℕ) (known : List Bool) (a : MeterState) → FetchesBegun ranges address known known a a
none_fetched ranges address known a = record {
  count = 0;
  newly = omega arith;
  fetches = record { calls_are = omega arith; aside = omega arith };
}

-- ranges one after another
fetched_then : (ranges : List Range) (address : ℕ) (known also : List Bool) (a b c : MeterState)
    → FetchesAside (count_begun ranges address known (length known)) a.source b.source (counts_of a) (counts_of b) → FetchesBegun ranges address known also b c
    → FetchesAside (count_begun ranges address also (length also)) a.source c.source (counts_of a) (counts_of c)
fetched_then ranges address known also a b c first next =
    let both = fetches_then (count_begun ranges address known (length known)) next.count a b c first next.fetches in
    record { calls_are = omega (arith, next.newly, both.calls_are); aside = omega (arith, next.newly, both.aside) }

-- those that no range before holds, and the next range
pub ranges_at : (ranges : List Range) (i : ℕ) (r : Range) → slice_get ranges i ≡ Some r → take i ranges ++ r ∷ drop (i + 1) ranges ≡ ranges
ranges_at ranges i r is =
    sym (append_assoc (take i ranges) (r ∷ []) (drop (i + 1) ranges))
    ∙ ap (λ (x : List Range). x ++ drop (i + 1) ranges) (sym (take_next ranges i r is))
    ∙ take-append-drop (i + 1) ranges

-- so the next range was read
pub range_fetched : (ranges : List Range) (i : ℕ) (r : Range) (start address : ℕ) (known also : List Bool) (a b c : MeterState) → slice_get ranges i ≡ Some r → start ≡ address
    → FetchesAside (count_begun ranges address known (length known)) a.source b.source (counts_of a) (counts_of b)
    → FetchesBegun (take i ranges ++ r ∷ drop (i + 1) ranges) start known also b c
    → FetchesAside (count_begun ranges address also (length also)) a.source c.source (counts_of a) (counts_of c)
range_fetched ranges i r start address known also a b c at start_is first next =
    fetched_then ranges address known also a b c first
    (subst (λ rs. FetchesBegun rs address known also b c) (ranges_at ranges i r at)
    (subst (λ x. FetchesBegun (take i ranges ++ r ∷ drop (i + 1) ranges) x known also b c) start_is next))

-- a block was read
pub block_fetched : (ranges : List Range) (address n : ℕ) (known : List Bool) (a b : MeterState) → length known ≡ n
    → FetchesAside (count_begun ranges address known (length known)) a.source b.source (counts_of a) (counts_of b) → FetchesAside (stretches_at ranges address n) a.source b.source (counts_of a) (counts_of b)
block_fetched ranges address n known a b same fetches =
    fetches-within (count_begun ranges address known (length known)) (stretches_at ranges address n) a b
    (subst (λ m. count_begun ranges address known (length known) ≤ stretches_at ranges address m) same (begun_within ranges address known (length known))) fetches

-- ---- blocks one after another

begins_behind : (ranges : List Range) (address d k : ℕ) → begins_stretch ranges (address + d) (suc k) ≡ begins_stretch ranges address (suc (d + k))
begins_behind ranges address d k =
    let before : address + d + k ≡ address + (d + k) = omega arith in
    let here : address + d + suc k ≡ address + suc (d + k) = omega arith in
    rw (before, here) refl

counts_one : (b : Bool) → (if b then 1 else 0) ≤ 1
counts_one true = omega arith
counts_one false = omega arith

stretches_none : (ranges : List Range) (address : ℕ) → stretches_at ranges address 0 ≡ 0
unfolding stretches_at
stretches_none ranges address = refl

-- a stretch that goes on from one block to the next is counted in each
pub stretches_then : (ranges : List Range) (address d n : ℕ) → stretches_at ranges address d + stretches_at ranges (address + d) n ≤ stretches_at ranges address (d + n) + 1
unfolding stretches_at
stretches_then ranges address d zero =
    let same : d + 0 ≡ d = omega arith in
    rw same (omega arith)
stretches_then ranges address d (suc zero) =
    let next : d + suc zero ≡ suc d = omega arith in
    rw next (omega (arith, counts_one (begins_stretch ranges (address + d) zero)))
stretches_then ranges address d (suc (suc k)) =
    let next : d + suc (suc k) ≡ suc (d + suc k) = omega arith in
    let place : d + suc k ≡ suc (d + k) = omega arith in
    let begun : begins_stretch ranges (address + d) (suc k) ≡ begins_stretch ranges address (d + suc k) =
    begins_behind ranges address d k ∙ ap (begins_stretch ranges address) (sym place) in
    rw (next, begun) (omega (arith, stretches_then ranges address d (suc k)))

-- whole blocks were read, and the next one
blocks_more : (ranges : List Range) (address done size : ℕ) → done % 32768 ≡ 0 → 0 < size → size ≤ 32768
    → stretches_at ranges address done + (done - 1) / 32768 + stretches_at ranges (address + done) size ≤ stretches_at ranges address (done + size) + (done + size - 1) / 32768
blocks_more ranges address zero size whole some few =
    let here : address + 0 ≡ address = omega arith in
    let all : 0 + size ≡ size = omega arith in
    let none = stretches_none ranges address in
    rw (here, all, none) (omega arith)
blocks_more ranges address (suc d) size whole some few =
    omega (arith, stretches_then ranges address (suc d) size, whole, some, few)

pub blocks_fetched : (ranges : List Range) (address from done size n : ℕ) (a b c : MeterState) → done % 32768 ≡ 0 → 0 < size → size ≤ 32768 → from ≡ address → n ≡ size
    → FetchesAside (stretches_at ranges address done + (done - 1) / 32768) a.source b.source (counts_of a) (counts_of b)
    → FetchesAside (stretches_at ranges (from + done) n) b.source c.source (counts_of b) (counts_of c)
    → FetchesAside (stretches_at ranges address (done + size) + (done + size - 1) / 32768) a.source c.source (counts_of a) (counts_of c)
blocks_fetched ranges address from done size n a b c whole some few from_is long first next =
    let here = stretches_at ranges address done + (done - 1) / 32768 in
    let more = stretches_at ranges (from + done) n in
    let same : more ≡ stretches_at ranges (address + done) size = rw (from_is, long) refl in
    fetches-within (here + more) (stretches_at ranges address (done + size) + (done + size - 1) / 32768) a c
    (omega (arith, same, blocks_more ranges address done size whole some few)) (fetches_then here more a b c first next)

-- of at most so many addresses
pub blocks_within : (ranges : List Range) (address done n : ℕ) (a b : MeterState) → done ≤ n
    → FetchesAside (stretches_at ranges address done + (done - 1) / 32768) a.source b.source (counts_of a) (counts_of b)
    → FetchesAside (stretches_at ranges address n + (n - 1) / 32768) a.source b.source (counts_of a) (counts_of b)
blocks_within ranges address done n a b le fetches =
    fetches-within (stretches_at ranges address done + (done - 1) / 32768) (stretches_at ranges address n + (n - 1) / 32768) a b
    (omega (arith, stretches-within ranges address done n le, le)) fetches
