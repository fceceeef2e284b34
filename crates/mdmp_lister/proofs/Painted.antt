-- A block of addresses that is read range after range.
use Rattle.std.proofs.Common.{◌≡◌, ◌≤◌, ◌<◌, ◌+◌, ◌-◌, ◌∙◌, ◌∷◌, ◌++◌, [], ℕ, zero, suc, List, Option, None, Some, Result, Ok, Err, Bool, true, false, ap, arith, drop, get_or, inl, inr, is_some, length, map, refl, replicate, subst, sym, take, unwrap_or}
use Rattle.std.specs.Prelude.{All, IfOk, OnOk, option_map, slice_get, slice_index}
use borrow.Rule.Slice.PartMut.{post_of, put_mid}
use Rattle.std.proofs.lemmas.Bool.{cases_Bool, cases_lt}
use Rattle.std.proofs.lemmas.List.{ext_get_or, get_or-append_right, get_or-drop, get_or-replicate, get_or-take, get_or_append_left, get_or-map, length-drop, length-map, length-replicate, length-take-le, take-append-drop, take_more}
use Rattle.std.proofs.lemmas.List.Elements.{All-get_or}
use Rattle.std.proofs.lemmas.List.FromFn.{fill_by_all}
use Rattle.std.proofs.lemmas.Option.{get_or_from_slice_get, slice_get_within}
use Rattle.mdmp_source.specs.Range.{bytes_at}
use Rattle.mdmp_source.specs.SourceLaws.{fetches_then}
use Rattle.mdmp_map.specs.declared.paint.PaintedRun.{PaintedRun}
use Rattle.mdmp_map.specs.declared.range.Range.{Range}
use Rattle.mdmp_map.specs.Painting.{IsPassed, IsRun, PaintState, Paints, is_held_at, is_painted}
use Rattle.mdmp_map.specs.RangeLaws.{first_range-behind, first_range-more, holds_parts}
use Rattle.mdmp_map.specs.Ranges.{IsWithin, byte_at, first_range, holds}
use Rattle.mdmp_lister.specs.Addressing.{ReadsAddresses, ReadsCells, cell, cells, is_held}
use Rattle.mdmp_lister.specs.Fault.{IsCaused}
use Rattle.mdmp_lister.specs.Meter.{BooksAside, MeterState, SpendsAside, counts_of}
use Rattle.mdmp_lister.specs.declared.meter.MeterCounts.{MeterCounts}
use Rattle.mdmp_lister.specs.Painting.{AreCells, AreCellsTo, ArePainted, BooksNewly, IsCell, IsCellAt, count_known}
use Rattle.mdmp_lister.proofs.Fetches.{FetchesAtMost-within}

-- ---- a part of a list that is written

pub get_or_put_below : {X : Type 0} (a n : ℕ) (xs ys : List X) (k : ℕ) (d : X) → a ≤ length xs → k < a → get_or (put_mid a n xs ys) k d ≡ get_or xs k d
get_or_put_below a n xs ys k d within below =
    get_or_append_left (take a xs) (ys ++ post_of a n xs) d k (omega (arith, length-take-le a xs within, below)) ∙ get_or-take a xs k d below

pub get_or_put_in : {X : Type 0} (a n : ℕ) (xs ys : List X) (k : ℕ) (d : X) → a ≤ length xs → a ≤ k → k < a + length ys → get_or (put_mid a n xs ys) k d ≡ get_or ys (k - a) d
get_or_put_in a n xs ys k d within from below =
    get_or-append_right (take a xs) (ys ++ post_of a n xs) a k d (length-take-le a xs within) from
    ∙ get_or_append_left ys (post_of a n xs) d (k - a) (omega (arith, from, below))

pub get_or_put_behind : {X : Type 0} (a n : ℕ) (xs ys : List X) (k : ℕ) (d : X) → a ≤ length xs → length ys ≡ n → a + n ≤ k → get_or (put_mid a n xs ys) k d ≡ get_or xs k d
get_or_put_behind a n xs ys k d within same from =
    get_or-append_right (take a xs) (ys ++ post_of a n xs) a k d (length-take-le a xs within) (omega (arith, from))
    ∙ get_or-append_right ys (post_of a n xs) n (k - a) d same (omega (arith, from))
    ∙ get_or-drop n (drop a xs) (k - a - n) d
    ∙ get_or-drop a xs (n + (k - a - n)) d
    ∙ ap (λ i. get_or xs i d) (omega (arith, from))

-- ---- how many bytes are known

count-append : (xs ys : List Bool) → count_known (xs ++ ys) ≡ count_known xs + count_known ys
count-append [] ys = omega arith
count-append (x ∷ xs) ys = omega (arith, count-append xs ys)

count-known : (n : ℕ) → count_known (replicate n true) ≡ n
count-known zero = refl
count-known (suc n) = omega (arith, count-known n)

pub count-unknown : (n : ℕ) → count_known (replicate n false) ≡ 0
count-unknown zero = refl
count-unknown (suc n) = omega (arith, count-unknown n)

pub count-le : (known : List Bool) → count_known known ≤ length known
count-le [] = omega arith
count-le (true ∷ known) = omega (arith, count-le known)
count-le (false ∷ known) = omega (arith, count-le known)

pub count_put : (a n : ℕ) (xs : List Bool) → a + n ≤ length xs → ((k : ℕ) → a ≤ k → k < a + n → get_or xs k false ≡ false)
    → count_known (put_mid a n xs (replicate n true)) ≡ count_known xs + n
count_put a n xs within free =
    let part = take n (drop a xs) in
    let long : length part ≡ n = length-take-le n (drop a xs) (omega (arith, length-drop a xs, within)) in
    let middle : part ≡ replicate n false =
    ext_get_or false part (replicate n false) (omega (arith, long, length-replicate n false)) (λ k lt.
    get_or-take n (drop a xs) k false (omega (arith, lt, long)) ∙ get_or-drop a xs k false ∙ free (a + k) (omega arith) (omega (arith, lt, long)) ∙ sym (get_or-replicate n k false false (omega (arith, lt, long)))) in
    let none : count_known part ≡ 0 = ap count_known middle ∙ count-unknown n in
    let all : count_known xs ≡ count_known (take a xs) + count_known (drop a xs) = ap count_known (sym (take-append-drop a xs)) ∙ count-append (take a xs) (drop a xs) in
    let rest : count_known (drop a xs) ≡ count_known part + count_known (drop n (drop a xs)) =
    ap count_known (sym (take-append-drop n (drop a xs))) ∙ count-append part (drop n (drop a xs)) in
    omega (
      arith,
      count-append (take a xs) (replicate n true ++ drop n (drop a xs)),
      count-append (replicate n true) (drop n (drop a xs)),
      count-known n,
      none,
      all,
      rest,
    )

-- ---- one cell

pub some_is : (o : Option Range) → is_some o ≡ true → (q : Range) × (o ≡ Some q)
some_is None is = absurd (cc)
some_is (Some q) is = (q, refl)

pub none_is : (o : Option Range) → is_some o ≡ false → o ≡ None
none_is None is = refl
none_is (Some q) is = absurd (cc)

-- a cell that is known stays as it is, whatever ranges follow
pub cell_known : (content : Option (List ℕ)) (seen more : List Range) (a byte : ℕ) (is_known : Bool) → is_known ≡ true → IsCell content seen a byte is_known → IsCell content (seen ++ more) a byte is_known
cell_known content seen more a byte is_known known cell_is =
    let found = some_is (first_range seen a) (sym cell_is.held ∙ known) in
    let still : first_range (seen ++ more) a ≡ first_range seen a = first_range-more a found.0 seen more found.1 ∙ sym found.1 in
    record {
      held = cell_is.held ∙ ap is_some (sym still);
      zero = cell_is.zero;
      of_file = λ F is. cell_is.of_file F is ∙ ap (option_map (λ (q : Range). slice_index F (q.offset + (a - q.start)))) (sym still);
    }

-- so does one that the next range does not hold
pub cell_other : (content : Option (List ℕ)) (seen : List Range) (r : Range) (a byte : ℕ) (is_known : Bool) → holds a r ≡ false → IsCell content seen a byte is_known → IsCell content (seen ++ r ∷ []) a byte is_known
cell_other content seen r a byte is_known other cell_is = elim (cases_Bool is_known) [
  | inl known ↦ cell_known content seen (r ∷ []) a byte is_known known cell_is
  | inr unknown ↦
      let none : first_range seen a ≡ None = none_is (first_range seen a) (sym cell_is.held ∙ unknown) in
      let still : first_range (seen ++ r ∷ []) a ≡ first_range seen a = first_range-behind a seen (r ∷ []) none ∙ rw other (sym none) in
      record {
        held = cell_is.held ∙ ap is_some (sym still);
        zero = cell_is.zero;
        of_file = λ F is. cell_is.of_file F is ∙ ap (option_map (λ (q : Range). slice_index F (q.offset + (a - q.start)))) (sym still);
      }
]

-- one that the next range is the first to hold is read by it
pub cell_read : (content : Option (List ℕ)) (seen : List Range) (r : Range) (a byte : ℕ) → is_held seen a ≡ false → holds a r ≡ true
    → ((F : List ℕ) → content ≡ Some F → byte ≡ slice_index F (r.offset + (a - r.start))) → IsCell content (seen ++ r ∷ []) a byte true
cell_read content seen r a byte free here of_file =
    let none : first_range seen a ≡ None = none_is (first_range seen a) free in
    let is_first : first_range (seen ++ r ∷ []) a ≡ Some r = first_range-behind a seen (r ∷ []) none ∙ rw here refl in
    record {
      held = ap is_some (sym is_first);
      zero = λ not. absurd (cc);
      of_file = λ F is. ap Some (of_file F is) ∙ ap (option_map (λ (q : Range). slice_index F (q.offset + (a - q.start)))) (sym is_first);
    }

-- the same of an equal byte
cell_same : (content : Option (List ℕ)) (ranges : List Range) (a b c : ℕ) (k l : Bool) → b ≡ c → k ≡ l → IsCell content ranges a b k → IsCell content ranges a c l
cell_same content ranges a b c k l same also is =
    subst (λ x. IsCell content ranges a x l) same (subst (λ y. IsCell content ranges a b y) also is)

-- ---- the cells of a block

get_or-cells : (bytes : List ℕ) (known : List Bool) (k : ℕ) → length known ≡ length bytes → k < length bytes
    → get_or (cells bytes known) k None ≡ cell (slice_index bytes k) (get_or known k false)
get_or-cells [] known k same lt = absurd (omega (arith, lt))
get_or-cells (b ∷ bytes) [] k same lt = absurd (omega (arith, same))
get_or-cells (b ∷ bytes) (x ∷ known) zero same lt = refl
get_or-cells (b ∷ bytes) (x ∷ known) (suc k) same lt = get_or-cells bytes known k (omega (arith, same)) (omega (arith, lt))

length-cells : (bytes : List ℕ) (known : List Bool) → length known ≡ length bytes → length (cells bytes known) ≡ length bytes
length-cells [] known same = refl
length-cells (b ∷ bytes) [] same = absurd (omega (arith, same))
length-cells (b ∷ bytes) (x ∷ known) same = omega (arith, length-cells bytes known (omega (arith, same)))

cell_zero : (byte : ℕ) (is_known : Bool) → (is_known ≡ false → byte ≡ 0) → byte ≡ unwrap_or (cell byte is_known) 0
cell_zero byte true none = refl
cell_zero byte false none = none refl

-- what is known of each place is known of all
pub cells_read : (content : Option (List ℕ)) (ranges : List Range) (address : ℕ) (bytes : List ℕ) (known : List Bool) → length known ≡ length bytes
    → AreCells content ranges address bytes known → ReadsCells content ranges address bytes known
cells_read content ranges address bytes known same are =
    let n = length bytes in
    let all : List (Option ℕ) = cells bytes known in
    let long : length all ≡ n = length-cells bytes known same in
    record {
      held = fill_by_all (λ i. is_held ranges (address + i)) known n false same (λ k lt. (are k lt).held);
      zeros = ext_get_or 0 bytes (map (λ (c : Option ℕ). unwrap_or c 0) all) (sym long ∙ sym (length-map all (λ (c : Option ℕ). unwrap_or c 0))) (λ k lt.
          cell_zero (slice_index bytes k) (get_or known k false) (are k lt).zero
          ∙ ap (λ (c : Option ℕ). unwrap_or c 0) (sym (get_or-cells bytes known k same lt))
          ∙ sym (get_or-map (λ (c : Option ℕ). unwrap_or c 0) all k None 0 (omega (arith, lt, long))));
      of_file = λ F is. fill_by_all (λ i. byte_at F ranges (address + i)) all n None long (λ k lt. get_or-cells bytes known k same lt ∙ (are k lt).of_file F is);
    }

-- of no ranges
pub cells_none : (content : Option (List ℕ)) (address n m : ℕ) (bytes : List ℕ) (known : List Bool) → bytes ≡ replicate n 0 → known ≡ replicate m false → m ≡ n
    → AreCells content [] address bytes known
cells_none content address n m bytes known zeros unknown same k lt =
    let within : k < n = omega (arith, lt, ap length zeros, length-replicate {A = ℕ} n 0) in
    let byte : slice_index bytes k ≡ 0 = ap (λ (x : List ℕ). slice_index x k) zeros ∙ get_or-replicate n k 0 0 within in
    let none : get_or known k false ≡ false = ap (λ (x : List Bool). get_or x k false) unknown ∙ get_or-replicate m k false false (omega (arith, within, same)) in
    cell_same content [] (address + k) 0 (slice_index bytes k) false (get_or known k false) (sym byte) (sym none) (record { held = refl; zero = λ _. refl; of_file = λ F is. refl })

-- where each is known, of more ranges
pub cells_full : (content : Option (List ℕ)) (seen more : List Range) (s : PaintState) (bytes : List ℕ) (known : List Bool) → length known ≡ length bytes → ArePainted s known
    → ((k : ℕ) → k < s.count → is_painted s k ≡ true) → AreCells content seen s.start bytes known → AreCells content (seen ++ more) s.start bytes known
cells_full content seen more s bytes known same painted full are k lt =
    let within : k < s.count = omega (arith, lt, same, painted.count) in
    cell_known content seen more (s.start + k) (slice_index bytes k) (get_or known k false) (sym (painted.same k within) ∙ full k within) (are k lt)

-- ---- one range more

pub cells_from : (content : Option (List ℕ)) (seen : List Range) (r : Range) (address : ℕ) (bytes : List ℕ) (known : List Bool)
    → AreCells content seen address bytes known → AreCellsTo 0 content seen r address bytes known
cells_from content seen r address bytes known are = record { before = λ k lt within. absurd (omega (arith, lt)); behind = λ k from lt. are k lt }

-- a place that the range does not hold, or that is painted already
passed_cell : (content : Option (List ℕ)) (seen : List Range) (r : Range) (s : PaintState) (bytes : List ℕ) (known : List Bool) (k : ℕ) → k < s.count → ArePainted s known
    → (is_held_at s r k ≡ true → is_painted s k ≡ true) → IsCellAt content seen s.start bytes known k → IsCellAt content (seen ++ r ∷ []) s.start bytes known k
passed_cell content seen r s bytes known k within painted passed is = elim (cases_Bool (is_held_at s r k)) [
  | inl here ↦ cell_known content seen (r ∷ []) (s.start + k) (slice_index bytes k) (get_or known k false) (sym (painted.same k within) ∙ passed here) is
  | inr other ↦ cell_other content seen r (s.start + k) (slice_index bytes k) (get_or known k false) other is
]

pub cells_to : (from : ℕ) (content : Option (List ℕ)) (seen : List Range) (r : Range) (s : PaintState) (bytes : List ℕ) (known : List Bool) → length known ≡ length bytes
    → ArePainted s known → IsPassed s r from s.count → AreCellsTo from content seen r s.start bytes known → AreCells content (seen ++ r ∷ []) s.start bytes known
cells_to from content seen r s bytes known same painted passed are k lt = elim (cases_lt k from) [
  | inl before ↦ are.before k before lt
  | inr behind ↦
      let within : k < s.count = omega (arith, lt, same, painted.count) in
      passed_cell content seen r s bytes known k within painted (passed k behind within) (are.behind k behind lt)
]

-- a run was read
pub record IsRunRead (content : Option (List ℕ)) (run : PaintedRun) (bytes now : List ℕ) (known also : List Bool) : Type 0 where
  pub known_is : (k : ℕ) → run.first ≤ k → k < run.end → get_or also k false ≡ true
  pub known_below : (k : ℕ) → k < run.first → get_or also k false ≡ get_or known k false
  pub known_behind : (k : ℕ) → run.end ≤ k → get_or also k false ≡ get_or known k false
  pub bytes_are : (F : List ℕ) → content ≡ Some F → (k : ℕ) → run.first ≤ k → k < run.end → slice_index now k ≡ slice_index F (run.offset + (k - run.first))
  pub bytes_below : (k : ℕ) → k < run.first → slice_index now k ≡ slice_index bytes k
  pub bytes_behind : (k : ℕ) → run.end ≤ k → slice_index now k ≡ slice_index bytes k

pub cells_run : (from : ℕ) (content : Option (List ℕ)) (seen : List Range) (r : Range) (s : PaintState) (run : PaintedRun) (bytes now : List ℕ) (known also : List Bool) → length known ≡ length bytes
    → length now ≡ length bytes → ArePainted s known → IsRun s r from run → IsRunRead content run bytes now known also
    → AreCellsTo from content seen r s.start bytes known → AreCellsTo run.end content seen r s.start now also
cells_run from content seen r s run bytes now known also same long painted is read are = record {
  before = λ k lt inside.
      let within : k < length bytes = omega (arith, inside, long) in
      elim (cases_lt k run.first) [
        | inl below ↦
            cell_same content (seen ++ r ∷ []) (s.start + k) (slice_index bytes k) (slice_index now k) (get_or known k false) (get_or also k false) (sym (read.bytes_below k below)) (sym (read.known_below k below))
            (elim (cases_lt k from) [
              | inl before ↦ are.before k before within
              | inr behind ↦
                  passed_cell content seen r s bytes known k (omega (arith, within, same, painted.count)) painted (is.passed k behind below) (are.behind k behind within)
            ])
        | inr at ↦
            let here = is.held k at lt in
            let parts = holds_parts (s.start + k) r here in
            let place : k < s.count = omega (arith, within, same, painted.count) in
            let free : is_held seen (s.start + k) ≡ false = sym ((are.behind k (omega (arith, at, is.order)) within).held) ∙ sym (painted.same k place) ∙ is.free k at lt in
            let offset : run.offset + (k - run.first) ≡ r.offset + (s.start + k - r.start) = omega (arith, is.offset, parts.1, at) in
            cell_same content (seen ++ r ∷ []) (s.start + k) (slice_index now k) (slice_index now k) true (get_or also k false) refl (sym (read.known_is k at lt))
            (cell_read content seen r (s.start + k) (slice_index now k) free here (λ F known_file. read.bytes_are F known_file k at lt ∙ ap (slice_index F) offset))
      ];
  behind = λ k at inside.
      cell_same content seen (s.start + k) (slice_index bytes k) (slice_index now k) (get_or known k false) (get_or also k false) (sym (read.bytes_behind k at)) (sym (read.known_behind k at))
      (are.behind k (omega (arith, at, is.order, is.some)) (omega (arith, inside, long)));
}

-- what is painted is known, when the run is
pub painted_run : (s t : PaintState) (run : PaintedRun) (known also : List Bool) → ArePainted s known → Paints run.first run.end s t → t.count ≡ s.count → length also ≡ length known
    → ((k : ℕ) → run.first ≤ k → k < run.end → get_or also k false ≡ true)
    → ((k : ℕ) → k < run.first → get_or also k false ≡ get_or known k false)
    → ((k : ℕ) → run.end ≤ k → get_or also k false ≡ get_or known k false) → ArePainted t also
painted_run s t run known also painted paints same long is below behind = record {
  count = same ∙ painted.count ∙ sym long;
  same = λ k lt.
      let within : k < s.count = omega (arith, lt, same) in
      elim (cases_lt k run.first) [
        | inl before ↦ paints.below k before ∙ painted.same k within ∙ sym (below k before)
        | inr at ↦ elim (cases_lt k run.end) [
          | inl in_run ↦ paints.painted k at in_run ∙ sym (is k at in_run)
          | inr past ↦ paints.behind k past ∙ painted.same k within ∙ sym (behind k past)
        ]
      ];
}

-- the bytes of a run stand inside the file
pub run_inside : (s : PaintState) (r : Range) (from size : ℕ) (run : PaintedRun) → IsRun s r from run → IsWithin size r → run.offset + (run.end - run.first) ≤ size
run_inside s r from size run is within =
    let first = holds_parts (s.start + run.first) r (is.held run.first (omega arith) is.some) in
    let last = holds_parts (s.start + (run.end - 1)) r (is.held (run.end - 1) (omega (arith, is.some)) (omega (arith, is.some))) in
    omega (arith, first.1, last.2, is.offset, is.some, within)

-- ---- what is booked

pub spends_then : (m n : ℕ) (a b c : MeterCounts) → SpendsAside m m a b → SpendsAside n n b c → SpendsAside (m + n) (m + n) a c
spends_then m n a b c first next = record {
  aside = omega (arith, first.aside, next.aside);
  more = omega (arith, first.more, next.more);
  aside_calls = omega (arith, first.aside_calls, next.aside_calls);
  more_aside_calls = omega (arith, first.more_aside_calls, next.more_aside_calls);
  same_fetched = next.same_fetched ∙ first.same_fetched;
  same_calls = next.same_calls ∙ first.same_calls;
  same_names = next.same_names ∙ first.same_names;
  same_start = next.same_start ∙ first.same_start;
  same_budget = next.same_budget ∙ first.same_budget;
  same_asked = next.same_asked ∙ first.same_asked;
}

pub books_then : (m n : ℕ) (a b c : MeterState) → BooksAside m m a b → BooksAside n n b c → BooksAside (m + n) (m + n) a c
books_then m n a b c first next = record {
  fetches = fetches_then m n a.source b.source c.source first.fetches next.fetches;
  source_calls = omega (arith, first.source_calls, next.source_calls);
  spends = spends_then m n (counts_of a) (counts_of b) (counts_of c) first.spends next.spends;
}

pub books_within : (l k m n : ℕ) (a b : MeterState) → l ≤ k → m ≤ n → BooksAside l m a b → BooksAside k n a b
books_within l k m n a b few le books = record {
  fetches = FetchesAtMost-within m n a.source b.source le books.fetches;
  source_calls = omega (arith, few, books.source_calls);
  spends = record {
    aside = omega (arith, le, books.spends.aside);
    more = books.spends.more;
    aside_calls = omega (arith, few, books.spends.aside_calls);
    more_aside_calls = books.spends.more_aside_calls;
    same_fetched = books.spends.same_fetched;
    same_calls = books.spends.same_calls;
    same_names = books.spends.same_names;
    same_start = books.spends.same_start;
    same_budget = books.spends.same_budget;
    same_asked = books.spends.same_asked;
  };
}

pub newly_then : (n : ℕ) (known also then_known : List Bool) (a b c : MeterState) → BooksNewly known also a b → count_known then_known ≡ count_known also + n → BooksAside n n b c
    → BooksNewly known then_known a c
newly_then n known also then_known a b c first more books = record {
  count = first.count + n;
  newly = omega (arith, first.newly, more);
  books = books_then first.count n a b c first.books books;
}

-- over several ranges
pub counted_then : (known also : List Bool) (a b c : MeterState) → BooksAside (count_known known) (count_known known) a b → BooksNewly known also b c → BooksAside (count_known also) (count_known also) a c
counted_then known also a b c first next =
    subst (λ n. BooksAside n n a c) (sym next.newly) (books_then (count_known known) next.count a b c first next.books)

-- ---- a block

-- it was read, by ranges of which these are all
pub block_read : (ranges : List Range) (address : ℕ) (bytes : List ℕ) (known : List Bool) (a b : MeterState) → length known ≡ length bytes
    → AreCells a.source.store.content ranges address bytes known → BooksAside (count_known known) (count_known known) a b → IsCaused None a.source b.source
    → ReadsAddresses ranges address (Ok tt) bytes known a b
block_read ranges address bytes known a b same are books caused = record {
  cells = cells_read a.source.store.content ranges address bytes known same are;
  books = let le : count_known known ≤ length bytes = omega (arith, count-le known, same) in books_within (count_known known) (length bytes) (count_known known) (length bytes) a b le le books;
  caused = caused;
}

-- ---- a run that is read

pub on_ok : {T E : Type 0} (r : Result T E) (P Q : Type 0) → IfOk r (λ _. P) → (P → Q) → OnOk r Q
on_ok (Ok x) P Q p f = f p
on_ok (Err e) P Q p f = tt

pub run_bytes : (F out part : List ℕ) (first n at k : ℕ) → first ≤ length out → part ≡ bytes_at F at n → length part ≡ n → first ≤ k → k < first + n
    → slice_index (put_mid first n out part) k ≡ slice_index F (at + (k - first))
run_bytes F out part first n at k within is long from below =
    get_or_put_in first n out part k 0 within from (omega (arith, below, long))
    ∙ ap (λ (x : List ℕ). get_or x (k - first) 0) is
    ∙ get_or-take n (drop at F) (k - first) 0 (omega (arith, from, below))
    ∙ get_or-drop at F (k - first) 0

-- ---- the ranges of a block

pub all_at : (P : Range → Type 0) (ranges : List Range) (i : ℕ) (r : Range) → slice_get ranges i ≡ Some r → All P ranges → P r
all_at P ranges i r is all = subst P (get_or_from_slice_get ranges i r r is) (All-get_or P ranges i r (slice_get_within ranges i r is) all)

pub take_next : (ranges : List Range) (i : ℕ) (r : Range) → slice_get ranges i ≡ Some r → take (i + 1) ranges ≡ take i ranges ++ r ∷ []
take_next ranges i r is =
    take_more ranges i r (slice_get_within ranges i r is) ∙ ap (λ (q : Range). take i ranges ++ q ∷ []) (get_or_from_slice_get ranges i r r is)
