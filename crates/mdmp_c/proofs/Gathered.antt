-- Rows that are put into an array, one behind the other.
use Rattle.std.proofs.Common.{◌≡◌, ◌∙◌, ◌⊎◌, ◌≤◌, ◌<◌, ◌+◌, ◌-◌, ◌^◌, ◌++◌, ℕ, suc, List, [], ◌∷◌, Option, Some, None, ap, inl, inr, refl, sym, length, drop, arith, set, append_assoc, append-nil}
use Rattle.std.specs.Prelude.{filter_map, min, slice_get}
use Rattle.std.proofs.Math.Seq.{take-nil}
use Rattle.std.proofs.lemmas.List.Elements.{filter_map-append}
use Rattle.std.proofs.lemmas.List.Sums.{sum_by-cons}
use Rattle.mdmp_c.specs.Giving.{put_front, told_count}
use Rattle.mdmp_lister.specs.declared.fault.FaultKind.TheVariants as kinds
use Rattle.mdmp_lister.specs.declared.fault.ListFault.{ListFault}
use Rattle.mdmp_lister.specs.Fault.{IsOfStore, IsUnobtained}
use Rattle.mdmp_lister.specs.declared.item.Item.{Item}
use Rattle.mdmp_lister.specs.Format.Listing.{Run, only_fault}
use Rattle.mdmp_lister.specs.Format.Item.{plain}
use Rattle.mdmp_lister.specs.Format.Numbers.{names_of}
use Rattle.mdmp_lister.specs.Lister.{tail}
use Rattle.mdmp_lister.specs.Sink.{names_of_all}
use Rattle.mdmp_lister.proofs.Handing.{rose_exactly}
use Rattle.mdmp_lister.proofs.Naming.{names_of-plain}
use Rattle.mdmp_source.specs.Count.{raised}
use Rattle.mdmp_c.specs.Table.{Collects, PutsOne, collects_all, collects_some}
use Rattle.mdmp_c.proofs.Stopping.{of_budget}

pub put_front-nothing : {X : Type 0} (before : List X) → put_front [] before ≡ before
put_front-nothing before = ap (λ xs. xs ++ before) (take-nil (length before))

-- a row behind those that fill the array changes nothing
pub put_front-full : {X : Type 0} (xs before : List X) (x : X) → length before ≤ length xs → put_front (xs ++ x ∷ []) before ≡ put_front xs before
put_front-full [] [] x full = refl
put_front-full [] (b ∷ bs) x full = absurd (omega (arith, full))
put_front-full (y ∷ ys) [] x full = refl
put_front-full (y ∷ ys) (b ∷ bs) x full = ap (λ zs. y ∷ zs) (put_front-full ys bs x (omega (arith, full)))

-- else it is put behind them
pub put_front-set : {X : Type 0} (xs before : List X) (x : X) → length xs < length before → set (put_front xs before) (length xs) x ≡ put_front (xs ++ x ∷ []) before
put_front-set xs [] x room = absurd (omega (arith, room))
put_front-set [] (b ∷ bs) x room = ap (λ zs. x ∷ zs ++ bs) (sym (take-nil (length bs)))
put_front-set (y ∷ ys) (b ∷ bs) x room = ap (λ zs. y ∷ zs) (put_front-set ys bs x (omega (arith, room)))

pub length-put_front : {X : Type 0} (xs before : List X) → length (put_front xs before) ≡ length before
length-put_front [] before = ap length (put_front-nothing before)
length-put_front (y ∷ ys) [] = refl
length-put_front (y ∷ ys) (b ∷ bs) = ap suc (length-put_front ys bs)

-- some items of a run are given, and the others are left; the rows of those that are given stand in an array
pub record HasCollected {T : Type 0} (row : Item → Option T) (run left : Run) (count : ℕ) (before now : List T) : Type 0 where
  pub given : List Item
  pub items : run.items ≡ given ++ left.items
  pub fault : run.fault ≡ left.fault
  pub count_is : count ≡ told_count (length (filter_map row given))
  pub out : now ≡ put_front (filter_map row given) before

pub HasCollected-nothing : {T : Type 0} (row : Item → Option T) (run : Run) (before : List T) → HasCollected row run run 0 before before
HasCollected-nothing row run before = record { given = []; items = refl; fault = refl; count_is = refl; out = sym (put_front-nothing before) }

first_then : (x : Item) (xs : List Item) → slice_get xs 0 ≡ Some x → xs ≡ x ∷ drop 1 xs
first_then x [] none = absurd (cc)
first_then x (y ∷ ys) first = let same : y ≡ x = cc in ap (λ (z : Item). z ∷ ys) same

next_then : (given : List Item) (run left : Run) (x : Item) → run.items ≡ given ++ left.items → slice_get left.items 0 ≡ Some x
    → run.items ≡ (given ++ x ∷ []) ++ drop 1 left.items
next_then given run left x items first =
    items ∙ ap (λ (xs : List Item). given ++ xs) (first_then x left.items first) ∙ sym (append_assoc given (x ∷ []) (drop 1 left.items))

-- the names of an item that was given are left no more
pub names_left : (left : Run) (x : Item) (old new total : ℕ) → slice_get left.items 0 ≡ Some (plain x) → old + names_of_all left.items ≡ total → new + 1 < 2 ^ 128 → new ≡ raised old (names_of x)
    → new + names_of_all (tail left).items ≡ total
names_left left x old new total first so_far small rose =
    let all : names_of_all left.items ≡ names_of_all (plain x ∷ drop 1 left.items) = ap names_of_all (first_then (plain x) left.items first) in
    let one = sum_by-cons names_of (plain x) (drop 1 left.items) in
    omega (arith, so_far, all, one, rose_exactly old new (names_of x) small rose, names_of-plain x)

module _ {T : Type 0} (row : Item → Option T) where
  row_taken : (given : List Item) (item : Item) (x : T) → row item ≡ Some x → filter_map row (given ++ item ∷ []) ≡ filter_map row given ++ x ∷ []
  row_taken given item x is =
      let one : filter_map row (item ∷ []) ≡ x ∷ [] = rw is refl in
      filter_map-append row given (item ∷ []) ∙ ap (λ (xs : List T). filter_map row given ++ xs) one

  row_passed : (given : List Item) (item : Item) → row item ≡ None → filter_map row (given ++ item ∷ []) ≡ filter_map row given
  row_passed given item is =
      let one : filter_map row (item ∷ []) ≡ [] = rw is refl in
      filter_map-append row given (item ∷ []) ∙ ap (λ (xs : List T). filter_map row given ++ xs) one ∙ append-nil (filter_map row given)

  counted : (n count next : ℕ) → count ≡ told_count n → next ≡ min (count + 1) (2 ^ 64 - 1) → next ≡ told_count (n + 1)
  counted n count next is more = omega (arith, is, more)

  length-more : (xs : List T) (x : T) → length (xs ++ x ∷ []) ≡ length xs + 1
  length-more [] x = refl
  length-more (y ∷ ys) x = let more = length-more ys x in omega (arith, more)

  -- the row of the next item is put behind the others
  HasCollected-taken : (run left : Run) (count next : ℕ) (before now after : List T) (item : Item) (x : T) → HasCollected row run left count before now
      → slice_get left.items 0 ≡ Some item → row item ≡ Some x → next ≡ min (count + 1) (2 ^ 64 - 1)
      → ((rows : List T) (b : List T) → now ≡ put_front rows b → count ≡ told_count (length rows) → after ≡ put_front (rows ++ x ∷ []) b)
      → HasCollected row run (tail left) next before after
  HasCollected-taken run left count next before now after item x h first is more put = record {
    given = h.given ++ item ∷ [];
    items = next_then h.given run left item h.items first;
    fault = h.fault;
    count_is =
        counted (length (filter_map row h.given)) count next h.count_is more
        ∙ ap told_count (sym (length-more (filter_map row h.given) x))
        ∙ ap (λ (xs : List T). told_count (length xs)) (sym (row_taken h.given item x is));
    out = put (filter_map row h.given) before h.out h.count_is ∙ ap (λ (xs : List T). put_front xs before) (sym (row_taken h.given item x is));
  }

  -- an item that has none is passed over
  HasCollected-passed : (run left : Run) (count : ℕ) (before now : List T) (item : Item) → HasCollected row run left count before now
      → slice_get left.items 0 ≡ Some item → row item ≡ None → HasCollected row run (tail left) count before now
  HasCollected-passed run left count before now item h first is = record {
    given = h.given ++ item ∷ [];
    items = next_then h.given run left item h.items first;
    fault = h.fault;
    count_is = h.count_is ∙ ap (λ (xs : List T). told_count (length xs)) (sym (row_passed h.given item is));
    out = h.out ∙ ap (λ (xs : List T). put_front xs before) (sym (row_passed h.given item is));
  }

  -- either way
  pub HasCollected-more : (run left : Run) (count next : ℕ) (before now after : List T) (item : Item) (x : Option T) → HasCollected row run left count before now
      → slice_get left.items 0 ≡ Some item → row item ≡ x → PutsOne x count now next after → HasCollected row run (tail left) next before after
  HasCollected-more run left count next before now after item (Some x) h first is puts = HasCollected-taken run left count next before now after item x h first is puts.0 puts.1
  HasCollected-more run left count next before now after item None h first is puts = rw (puts.0, puts.1) (HasCollected-passed run left count before now item h first is)

  -- nothing is left, but this fault or none
  pub Collects-end : (MayEnd : ListFault → Type 0) (AreGivenSo : List Item → Type 0) (run left : Run) (count : ℕ) (fault : Option ListFault) (before now : List T) → HasCollected row run left count before now
      → left ≡ record { items = []; fault = fault } → AreGivenSo run.items → Collects row MayEnd AreGivenSo run count fault before now
  Collects-end MayEnd AreGivenSo run left count fault before now h end so =
      let all : run.items ≡ h.given = h.items ∙ ap (λ (r : Run). h.given ++ r.items) end ∙ append-nil h.given in
      collects_all (sym (h.fault ∙ ap (λ (r : Run). r.fault) end)) so
      record {
        count_is = h.count_is ∙ ap (λ (xs : List Item). told_count (length (filter_map row xs))) (sym all);
        out = h.out ∙ ap (λ (xs : List Item). put_front (filter_map row xs) before) (sym all);
      }

  -- or it is told that the budget was reached
  pub Collects-fault : (MayEnd : ListFault → Type 0) (AreGivenSo : List Item → Type 0) (run left : Run) (count : ℕ) (fault : ListFault) (before now : List T) → HasCollected row run left count before now
      → (IsOfStore fault.kind → ⊥) → ((IsUnobtained fault.kind → ⊥) → left ≡ only_fault fault) → (fault.kind ≡ kinds.Budget → MayEnd fault)
      → ((IsUnobtained fault.kind → ⊥) → AreGivenSo run.items) → Collects row MayEnd AreGivenSo run count (Some fault) before now
  Collects-fault MayEnd AreGivenSo run left count fault before now h good gives can so = by (of_budget fault.kind good) where
    by : (fault.kind ≡ kinds.Budget) ⊎ (IsUnobtained fault.kind → ⊥) → Collects row MayEnd AreGivenSo run count (Some fault) before now
    by (inr of_file) = Collects-end MayEnd AreGivenSo run left count (Some fault) before now h (gives of_file) (so of_file)
    by (inl is) =
        collects_some h.given
        record { rest = left.items; first = h.items; told = fault; told_is = refl; kind = is; reached = can is }
        record { count_is = h.count_is; out = h.out }
