-- Addresses of the dumped process, and what is read at them.
use Rattle.std.proofs.Common.{◌≡◌, ◌≤◌, ◌<◌, ◌+◌, ◌-◌, ◌∙◌, ℕ, zero, suc, Bool, true, false, List, [], ◌∷◌, ◌++◌, Option, None, Some, arith, ap, drop, get_or, length, map, refl, subst, sym, is_some, replicate, take, unwrap_or}
use Rattle.std.specs.Prelude.{IfSome, option_map, slice_index}
use Rattle.std.specs.List.{range_with_len}
use Rattle.std.proofs.lemmas.Bool.Decides.{nat_tests}
use Rattle.std.proofs.lemmas.List.{get_or-drop, get_or-map, get_or-replicate, get_or-take, append-nil, append_assoc, length-append, length-map, length-replicate, length-take-le, map-append}
use Rattle.std.proofs.lemmas.Slice.{take-put_mid}
use borrow.Rule.Slice.PartMut.{put_mid}
use Rattle.std.proofs.lemmas.List.FromFn.{fill_by_all, length-map-range_with_len, map-range_with_len_more}
use Rattle.mdmp_source.specs.Range.{bytes_at}
use Rattle.mdmp_map.specs.declared.range.Range.{Range}
use Rattle.mdmp_map.specs.declared.place.Place.{Place}
use Rattle.mdmp_map.specs.Ranges.{IsGap, IsGreatestLeft, address_end, byte_at, first_range, holds, place_of}
use Rattle.mdmp_map.specs.RangeLaws.{first_range-passes, first_range_holds, holds_parts, none_found, place-first_range}
use Rattle.mdmp_lister.specs.Addressing.{IsStretch, ReadsCells, cell, cells, cells_at, is_held}

-- ---- numbers behind the last address

holds-past : (address : ℕ) (r : Range) → address_end ≤ address → holds address r ≡ false
holds-past address r past = grind (arith, nat_tests)

-- no range holds such a number
pub first_range_past : (ranges : List Range) (address : ℕ) → address_end ≤ address → first_range ranges address ≡ None
first_range_past [] address past = refl
first_range_past (r ∷ ranges) address past =
    first_range-passes address r ranges (holds-past address r past) ∙ first_range_past ranges address past

-- ---- addresses that stand together

-- those that no range holds
free_stretch : (ranges : List Range) (address count : ℕ) → ((k : ℕ) → k < count → first_range ranges (address + k) ≡ None) → IsStretch ranges address None count
free_stretch ranges address count none = record {
  held = λ k lt. ap is_some (none k lt);
  bytes = λ F k lt. ap (option_map (λ (r : Range). slice_index F (r.offset + (address + k - r.start)))) (none k lt);
}

pub stretch_past : (ranges : List Range) (address count : ℕ) → address_end ≤ address → IsStretch ranges address None count
stretch_past ranges address count past = free_stretch ranges address count (λ k lt. first_range_past ranges (address + k) (omega (arith, past)))

pub stretch_in_gap : (ranges : List Range) (address gap count : ℕ) → IsGap ranges address gap → count ≤ gap → IsStretch ranges address None count
stretch_in_gap ranges address gap count is within = free_stretch ranges address count (λ k lt. is.none k (omega (arith, lt, within)))

-- those that one range is the first to hold
pub stretch_in_range : (ranges : List Range) (address count : ℕ) (place : Place) → Some place ≡ place_of ranges address
    → ((r : Range) → first_range ranges address ≡ Some r → IsGreatestLeft ranges address r place.left) → count ≤ place.left
    → IsStretch ranges address (Some place.offset) count
stretch_in_range ranges address count place is left within =
    let of = place-first_range ranges address place (sym is) in
    let r : Range = of.0 in
    let begun = (holds_parts address r (first_range_holds address r ranges of.1)).1 in
    let same : (k : ℕ) → k < count → first_range ranges (address + k) ≡ Some r = λ k lt. (left r of.1).same k (omega (arith, lt, within)) in
    record {
      held = λ k lt. ap is_some (same k lt);
      bytes = λ F k lt.
          let at : r.offset + (address + k - r.start) ≡ place.offset + k = omega (arith, begun, ap (λ (p : Place). p.offset) of.2) in
          ap (option_map (λ (q : Range). slice_index F (q.offset + (address + k - q.start)))) (same k lt) ∙ ap (λ n. Some (slice_index F n)) at;
    }

-- there is a gap where no range holds the address
pub gap_some : (ranges : List Range) (address gap : ℕ) → None ≡ place_of ranges address → address < address_end → IsGap ranges address gap → 0 < gap
gap_some ranges address gap none in_space is =
    is.greatest 1 (omega (arith, in_space)) (λ k lt.
    let e : address ≡ address + k = omega (arith, lt) in subst (λ n. first_range ranges n ≡ None) e (none_found ranges address none))

-- ---- the cells of one stretch

cells_known : (bytes : List ℕ) → cells bytes (replicate (length bytes) true) ≡ map Some bytes
cells_known [] = refl
cells_known (b ∷ bytes) = ap (λ (x : List (Option ℕ)). Some b ∷ x) (cells_known bytes)

cells_unknown : (n : ℕ) → cells (replicate n 0) (replicate n false) ≡ replicate n None
cells_unknown zero = refl
cells_unknown (suc n) = ap (λ (x : List (Option ℕ)). None ∷ x) (cells_unknown n)

bytes_known : (bytes : List ℕ) → bytes ≡ map (λ (c : Option ℕ). unwrap_or c 0) (map Some bytes)
bytes_known [] = refl
bytes_known (b ∷ bytes) = ap (λ (x : List ℕ). b ∷ x) (bytes_known bytes)

bytes_unknown : (n : ℕ) → replicate n 0 ≡ map (λ (c : Option ℕ). unwrap_or c 0) (replicate n None)
bytes_unknown zero = refl
bytes_unknown (suc n) = ap (λ (x : List ℕ). 0 ∷ x) (bytes_unknown n)

-- a list of one value is that of a function with this value
all_one : {X : Type 0} (f : ℕ → X) (x : X) (n : ℕ) → ((k : ℕ) → k < n → f k ≡ x) → replicate n x ≡ map f (range_with_len 0 n)
all_one f x n all = fill_by_all f (replicate n x) n x (length-replicate n x) (λ k lt. get_or-replicate n k x x lt ∙ sym (all k lt))

-- the bytes of a stretch of a known file
file_bytes : (F : List ℕ) (ranges : List Range) (address at : ℕ) (bytes : List ℕ) → IsStretch ranges address (Some at) (length bytes)
    → bytes ≡ bytes_at F at (length bytes) → map Some bytes ≡ cells_at F ranges address (length bytes)
file_bytes F ranges address at bytes stretch is =
    let n = length bytes in
    fill_by_all (λ i. byte_at F ranges (address + i)) (map Some bytes) n None (length-map bytes Some) (λ k lt.
    let here : get_or bytes k 0 ≡ slice_index F (at + k) =
    ap (λ (x : List ℕ). get_or x k 0) is ∙ get_or-take n (drop at F) k 0 lt ∙ get_or-drop at F k 0 in
    get_or-map Some bytes k 0 None lt ∙ ap Some here ∙ sym (stretch.bytes F k lt))

-- what reading a stretch makes are its cells
pub ReadsCells_stretch : (content : Option (List ℕ)) (ranges : List Range) (address : ℕ) (offset : Option ℕ) (bytes : List ℕ) (known : List Bool)
    → IsStretch ranges address offset (length bytes) → known ≡ replicate (length bytes) (is_some offset) → (offset ≡ None → bytes ≡ replicate (length bytes) 0)
    → ((F : List ℕ) → content ≡ Some F → IfSome offset (λ at. bytes ≡ bytes_at F at (length bytes))) → ReadsCells content ranges address bytes known
ReadsCells_stretch content ranges address None bytes known stretch all_known all_zero of_file =
    let n = length bytes in
    let none : cells bytes known ≡ replicate n None = ap (cells bytes) all_known ∙ ap (λ (x : List ℕ). cells x (replicate n false)) (all_zero refl) ∙ cells_unknown n in
    record {
      held = all_known ∙ all_one (λ i. is_held ranges (address + i)) false n stretch.held;
      zeros = all_zero refl ∙ bytes_unknown n ∙ ap (map (λ (c : Option ℕ). unwrap_or c 0)) (sym none);
      of_file = λ F is. none ∙ all_one (λ i. byte_at F ranges (address + i)) None n (stretch.bytes F);
    }
ReadsCells_stretch content ranges address (Some at) bytes known stretch all_known all_zero of_file =
    let n = length bytes in
    let some : cells bytes known ≡ map Some bytes = ap (cells bytes) all_known ∙ cells_known bytes in
    record {
      held = all_known ∙ all_one (λ i. is_held ranges (address + i)) true n stretch.held;
      zeros = bytes_known bytes ∙ ap (map (λ (c : Option ℕ). unwrap_or c 0)) (sym some);
      of_file = λ F is. some ∙ file_bytes F ranges address at bytes stretch (of_file F is);
    }

-- ---- stretches one after another

cells-append : (bytes more : List ℕ) (known also : List Bool) → length known ≡ length bytes
    → cells (bytes ++ more) (known ++ also) ≡ cells bytes known ++ cells more also
cells-append [] more [] also same = refl
cells-append [] more (k ∷ known) also same = absurd (omega (arith, same))
cells-append (b ∷ bytes) more [] also same = absurd (omega (arith, same))
cells-append (b ∷ bytes) more (k ∷ known) also same =
    let rest : length known ≡ length bytes = omega (arith, same) in
    ap (λ (x : List (Option ℕ)). cell b k ∷ x) (cells-append bytes more known also rest)

-- what a function gives at the first numbers, and at those behind
map_split : {X : Type 0} (f : ℕ → X) (a m n : ℕ)
    → map (λ i. f (a + i)) (range_with_len 0 (m + n)) ≡ map (λ i. f (a + i)) (range_with_len 0 m) ++ map (λ i. f (a + m + i)) (range_with_len 0 n)
map_split f a m zero = ap (λ k. map (λ i. f (a + i)) (range_with_len 0 k)) (omega arith) ∙ sym (append-nil (map (λ i. f (a + i)) (range_with_len 0 m)))
map_split {X} f a m (suc n) =
    let front : List X = map (λ i. f (a + i)) (range_with_len 0 m) in
    let one_more : m + suc n ≡ m + n + 1 = omega arith in
    let next : suc n ≡ n + 1 = omega arith in
    let last : f (a + (m + n)) ≡ f (a + m + n) = ap f (omega arith) in
    let rest : map (λ i. f (a + m + i)) (range_with_len 0 (suc n)) ≡ map (λ i. f (a + m + i)) (range_with_len 0 n) ++ f (a + (m + n)) ∷ [] =
    ap (λ k. map (λ i. f (a + m + i)) (range_with_len 0 k)) next
    ∙ map-range_with_len_more (λ i. f (a + m + i)) 0 n n (omega arith)
    ∙ ap (λ x. map (λ i. f (a + m + i)) (range_with_len 0 n) ++ x ∷ []) (sym last) in
    ap (λ k. map (λ i. f (a + i)) (range_with_len 0 k)) one_more
    ∙ map-range_with_len_more (λ i. f (a + i)) 0 (m + n) (m + n) (omega arith)
    ∙ ap (λ (l : List X). l ++ f (a + (m + n)) ∷ []) (map_split f a m n)
    ∙ append_assoc front (map (λ i. f (a + m + i)) (range_with_len 0 n)) (f (a + (m + n)) ∷ [])
    ∙ ap (λ (l : List X). front ++ l) (sym rest)

-- the cells of some addresses, and of those behind them
pub ReadsCells-append : (content : Option (List ℕ)) (ranges : List Range) (address : ℕ) (bytes more : List ℕ) (known also : List Bool)
    → ReadsCells content ranges address bytes known → ReadsCells content ranges (address + length bytes) more also
    → ReadsCells content ranges address (bytes ++ more) (known ++ also)
ReadsCells-append content ranges address bytes more known also first then =
    let m = length bytes in
    let n = length more in
    let same : length known ≡ m = ap length first.held ∙ length-map-range_with_len (λ i. is_held ranges (address + i)) 0 m in
    let all = cells-append bytes more known also same in
    let both : length (bytes ++ more) ≡ m + n = length-append bytes more in
    record {
      held = rw (both, map_split (is_held ranges) address m n) (cc (first.held, then.held));
      zeros = rw (all, map-append) (cc (first.zeros, then.zeros));
      of_file = λ F is. rw (both, map_split (byte_at F ranges) address m n) (cc (all, first.of_file F is, then.of_file F is));
    }

-- the same where they are written behind the front of two lists
pub ReadsCells_next : (content : Option (List ℕ)) (ranges : List Range) (address done end : ℕ) (out bytes : List ℕ) (known also : List Bool)
    → done ≤ length out → done ≤ length known → end ≡ done + length bytes → length also ≡ length bytes
    → ReadsCells content ranges address (take done out) (take done known) → ReadsCells content ranges (address + done) bytes also
    → ReadsCells content ranges address (take end (put_mid done (end - done) out bytes)) (take end (put_mid done (end - done) known also))
ReadsCells_next content ranges address done end out bytes known also in_out in_known is same first then =
    let front : length (take done out) ≡ done = length-take-le done out in_out in
    rw (take-put_mid done (end - done) out bytes end is in_out, take-put_mid done (end - done) known also end (omega (arith, is, same)) in_known)
    (ReadsCells-append content ranges address (take done out) bytes (take done known) also first
    (subst (λ n. ReadsCells content ranges (address + n) bytes also) (sym front) then))
