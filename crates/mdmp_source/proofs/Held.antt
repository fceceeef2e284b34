-- The part of a buffer that a window holds.
use Rattle.std.proofs.Common.{◌≡◌, ◌≤◌, ◌+◌, ◌-◌, ◌++◌, ◌∙◌, ℕ, List, Option, max, take, drop, length, ap, sym, subst, arith}
use Rattle.std.specs.Prelude.{IfSome, Vec, vec_len}
use Rattle.std.specs.Vec.{with_items}
use Rattle.std.proofs.lemmas.List.{drop-drop, drop-take, length-take-le, length-drop, with_items_is}
use Rattle.std.proofs.lemmas.Slice.{take-put_mid, take-put_mid_below}
use Rattle.mdmp_source.specs.Range.{bytes_at}
use Rattle.mdmp_source.specs.Window.{WindowState, next_len_of, IsFilled}
use borrow.Rule.Slice.PartMut.{put_mid, same_len_mid}

-- a window with these bytes
abbrev pub window_of : (place end room touched : ℕ) → List ℕ → WindowState
window_of place end room touched held = record { place = place; end = end; room = room; touched = touched; held = held }

-- as many bytes as the window counts
pub length-held : (items : List ℕ) (first len : ℕ) → first + len ≤ length items → length (take len (drop first items)) ≡ len
length-held items first len in_range =
    let rest : length (drop first items) ≡ length items - first = length-drop first items in
    length-take-le len (drop first items) (omega (arith, rest, in_range))

-- what is left behind the first few
pub held_less : (items : List ℕ) (first len count : ℕ) → count ≤ len → take (len - count) (drop (first + count) items) ≡ drop count (take len (drop first items))
held_less items first len count few =
    let split : count + (len - count) ≡ len = omega arith in
    sym (ap (λ n. drop count (take n (drop first items))) (sym split)
    ∙ drop-take count (len - count) (drop first items)
    ∙ ap (λ rest. take (len - count) rest) (drop-drop count first items))

-- a window has room for what its next fill fetches
pub next_fits : (place end room touched len count : ℕ) (held : List ℕ) → length held ≡ len → len ≤ room → count ≡ next_len_of (window_of place end room touched held)
    → len + count ≤ room
next_fits place end room touched len count held held_len in_range next = omega (arith, held_len, in_range, next)

-- a buffer that holds these bytes at its front, and behind which others were written
pub record WrittenBehind (held bytes : List ℕ) (len count : ℕ) (items : List ℕ) : Type 0 where
  pub kept : take len items ≡ held
  pub more : take (len + count) items ≡ held ++ bytes
  pub all : length bytes ≡ count

-- what is left of a `Vec` whose part `len..len + count` was written
pub written_behind : {A : Type 0} (v : Vec ℕ A) (items bytes held : List ℕ) (len count n : ℕ)
    → items ≡ v.items → n ≡ count → length bytes ≡ length (take n (drop len items))
    → take len v.items ≡ held → len + count ≤ vec_len v
    → WrittenBehind held bytes len count (with_items v (put_mid len n items bytes)).items
written_behind v items bytes held len count n same count_is bytes_len held_is room =
    let in_range : len + count ≤ length items = rw same (omega (arith, room, v.ok.0)) in
    let all : length bytes ≡ count = bytes_len ∙ length-held items len n (omega (arith, in_range, count_is)) ∙ count_is in
    let front : take len items ≡ held = ap (λ xs. take len xs) same ∙ held_is in
    let written : (with_items v (put_mid len n items bytes)).items ≡ put_mid len n items bytes =
    with_items_is v (put_mid len n items bytes) (same_len_mid len n items bytes bytes_len ∙ ap (λ xs. length xs) same ∙ sym v.ok.0) in
    record {
      kept = ap (λ xs. take len xs) written ∙ take-put_mid_below len n items bytes len (omega arith) (omega (arith, in_range)) ∙ front;
      more = ap (λ xs. take (len + count) xs) written ∙ take-put_mid len n items bytes (len + count) (omega (arith, all)) (omega (arith, in_range))
          ∙ ap (λ xs. xs ++ bytes) front;
      all = all;
    }

-- a window whose fill failed is as it was
pub is_kept : (place end room touched len count : ℕ) (held bytes items : List ℕ) → WrittenBehind held bytes len count items
    → window_of place end room touched (take len items) ≡ window_of place end room touched held
is_kept place end room touched len count held bytes items written = ap (window_of place end room touched) written.kept

-- and one whose fill succeeded has more
pub is_filled : (content : Option (List ℕ)) (place end room touched len count : ℕ) (held bytes items : List ℕ) → WrittenBehind held bytes len count items
    → length held ≡ len → count ≡ next_len_of (window_of place end room touched held)
    → IfSome content (λ file. bytes ≡ bytes_at file (place + len) (length bytes))
    → IsFilled content (window_of place end room touched held) (window_of place end room (max touched (len + count)) (take (len + count) items))
is_filled content place end room touched len count held bytes items written held_len next known = record {
  more = bytes;
  more_len = written.all ∙ next;
  appended = rw (← next, held_len) (ap (window_of place end room (max touched (len + count))) written.more);
  known = subst (λ k. IfSome content (λ file. bytes ≡ bytes_at file (place + k) (length bytes))) (sym held_len) known;
}
