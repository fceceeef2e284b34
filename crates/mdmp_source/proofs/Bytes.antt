-- Bytes of a file that are read in pieces.
use Rattle.std.proofs.Common.{◌≡◌, ◌≤◌, ◌+◌, ◌++◌, ◌∙◌, ℕ, List, Option, Some, None, take, drop, length, ap}
use Rattle.std.specs.Prelude.{IfSome}
use Rattle.std.proofs.Math.Seq.{take-add, take-append-add}
use Rattle.std.proofs.lemmas.List.{drop-drop, take-append-le, length-take-le}
use Rattle.mdmp_source.specs.Range.{bytes_at}
use borrow.Rule.Slice.PartMut.{put_mid, post_of}

-- the bytes at a place, in two parts
pub bytes_at-+ : (file : List ℕ) (at n k : ℕ) → bytes_at file at (n + k) ≡ bytes_at file at n ++ bytes_at file (at + n) k
bytes_at-+ file at n k = take-add n k (drop at file) ∙ ap (λ rest. take n (drop at file) ++ take k rest) (drop-drop n at file)

-- past the first n, of a list that they begin
take_past : {X : Type 0} (xs ys : List X) (n k : ℕ) → length xs ≡ n → take (n + k) (xs ++ ys) ≡ xs ++ take k ys
take_past xs ys n k e = rw (← e) (take-append-add xs ys k)

-- the front of a slice after a write behind its first n
pub take-put_mid_more : {X : Type 0} (out ys : List X) (n m k : ℕ) → n ≤ length out → k ≤ length ys → take (n + k) (put_mid n m out ys) ≡ take n out ++ take k ys
take-put_mid_more out ys n m k in_range room =
    take_past (take n out) (ys ++ post_of n m out) n k (length-take-le n out in_range)
    ∙ ap (λ rest. take n out ++ rest) (take-append-le k ys (post_of n m out) room)

-- a read goes on where the bytes so far end
pub filled_more : (known now : Option (List ℕ)) (out ys : List ℕ) (at n m k : ℕ) → n ≤ length out → k ≤ length ys → now ≡ known
    → IfSome known (λ file. take n out ≡ bytes_at file at n)
    → IfSome now (λ file. take k ys ≡ bytes_at file (at + n) k)
    → IfSome known (λ file. take (n + k) (put_mid n m out ys) ≡ bytes_at file at (n + k))
filled_more None now out ys at n m k in_range room same before gave = tt
filled_more (Some file) now out ys at n m k in_range room same before gave =
    let gave_file : take k ys ≡ bytes_at file (at + n) k = rw same at gave in
    rw (take-put_mid_more out ys n m k in_range room, before, gave_file, ← bytes_at-+ file at n k)
