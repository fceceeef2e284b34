-- The first of some bytes: of a build id, put over zeros, and of a CodeView record, sliced out of a file.
use Rattle.std.proofs.Common.{◌≡◌, ℕ, ◌+◌, ◌-◌, List, ◌++◌, length, take, drop, min, ap, ◌∙◌, arith}
use Rattle.std.specs.Prelude.{replicate}
use Rattle.std.proofs.lemmas.List.{drop-replicate, take_min}
use Rattle.mdmp_source.specs.Range.{bytes_at}
use Rattle.mdmp_c.specs.Ids.{front_of}

pub put_over : (bytes : List ℕ) (n : ℕ) → n ≡ min (length bytes) 20 → take n bytes ++ drop n (replicate 20 0) ≡ front_of bytes
put_over bytes n e =
    let flip : n ≡ min 20 (length bytes) = omega (arith, e) in
    let left : 20 - n ≡ 20 - length bytes = omega (arith, e) in
    let front : take n bytes ≡ take 20 bytes = ap (λ k. take k bytes) flip ∙ take_min 20 bytes in
    let behind : drop n (replicate 20 0) ≡ replicate (20 - length bytes) 0 = drop-replicate n 20 0 ∙ ap (λ k. replicate k 0) left in
    λ i. front i ++ behind i

-- the first 24 bytes of a record, or all
pub head_sliced : (F : List ℕ) (r s m : ℕ) → m ≡ min s 24 → take (r + m - r) (drop r F) ≡ bytes_at F r (min s 24)
head_sliced F r s m is = let n : r + m - r ≡ min s 24 = omega (arith, is) in ap (λ k. take k (drop r F)) n
