-- The first sixteen of some bytes, put over zeros.
use Rattle.std.proofs.Common.{◌≡◌, ℕ, ◌-◌, List, ◌++◌, length, take, drop, min, ap, ◌∙◌, arith}
use Rattle.std.specs.Prelude.{replicate}
use Rattle.std.proofs.lemmas.List.{drop-replicate, take_min}
use Rattle.mdmp_summary.specs.Identity.{sixteen_of}

pub put_over : (bytes : List ℕ) (n : ℕ) → n ≡ min (length bytes) 16 → take n bytes ++ drop n (replicate 16 0) ≡ sixteen_of bytes
put_over bytes n e =
    let flip : n ≡ min 16 (length bytes) = omega (arith, e) in
    let left : 16 - n ≡ 16 - length bytes = omega (arith, e) in
    let front : take n bytes ≡ take 16 bytes = ap (λ k. take k bytes) flip ∙ take_min 16 bytes in
    let behind : drop n (replicate 16 0) ≡ replicate (16 - length bytes) 0 = drop-replicate n 16 0 ∙ ap (λ k. replicate k 0) left in
    λ i. front i ++ behind i
