-- The bytes of a CodeView record, sliced out of a file.
use Rattle.std.proofs.Common.{◌≡◌, ◌∙◌, ◌≤◌, ◌+◌, ◌-◌, ℕ, Bool, true, false, List, [], ap, arith, drop, refl, sym, take}
use Rattle.std.specs.Prelude.{min, nat_le}
use Rattle.std.proofs.lemmas.Bool.Decides.{nat_tests}
use Rattle.mdmp_wire.specs.Number.{array_at}
use Rattle.mdmp_wire.specs.CodeView.{codeview_in, codeview_of}
use Rattle.mdmp_c.specs.declared.parts.PartPlace.{PartPlace}
use Rattle.mdmp_c.specs.Symbols.{place_location}

array_is : (F : List ℕ) (o n : ℕ) → array_at F o n ≡ take n (drop o F)
unfolding array_at
array_is F o n = refl

none : (n : ℕ) (xs : List ℕ) → n ≡ 0 → take n xs ≡ []
none n xs is = ap (λ k. take k xs) is

head_sliced : (F : List ℕ) (r s m : ℕ) → m ≡ min s 24 → take (r + m - r) (drop r F) ≡ array_at F r (min s 24)
head_sliced F r s m is = let n : r + m - r ≡ min s 24 = omega (arith, is) in ap (λ k. take k (drop r F)) n ∙ sym (array_is F r (min s 24))

rest_sliced : (F : List ℕ) (r s m n limit : ℕ) → m ≡ min s 24 → n ≡ min (s - 24) limit → take (r + m + n - (r + m)) (drop (r + m) F) ≡ array_at F (r + 24) (min (s - 24) limit)
rest_sliced F r s m n limit is few = by (nat_le 24 s) refl where
  count : r + m + n - (r + m) ≡ min (s - 24) limit
  count = omega (arith, few)

  by : (b : Bool) → nat_le 24 s ≡ b → take (r + m + n - (r + m)) (drop (r + m) F) ≡ array_at F (r + 24) (min (s - 24) limit)
  by true e =
      let long : 24 ≤ s = grind (arith, nat_tests) in
      let at : r + m ≡ r + 24 = omega (arith, is, long) in
      ap (λ k. take k (drop (r + m) F)) count ∙ ap (λ k. take (min (s - 24) limit) (drop k F)) at ∙ sym (array_is F (r + 24) (min (s - 24) limit))
  by false e =
      let short : s ≤ 24 = grind (arith, nat_tests) in
      let none_read : min (s - 24) limit ≡ 0 = omega (arith, short) in
      none (r + m + n - (r + m)) (drop (r + m) F) (count ∙ none_read) ∙ sym (none (min (s - 24) limit) (drop (r + 24) F) none_read)
      ∙ sym (array_is F (r + 24) (min (s - 24) limit))

pub codeview_sliced : (F : List ℕ) (place : PartPlace) (m n limit : ℕ) → m ≡ min place.size 24 → n ≡ min (place.size - 24) limit
    → codeview_in (take (place.rva + m - place.rva) (drop place.rva F)) (take (place.rva + m + n - (place.rva + m)) (drop (place.rva + m) F)) place.size
    ≡ codeview_of F (place_location place) limit
codeview_sliced F place m n limit is few =
    ap (λ (head : List ℕ). codeview_in head (take (place.rva + m + n - (place.rva + m)) (drop (place.rva + m) F)) place.size) (head_sliced F place.rva place.size m is)
    ∙ ap (λ (rest : List ℕ). codeview_in (array_at F place.rva (min place.size 24)) rest place.size) (rest_sliced F place.rva place.size m n limit is few)
