-- Parts of a text.
use Rattle.std.proofs.Common.{◌≡◌, ◌∙◌, ◌+◌, ◌-◌, ◌^◌, ◌++◌, ◌∷◌, ℕ, zero, suc, List, [], ap, refl, sym, length, take, drop, arith, length-append, length-take}
use Rattle.std.specs.Prelude.{min}
use Rattle.std.proofs.Math.Seq.{drop-nil, take-nil}
use Rattle.std.proofs.lemmas.List.{drop_min, take_min}
use Rattle.mdmp_c.specs.Giving.{put_front, told_count}
use Rattle.mdmp_c.specs.TextPart.{IsPartOf}

pub part-none : (skip room : ℕ) → IsPartOf skip room [] skip room 0 []
part-none skip room = record {
  left_is = omega arith;
  space_is = refl;
  size_is = rw (drop-nil {A = ℕ} skip) refl;
  kept_is = rw (drop-nil {A = ℕ} skip, take-nil {A = ℕ} room) refl;
}

-- ---- lists one behind the other

pub drop-append : {X : Type 0} (n : ℕ) (xs ys : List X) → drop n (xs ++ ys) ≡ drop n xs ++ drop (n - length xs) ys
drop-append zero xs ys = let none : 0 ≡ 0 - length xs = omega arith in ap (λ k. xs ++ drop k ys) none
drop-append (suc n) [] ys = let same : suc n ≡ suc n - 0 = omega arith in ap (λ k. drop k ys) same
drop-append (suc n) (x ∷ xs) ys =
    let less : n - length xs ≡ suc n - suc (length xs) = omega arith in
    drop-append n xs ys ∙ ap (λ k. drop n xs ++ drop k ys) less

take-append : {X : Type 0} (n : ℕ) (xs ys : List X) → take n (xs ++ ys) ≡ take n xs ++ take (n - length xs) ys
take-append zero xs ys = let none : 0 ≡ 0 - length xs = omega arith in ap (λ k. take k ys) none
take-append (suc n) [] ys = let same : suc n ≡ suc n - 0 = omega arith in ap (λ k. take k ys) same
take-append (suc n) (x ∷ xs) ys =
    let less : n - length xs ≡ suc n - suc (length xs) = omega arith in
    ap (λ zs. x ∷ zs) (take-append n xs ys ∙ ap (λ k. take n xs ++ take k ys) less)

-- as many are taken as there is room for behind those that were
fitting_is : {X : Type 0} (room n fitting : ℕ) (before rest : List X) → n ≡ min room (length before) → fitting ≡ min (length rest) (room - n)
    → take fitting rest ≡ take (room - length before) rest
fitting_is room n fitting before rest held is =
    let free : fitting ≡ min (room - length before) (length rest) = omega (arith, held, is) in
    ap (λ k. take k rest) free ∙ take_min (room - length before) rest

sum_told : (a b size next : ℕ) → size ≡ told_count a → next ≡ min (size + b) (2 ^ 64 - 1) → next ≡ told_count (a + b)
sum_told a b size next is more = omega (arith, is, more)

-- the next bytes of the text were taken
pub part-more : (skip room : ℕ) (given text : List ℕ) (left space size : ℕ) (kept : List ℕ) (passed fitting next : ℕ)
    → IsPartOf skip room given left space size kept → passed ≡ min left (length text) → fitting ≡ min (length (drop passed text)) (space - length kept)
    → next ≡ min (size + length (drop passed text)) (2 ^ 64 - 1)
    → IsPartOf skip room (given ++ text) (left - passed) space next (kept ++ take fitting (drop passed text))
part-more skip room given text left space size kept passed fitting next part passes fits counts =
    let front = drop skip given in
    let rest = drop passed text in
    let rest_is : rest ≡ drop (skip - length given) text = ap (λ n. drop n text) passes ∙ drop_min left text ∙ ap (λ n. drop n text) part.left_is in
    let behind : drop skip (given ++ text) ≡ front ++ rest = drop-append skip given text ∙ ap (λ xs. front ++ xs) (sym rest_is) in
    let held : length kept ≡ min room (length front) = ap length part.kept_is ∙ length-take room front in
    let taken : take fitting rest ≡ take (room - length front) rest =
    fitting_is room (length kept) fitting front rest held (rw (part.space_is) at fits) in
    record {
      left_is = omega (arith, part.left_is, passes, length-append given text);
      space_is = part.space_is;
      size_is = sum_told (length front) (length rest) size next part.size_is counts ∙ ap told_count (sym (length-append front rest)) ∙ ap (λ xs. told_count (length xs)) (sym behind);
      kept_is = ap (λ xs. xs ++ take fitting rest) part.kept_is ∙ ap (λ xs. take room front ++ xs) taken ∙ sym (take-append room front rest) ∙ ap (take room) (sym behind);
    }

-- what is kept of a list for a buffer stands there as the list does
pub put_front-kept : (xs kept before : List ℕ) → kept ≡ take (length before) xs → put_front kept before ≡ put_front xs before
put_front-kept [] kept before is = ap (λ ys. put_front ys before) (is ∙ take-nil {A = ℕ} (length before))
put_front-kept (x ∷ xs) kept [] is = ap (λ ys. put_front ys []) is
put_front-kept (x ∷ xs) kept (b ∷ bs) is = ap (λ ys. put_front ys (b ∷ bs)) is ∙ ap (λ zs. x ∷ zs) (put_front-kept xs (take (length bs) xs) bs refl)
