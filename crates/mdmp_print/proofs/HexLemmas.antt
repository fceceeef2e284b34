-- The texts of a list that go out one by one, and the cells and the lines of some bytes.
use Rattle.std.proofs.Common.{◌≡◌, ◌∙◌, ℕ, ◌+◌, ◌-◌, ◌<◌, ◌≤◌, zero, suc, min, Bool, List, [], ◌∷◌, ◌++◌, Option, length, get_or, take, drop, refl, ap, sym, subst, zero-add, arith}
use Rattle.std.specs.List.{flat_map}
use Rattle.std.specs.Int.{div_ceil}
use Rattle.std.proofs.lemmas.Grind.{common_steps}
use Rattle.std.proofs.lemmas.List.{take_all, length-drop}
use Rattle.std.proofs.lemmas.List.FromFn.{length-range_with_len, get_or-range_with_len}
use Rattle.mdmp_source.specs.Output.{OutState, PutsAll, PutsPrefix}
use Rattle.mdmp_source.specs.OutputLaws.{PutsAll-PutsAll, PutsPrefix-flat_map}
use Rattle.mdmp_lister.specs.Addressing.{cell, cells}
use Rattle.mdmp_print.specs.HexText.{line_numbers}
use Rattle.mdmp_print.proofs.Texts.{texts_with}

-- ---- a list of texts

-- x stands in the list at i
pub record IsItem {X : Type 0} (xs : List X) (i : ℕ) (x : X) : Type 0 where
  pub within : i < length xs
  pub is : get_or xs i x ≡ x

-- the texts up to that of one are those before it, and its own
pub text_more : {X : Type 0} (f : X → List ℕ) (xs : List X) (i : ℕ) (x : X) → IsItem xs i x → flat_map f (take (i + 1) xs) ≡ flat_map f (take i xs) ++ f x
text_more {X = X} f xs i x at =
    texts_with f xs i x at.within ∙ ap (λ (y : X). flat_map f (take i xs) ++ f y) at.is

-- the text of one, behind those before it
pub PutsAll-item : {X : Type 0} (f : X → List ℕ) (xs : List X) (i : ℕ) (x : X) (a b c : OutState) → IsItem xs i x
    → PutsAll a (flat_map f (take i xs)) b → PutsAll b (f x) c → PutsAll a (flat_map f (take (i + 1) xs)) c
PutsAll-item f xs i x a b c at put more =
    rw (text_more f xs i x at) (PutsAll-PutsAll a b c (flat_map f (take i xs)) (f x) put more)

-- a prefix of the text of one, behind those before it
pub PutsPrefix-item : {X : Type 0} (f : X → List ℕ) (xs : List X) (i : ℕ) (x : X) (a b c : OutState) → IsItem xs i x
    → PutsAll a (flat_map f (take i xs)) b → PutsPrefix b (f x) c → PutsPrefix a (flat_map f xs) c
PutsPrefix-item {X = X} f xs i x a b c at put cut =
    PutsPrefix-flat_map f xs i x a b c at.within put (subst (λ (y : X). PutsPrefix b (f y) c) (sym at.is) cut)

-- the texts of all
pub PutsAll-items : {X : Type 0} (f : X → List ℕ) (xs : List X) (i : ℕ) (a b : OutState) → length xs ≤ i
    → PutsAll a (flat_map f (take i xs)) b → PutsAll a (flat_map f xs) b
PutsAll-items {X = X} f xs i a b all put = subst (λ (ys : List X). PutsAll a (flat_map f ys) b) (take_all i xs all) put

-- ---- cells

pub length-cells : (bytes : List ℕ) (known : List Bool) → length known ≡ length bytes → length (cells bytes known) ≡ length bytes
length-cells [] known same = refl
length-cells (b ∷ bytes) [] same = same
length-cells (b ∷ bytes) (k ∷ known) same = let rest : length known ≡ length bytes = omega arith in ap (λ n. suc n) (length-cells bytes known rest)

get_or-cells : (bytes : List ℕ) (known : List Bool) (i b : ℕ) (k : Bool) (d : Option ℕ) → i < length bytes → i < length known
    → get_or (cells bytes known) i d ≡ cell (get_or bytes i b) (get_or known i k)
get_or-cells [] known i b k d lt lt' = absurd (omega arith)
get_or-cells (x ∷ bytes) [] i b k d lt lt' = absurd (omega arith)
get_or-cells (x ∷ bytes) (y ∷ known) zero b k d lt lt' = refl
get_or-cells (x ∷ bytes) (y ∷ known) (suc i) b k d lt lt' = get_or-cells bytes known i b k d (omega arith) (omega arith)

pub IsItem-cell : (bytes : List ℕ) (known : List Bool) (i b : ℕ) (k : Bool) → length known ≡ length bytes → i < length bytes
    → IsItem (cells bytes known) i (cell (get_or bytes i b) (get_or known i k))
IsItem-cell bytes known i b k same lt = record {
  within = omega (arith, length-cells bytes known same);
  is = get_or-cells bytes known i b k _ lt (omega arith);
}

-- ---- cells of a line

take-cells : (n : ℕ) (bytes : List ℕ) (known : List Bool) → take n (cells bytes known) ≡ cells (take n bytes) (take n known)
take-cells zero bytes known = refl
take-cells (suc n) [] known = refl
take-cells (suc n) (b ∷ bytes) [] = refl
take-cells (suc n) (b ∷ bytes) (k ∷ known) = ap (λ (xs : List (Option ℕ)). cell b k ∷ xs) (take-cells n bytes known)

cells-none : (bytes : List ℕ) → cells bytes [] ≡ []
cells-none [] = refl
cells-none (b ∷ bytes) = refl

drop-cells : (n : ℕ) (bytes : List ℕ) (known : List Bool) → drop n (cells bytes known) ≡ cells (drop n bytes) (drop n known)
drop-cells zero bytes known = refl
drop-cells (suc n) [] known = refl
drop-cells (suc n) (b ∷ bytes) [] = sym (cells-none (drop n bytes))
drop-cells (suc n) (b ∷ bytes) (k ∷ known) = drop-cells n bytes known

-- as many are taken, or all
same_taken : {X : Type 0} (xs : List X) (m n : ℕ) → m ≡ min (length xs) n → take m xs ≡ take n xs
same_taken xs m n least = grind (arith, common_steps, take_all)

-- sixteen cells from one on are those of the bytes up to the end, and of what is known of them
pub line_cells : (bytes : List ℕ) (known : List Bool) (start end : ℕ) → length known ≡ length bytes → end ≡ min (length bytes) (start + 16)
    → take 16 (drop start (cells bytes known)) ≡ cells (take (end - start) (drop start bytes)) (take (end - start) (drop start known))
line_cells bytes known start end same least =
    let of_bytes : end - start ≡ min (length (drop start bytes)) 16 = omega (arith, length-drop start bytes) in
    let of_known : end - start ≡ min (length (drop start known)) 16 = omega (arith, length-drop start known) in
    rw (
      drop-cells start bytes known,
      take-cells 16 (drop start bytes) (drop start known),
      same_taken (drop start bytes) (end - start) 16 of_bytes,
      same_taken (drop start known) (end - start) 16 of_known,
    ) refl

-- ---- lines

pub length-line_numbers : (count : ℕ) → length (line_numbers count) ≡ div_ceil count 16
length-line_numbers count = length-range_with_len 0 (div_ceil count 16)

pub IsItem-line : (count k : ℕ) → k < div_ceil count 16 → IsItem (line_numbers count) k k
IsItem-line count k lt = record {
  within = omega (arith, length-line_numbers count);
  is = get_or-range_with_len 0 (div_ceil count 16) k k lt ∙ zero-add k;
}
