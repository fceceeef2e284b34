-- Units in a part of a file.
use Rattle.std.specs.Prelude.{◌≡◌, ◌≤◌, ◌<◌, ℕ, ◌+◌, ◌-◌, ◌*◌, ◌/◌, ◌%◌, List, [], ◌++◌, length, slice_index, take, drop}
use Rattle.std.proofs.Common.{zero, suc, ◌∷◌, arith, length-append, length-drop, refl, sym, ap, ◌∙◌}
use Rattle.std.proofs.lemmas.List.{append-nil, drop_more, length-take}
use Rattle.mdmp_wire.specs.Number.{le, les, number_at, numbers_at}
use Rattle.mdmp_wire.specs.NumberLaws.{length-les, numbers_at-append, numbers_at-front, numbers_at-les, numbers_at-past, numbers_at-within}
use Rattle.mdmp_wire.specs.Units.{units_of}

-- the units of n bytes at a place
pub units_of_part : (n at : ℕ) (F : List ℕ) → at + n ≤ length F → units_of (take n (drop at F)) ≡ numbers_at F at 2 (n / 2)
units_of_part n at F room =
    let len : length (take n (drop at F)) ≡ n = omega (arith, length-take n (drop at F), length-drop at F) in
    let place : at ≡ at + 0 = omega arith in
    rw len (numbers_at-within n at 0 at 2 (n / 2) F (omega arith) place)

-- a byte that stands alone behind the units is none of them
pub units_of_whole : (bytes : List ℕ) (n : ℕ) → n ≡ length bytes - length bytes % 2 → units_of (take n bytes) ≡ units_of bytes
units_of_whole bytes n e =
    let len : length (take n bytes) ≡ n = omega (arith, length-take n bytes) in
    let half : n / 2 ≡ length bytes / 2 = omega arith in
    rw (len, half) (numbers_at-within n 0 0 0 2 (length bytes / 2) bytes (omega arith) refl)

-- units written behind others
pub units_of-append : (bytes units : List ℕ) → length bytes % 2 ≡ 0 → ((i : ℕ) → slice_index units i < 65536) → units_of (bytes ++ les 2 units) ≡ units_of bytes ++ units
units_of-append bytes units even fits =
    let n = length bytes / 2 in
    let len : length (bytes ++ les 2 units) / 2 ≡ n + length units = omega (arith, length-append bytes (les 2 units), length-les 2 units) in
    let place : 0 + 2 * n ≡ length bytes + 0 = omega arith in
    let first : numbers_at (bytes ++ les 2 units) 0 2 n ≡ numbers_at bytes 0 2 n = numbers_at-front 2 n (length bytes) bytes (les 2 units) refl (omega arith) in
    let again : numbers_at (les 2 units ++ []) 0 2 (length units) ≡ units = numbers_at-les 2 units [] fits in
    let next : numbers_at (bytes ++ les 2 units) (length bytes + 0) 2 (length units) ≡ units =
    numbers_at-past (length bytes) 0 2 (length units) bytes (les 2 units) refl ∙ (rw append-nil at again) in
    rw (len, numbers_at-append, place, first, next) refl

-- a unit's bytes are those that it stands in
le_of_pair : (a b : ℕ) → a < 256 → b < 256 → le 2 (a + 256 * (b + 256 * 0)) ≡ a ∷ b ∷ []
unfolding le
le_of_pair a b low high =
    let first : (a + 256 * (b + 256 * 0)) % 256 ≡ a = omega arith in
    let second : (a + 256 * (b + 256 * 0)) / 256 % 256 ≡ b = omega arith in
    λ i. first i ∷ second i ∷ []

unit_bytes_at : (bytes : List ℕ) (o : ℕ) → ((k : ℕ) → slice_index bytes k < 256) → le 2 (number_at bytes o 2) ≡ slice_index bytes o ∷ slice_index bytes (suc o) ∷ []
unfolding number_at
unit_bytes_at bytes o fits = le_of_pair (slice_index bytes o) (slice_index bytes (suc o)) (fits o) (fits (suc o))

les_from : (bytes : List ℕ) (o n : ℕ) → ((k : ℕ) → slice_index bytes k < 256) → o + 2 * n ≤ length bytes → les 2 (numbers_at bytes o 2 n) ≡ take (2 * n) (drop o bytes)
unfolding numbers_at
les_from bytes o zero fits room = refl
les_from bytes o (suc n) fits room =
    let here : o < length bytes = omega arith in
    let next : suc o < length bytes = omega arith in
    let next_again : o + 1 < length bytes = omega arith in
    let two : 2 * suc n ≡ suc (suc (2 * n)) = omega arith in
    let places : o + 1 ≡ suc o = omega arith in
    let behind : suc o + 1 ≡ o + 2 = omega arith in
    let split : drop o bytes ≡ slice_index bytes o ∷ slice_index bytes (suc o) ∷ drop (o + 2) bytes =
    drop_more bytes o 0 here ∙ ap (λ (xs : List ℕ). slice_index bytes o ∷ xs) (ap (λ (k : ℕ). drop k bytes) places ∙ drop_more bytes (suc o) 0 next ∙ ap (λ (k : ℕ). slice_index bytes (suc o) ∷ drop k bytes) behind) in
    let rest = les_from bytes (o + 2) n fits (omega arith) in
    ap (λ (xs : List ℕ). xs ++ les 2 (numbers_at bytes (o + 2) 2 n)) (unit_bytes_at bytes o fits)
    ∙ ap (λ (xs : List ℕ). slice_index bytes o ∷ slice_index bytes (suc o) ∷ xs) rest
    ∙ ap (λ (xs : List ℕ). take (suc (suc (2 * n))) xs) (sym split) ∙ ap (λ (k : ℕ). take k (drop o bytes)) (sym two)

-- the bytes of units are those that they stand in
pub les_of_units : (bytes : List ℕ) (n : ℕ) → ((k : ℕ) → slice_index bytes k < 256) → n ≡ length bytes - length bytes % 2 → les 2 (units_of bytes) ≡ take n bytes
les_of_units bytes n fits e =
    let even : 2 * (length bytes / 2) ≡ n = omega arith in
    les_from bytes 0 (length bytes / 2) fits (omega arith) ∙ ap (λ (k : ℕ). take k bytes) even
