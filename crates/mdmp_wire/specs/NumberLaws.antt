-- Numbers in a part of a list, and a list with a number written into it.
use Rattle.std.proofs.Common.{◌≡◌, ℕ, zero, suc, ◌+◌, ◌*◌, ◌-◌, ◌^◌, ◌<◌, ◌≤◌, List, [], ◌∷◌, ◌++◌, length, take, drop, slice_index, refl, ap, sym, ◌∙◌, append_assoc, arith, length-append}
use Rattle.std.proofs.lemmas.List.{append-nil, take-take, drop-take, drop-drop, drop_all, get_or-drop, get_or-append-add, take_at, length-take-le}
use borrow.Rule.Slice.PartMut.{put_mid, post_of, mid_of}
use Rattle.byteorder.specs.Endian.{little_from, IsRead}
use Rattle.byteorder.specs.Numbers.{little_number-reads_back, length-bytes_low_first, little_from-take}
use Rattle.std.specs.List.{flat_map}
use Rattle.std.proofs.lemmas.List.Concat.{flat_map-cons}
use Rattle.std.proofs.lemmas.Grind.{same_number_lists}
use Rattle.std.proofs.Math.Nat.{mul-suc}
use Rattle.mdmp_wire.specs.Number.{number_at, le, les, numbers_at, array_at}

little_from-drop : (i k n : ℕ) (xs : List ℕ) → little_from i k (drop n xs) ≡ little_from (n + i) k xs
little_from-drop i zero n xs = refl
little_from-drop i (suc k) n xs =
    let next = little_from-drop (suc i) k n xs in
    let place : n + suc i ≡ suc (n + i) = omega arith in
    rw (get_or-drop, next, place) refl

-- a number behind the first n bytes
pub number_at-drop : (n o k : ℕ) (xs : List ℕ) → number_at (drop n xs) o k ≡ number_at xs (n + o) k
unfolding number_at
number_at-drop n o k xs = little_from-drop o k n xs

-- a number in the n bytes at a place
pub number_at-part : (n at k : ℕ) (xs : List ℕ) → k ≤ n → number_at (take n (drop at xs)) 0 k ≡ number_at xs at k
unfolding number_at
number_at-part n at k xs room = little_from-take 0 k n (drop at xs) (omega arith) ∙ little_from-drop 0 k at xs ∙ (let e : at + 0 ≡ at = omega arith in rw e refl)

-- a number within the n bytes at a place
pub number_at-within : (n at i j k : ℕ) (xs : List ℕ) → i + k ≤ n → j ≡ at + i → number_at (take n (drop at xs)) i k ≡ number_at xs j k
unfolding number_at
number_at-within n at i j k xs room e = rw e (little_from-take i k n (drop at xs) room ∙ little_from-drop i k at xs)

-- the bytes of a number, read
pub number_at-le : (k n : ℕ) (rest : List ℕ) → n < 256 ^ k → number_at (le k n ++ rest) 0 k ≡ n
unfolding number_at le
number_at-le k n rest fits = little_number-reads_back k n rest fits

pub length-le : (k n : ℕ) → length (le k n) ≡ k
unfolding le
length-le k n = length-bytes_low_first 0 k n

little_from-past : (i k : ℕ) (xs ys : List ℕ) → little_from (length xs + i) k (xs ++ ys) ≡ little_from i k ys
little_from-past i zero xs ys = refl
little_from-past i (suc k) xs ys =
    let next = little_from-past (suc i) k xs ys in
    let place : length xs + suc i ≡ suc (length xs + i) = omega arith in
    rw (get_or-append-add, ← place, next) refl

-- a number behind a list of n bytes
pub number_at-past : (n o k : ℕ) (xs ys : List ℕ) → length xs ≡ n → number_at (xs ++ ys) (n + o) k ≡ number_at ys o k
unfolding number_at
number_at-past n o k xs ys len = rw (← len) (little_from-past o k xs ys)

-- a number that lies in the first part of two
pub number_at-front : (i k : ℕ) (xs ys : List ℕ) → i + k ≤ length xs → number_at (xs ++ ys) i k ≡ number_at xs i k
unfolding number_at
number_at-front i k xs ys room =
    sym (little_from-take i k (length xs) (xs ++ ys) room) ∙ ap (little_from i k) (take_at xs ys (length xs) refl)

-- a number whose bytes stand last
pub number_at-last : (k n i : ℕ) (xs : List ℕ) → length xs ≡ i → n < 256 ^ k → number_at (xs ++ le k n) i k ≡ n
number_at-last k n i xs len fits =
    let e : number_at (xs ++ le k n) (i + 0) k ≡ number_at (le k n) 0 k = number_at-past i 0 k xs (le k n) len in
    let z : i + 0 ≡ i = omega arith in
    let whole : number_at (le k n ++ []) 0 k ≡ n = number_at-le k n [] fits in
    (rw z at e) ∙ (rw append-nil at whole)

-- the bytes of a number that were written at a place stand behind what was before that place
pub put_number : (k at n : ℕ) (out buf bytes : List ℕ) → at + k ≤ length out → length bytes ≡ k → buf ≡ bytes ++ drop k (mid_of at n out)
    → take (at + k) (put_mid at n out buf) ≡ take at out ++ bytes
put_number k at n out buf bytes room len e =
    let before : length (take at out) ≡ at = length-take-le at out (omega arith) in
    let whole : put_mid at n out buf ≡ (take at out ++ bytes) ++ (drop k (mid_of at n out) ++ post_of at n out) = rw e (simp append_assoc) in
    rw whole (take_at (take at out ++ bytes) _ (at + k) (omega (arith, length-append (take at out) bytes, before, len)))

pub u8_at-part : (n o : ℕ) (F : List ℕ) → 1 ≤ n → number_at (take n (drop o F)) 0 1 ≡ number_at F o 1
u8_at-part n o F room = number_at-part n o 1 F room

pub u16_at-part : (n o : ℕ) (F : List ℕ) → 2 ≤ n → number_at (take n (drop o F)) 0 2 ≡ number_at F o 2
u16_at-part n o F room = number_at-part n o 2 F room

pub u32_at-part : (n o : ℕ) (F : List ℕ) → 4 ≤ n → number_at (take n (drop o F)) 0 4 ≡ number_at F o 4
u32_at-part n o F room = number_at-part n o 4 F room

pub u64_at-part : (n o : ℕ) (F : List ℕ) → 8 ≤ n → number_at (take n (drop o F)) 0 8 ≡ number_at F o 8
u64_at-part n o F room = number_at-part n o 8 F room

-- what a write of a whole number leaves in k bytes
pub written_whole : (k : ℕ) (old new bytes : List ℕ) → length old ≡ k → new ≡ bytes ++ drop k old → new ≡ bytes
written_whole k old new bytes len e =
    let none : drop k old ≡ [] = drop_all k old (omega arith) in
    rw none at e ∙ append-nil bytes

pub written_back : (k n : ℕ) (old new : List ℕ) → length old ≡ k → new ≡ le k n ++ drop k old → n < 256 ^ k → number_at new 0 k ≡ n
written_back k n old new len e fits =
    let whole : number_at (le k n ++ []) 0 k ≡ n = number_at-le k n [] fits in
    rw (written_whole k old new (le k n) len e, ← append-nil (le k n)) whole

-- ---- several numbers

numbers_at-within_from : (n at i k m : ℕ) (xs : List ℕ) → i + k * m ≤ n → numbers_at (take n (drop at xs)) i k m ≡ numbers_at xs (at + i) k m
unfolding numbers_at
numbers_at-within_from n at i k zero xs room = refl
numbers_at-within_from n at i k (suc m) xs room =
    let more : k * suc m ≡ k * m + k = mul-suc k m in
    let first = number_at-within n at i (at + i) k xs (omega (arith, more)) refl in
    let rest = numbers_at-within_from n at (i + k) k m xs (omega (arith, more)) in
    let place : at + (i + k) ≡ at + i + k = omega arith in
    rw (first, rest, place) refl

pub numbers_at-within : (n at i j k m : ℕ) (xs : List ℕ) → i + k * m ≤ n → j ≡ at + i → numbers_at (take n (drop at xs)) i k m ≡ numbers_at xs j k m
numbers_at-within n at i j k m xs room e = rw e (numbers_at-within_from n at i k m xs room)

pub numbers_at-past : (n o k m : ℕ) (xs ys : List ℕ) → length xs ≡ n → numbers_at (xs ++ ys) (n + o) k m ≡ numbers_at ys o k m
unfolding numbers_at
numbers_at-past n o k zero xs ys len = refl
numbers_at-past n o k (suc m) xs ys len =
    let first = number_at-past n o k xs ys len in
    let rest = numbers_at-past n (o + k) k m xs ys len in
    let place : n + o + k ≡ n + (o + k) = omega arith in
    rw (place, first, rest) refl

-- numbers read of their bytes
pub numbers_at-les : (k : ℕ) (xs rest : List ℕ) → ((i : ℕ) → slice_index xs i < 256 ^ k) → numbers_at (flat_map (le k) xs ++ rest) 0 k (length xs) ≡ xs
unfolding numbers_at
numbers_at-les k [] rest fits = refl
numbers_at-les k (x ∷ xs) rest fits =
    let tail = flat_map (le k) xs ++ rest in
    let split : flat_map (le k) (x ∷ xs) ++ rest ≡ le k x ++ tail = rw (flat_map-cons (le k) x xs) (append_assoc (le k x) (flat_map (le k) xs) rest) in
    let first : number_at (le k x ++ tail) 0 k ≡ x = number_at-le k x tail (fits 0) in
    let zero_place : 0 + k ≡ k + 0 = omega arith in
    let others : numbers_at (le k x ++ tail) (0 + k) k (length xs) ≡ xs = rw zero_place (numbers_at-past k 0 k (length xs) (le k x) tail (length-le k x) ∙ numbers_at-les k xs rest (λ i. fits (suc i))) in
    let both : numbers_at (le k x ++ tail) 0 k (suc (length xs)) ≡ x ∷ xs = λ i. first i ∷ others i in
    ap (λ b. numbers_at b 0 k (suc (length xs))) split ∙ both

pub u64s_at-part : (n o : ℕ) (F : List ℕ) → 120 ≤ n → numbers_at (take n (drop o F)) 0 8 15 ≡ numbers_at F o 8 15
u64s_at-part n o F room = let e : o ≡ o + 0 = omega arith in numbers_at-within n o 0 o 8 15 F (omega arith) e

pub cpu_at-part : (n o : ℕ) (F : List ℕ) → 24 ≤ n → array_at (take n (drop o F)) 0 24 ≡ array_at F o 24
unfolding array_at
cpu_at-part n o F room = take-take 24 n (drop o F) room

pub slice_index-numbers_at : (F : List ℕ) (o k n i : ℕ) → i < n → slice_index (numbers_at F o k n) i ≡ number_at F (o + k * i) k
unfolding numbers_at
slice_index-numbers_at F o k zero i lt = absurd (omega arith)
slice_index-numbers_at F o k (suc n) zero lt = let e : o + k * 0 ≡ o = omega arith in rw e refl
slice_index-numbers_at F o k (suc n) (suc i) lt =
    let e : o + k * suc i ≡ o + k + k * i = omega (arith, mul-suc k i) in
    rw e (slice_index-numbers_at F (o + k) k n i (omega arith))

pub length-numbers_at : (F : List ℕ) (o k n : ℕ) → length (numbers_at F o k n) ≡ n
unfolding numbers_at
length-numbers_at F o k zero = refl
length-numbers_at F o k (suc n) = ap suc (length-numbers_at F (o + k) k n)

-- numbers read one after the other
pub numbers_at_read : (k : ℕ) (src dst : List ℕ) → IsRead (λ n xs. number_at xs 0 n) k src dst → dst ≡ numbers_at src 0 k (length dst)
numbers_at_read k src dst read =
    same_number_lists dst (numbers_at src 0 k (length dst)) (sym (length-numbers_at src 0 k (length dst))) (λ i lt.
    read i lt ∙ number_at-drop (k * i) 0 k src ∙ (let e : k * i + 0 ≡ 0 + k * i = omega arith in rw e (sym (slice_index-numbers_at src 0 k (length dst) i lt))))

-- bytes within the n bytes at a place
pub array_at-within : (n at i j k : ℕ) (xs : List ℕ) → i + k ≤ n → j ≡ at + i → array_at (take n (drop at xs)) i k ≡ array_at xs j k
unfolding array_at
array_at-within n at i j k xs room e =
    let more : n ≡ i + (n - i) = omega arith in
    let whole : take k (drop i (take (i + (n - i)) (drop at xs))) ≡ take k (take (n - i) (drop i (drop at xs))) = ap (take k) (drop-take i (n - i) (drop at xs)) in
    ap (λ m. take k (drop i (take m (drop at xs)))) more ∙ whole ∙ take-take k (n - i) (drop i (drop at xs)) (omega arith) ∙ rw (drop-drop, ← e) refl

-- numbers of which only the first part of a list is read
pub numbers_at-front : (k m n : ℕ) (xs ys : List ℕ) → length xs ≡ n → n ≡ k * m → numbers_at (xs ++ ys) 0 k m ≡ numbers_at xs 0 k m
numbers_at-front k m n xs ys len e =
    sym (numbers_at-within n 0 0 0 k m (xs ++ ys) (omega arith) refl) ∙ ap (λ b. numbers_at b 0 k m) (take_at xs ys n len)

-- numbers that follow others
pub numbers_at-append : (F : List ℕ) (o k n m : ℕ) → numbers_at F o k (n + m) ≡ numbers_at F o k n ++ numbers_at F (o + k * n) k m
unfolding numbers_at
numbers_at-append F o k zero m =
    let place : o + k * 0 ≡ o = omega arith in
    let none : zero + m ≡ m = omega arith in
    rw (place, none) refl
numbers_at-append F o k (suc n) m =
    let place : o + k * suc n ≡ o + k + k * n = omega (arith, mul-suc k n) in
    let more : suc n + m ≡ suc (n + m) = omega arith in
    rw (place, more) (ap (λ t. number_at F o k ∷ t) (numbers_at-append F (o + k) k n m))

-- how many bytes they take
pub length-les : (k : ℕ) (xs : List ℕ) → length (les k xs) ≡ k * length xs
length-les k [] = omega arith
length-les k (x ∷ xs) =
    let one : length (le k x) ≡ k = length-le k x in
    let both : length (les k (x ∷ xs)) ≡ length (le k x) + length (les k xs) = ap length (flat_map-cons (le k) x xs) ∙ length-append (le k x) (les k xs) in
    omega (arith, one, both, length-les k xs, mul-suc k (length xs))
