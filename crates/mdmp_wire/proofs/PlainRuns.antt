-- Units that are printed as they are, several at a time.
use Rattle.std.proofs.Common.{◌≡◌, ◌∙◌, ℕ, zero, suc, ◌+◌, ◌*◌, ◌/◌, ◌%◌, ◌^◌, ◌<◌, ◌≤◌, eqb, leb, ltb, Bool, true, false, cond, not, ◌&&◌, List, [], ◌∷◌, ◌++◌, map, length, get_or, slice_index, take, drop, bit_and, bit_or, codes, subst, refl, ap, sym, arith, Fits, w8}
use Rattle.std.proofs.Math.Seq.{take-append-add}
use Rattle.std.proofs.lemmas.Bool.Decides.{nat_tests}
use Rattle.std.proofs.lemmas.Grind.{same_number_lists}
use Rattle.std.proofs.lemmas.List.{drop_more, get_or-drop, get_or-take, length-map, length-drop, length-take-le, take-take}
use Rattle.std.proofs.lemmas.Nat.{and_mask}
use Rattle.std.proofs.Math.Facts.{Fits-mask}
use Rattle.std.proofs.lemmas.Simd.{Each1-all, Each1-zip2, Each2-splat, get_or_wider, length-chunk, leading_from_mask_l, map-map, mask_l-mod, take_more_put_chunk, trailing_mask_l, zip2_of_maps, zip2_splat, zip2_splat_left}
use Rattle.std.proofs.lemmas.List.Sums.{prefix_len-le-length, prefix_len_stops}
use Rattle.std.specs.List.{prefix_len}
use lib.Count.{count_trailing_zeros}
use lib.ListN.{replicate}
use lib.Lanes.{Each1, chunk, digits_l, mask_l, number_l, put_chunk, top, zip2}
use Rattle.mdmp_wire.specs.Digits.{hex}
use Rattle.mdmp_wire.specs.Escape.{escaped, escaped_unit, is_plain}
use Rattle.mdmp_wire.specs.Number.{number_at}
use Rattle.mdmp_wire.specs.NumberLaws.{length-numbers_at, number_at-within, slice_index-numbers_at}
use Rattle.mdmp_wire.specs.Units.{units_of}

-- ---- bytes as units

pair_at : (bytes : List ℕ) (o : ℕ) → o + 2 ≤ length bytes → number_l 256 (chunk o 2 bytes) ≡ number_at bytes o 2
unfolding number_at
pair_at bytes o room =
    let first : o < length bytes = omega arith in
    let next : o + 1 < length bytes = omega arith in
    let place : o + 1 ≡ suc o = omega arith in
    rw (drop_more bytes o 0 first, drop_more bytes (o + 1) 0 next, place) refl

length-digits_l : (q n x : ℕ) → length (digits_l q n x) ≡ n
length-digits_l q zero x = refl
length-digits_l q (suc n) x = ap suc (length-digits_l q n (x / q))

pub lanes_are_units : (bytes : List ℕ) (i n : ℕ) → 2 * (i + n) ≤ length bytes → Each1 (λ b. b < 256) (chunk (2 * i) (2 * n) bytes)
    → digits_l 65536 n (number_l 256 (chunk (2 * i) (2 * n) bytes)) ≡ take n (drop i (units_of bytes))
lanes_are_units bytes i n room small =
    let xs = chunk (2 * i) (2 * n) bytes in
    let units = units_of bytes in
    let count = length-numbers_at bytes 0 2 (length bytes / 2) in
    let long : length xs ≡ 2 * n = length-chunk (2 * i) (2 * n) bytes (omega arith) in
    let taken : length (take n (drop i units)) ≡ n = length-take-le n (drop i units) (omega (arith, length-drop i units, count)) in
    let lanes = length-digits_l 65536 n (number_l 256 xs) in
    same_number_lists _ _ (lanes ∙ sym taken) (λ k lt.
    let below : k < n = omega (arith, lt, lanes) in
    let place : 0 + 2 * (i + k) ≡ 2 * (i + k) = omega arith in
    let unit = get_or-take n (drop i units) k 0 below ∙ get_or-drop i units k 0 ∙ slice_index-numbers_at bytes 0 2 (length bytes / 2) (i + k) (omega arith) in
    get_or_wider 256 2 65536 n xs k refl small below
    ∙ pair_at xs (2 * k) (omega arith)
    ∙ number_at-within (2 * n) (2 * i) (2 * k) (2 * (i + k)) 2 bytes (omega arith) (omega arith)
    ∙ sym (rw place at unit))

-- ---- the first unit that isn't printed as it is

-- a comparison of two lanes
abbrev below : ℕ → ℕ → ℕ
below a b = cond (ltb a b) 65535 0

abbrev same : ℕ → ℕ → ℕ
same a b = cond (eqb a b) 65535 0

-- a lane is all ones where its unit isn't printed as it is, and else 0
abbrev pub stops : List ℕ → List ℕ
stops v = zip2 bit_or (zip2 bit_or (zip2 below v (replicate 8 32)) (zip2 below (replicate 8 126) v)) (zip2 same v (replicate 8 92))

abbrev stop : ℕ → ℕ
stop x = bit_or (bit_or (below x 32) (below 126 x)) (same x 92)

all_clear : (a b c : Bool) → not (top 15 (bit_or (bit_or (cond a 65535 0) (cond b 65535 0)) (cond c 65535 0))) ≡ (not a && not b && not c)
all_clear true true true = refl
all_clear true true false = refl
all_clear true false true = refl
all_clear true false false = refl
all_clear false true true = refl
all_clear false true false = refl
all_clear false false true = refl
all_clear false false false = refl

not_ltb : (a b : ℕ) → not (ltb a b) ≡ leb b a
not_ltb a b = grind (arith, nat_tests)

clear_is_plain : (x : ℕ) → not (top 15 (stop x)) ≡ is_plain x
clear_is_plain x = all_clear (ltb x 32) (ltb 126 x) (eqb x 92) ∙ rw (not_ltb x 32, not_ltb 126 x) refl

module _ (v : List ℕ) (long : length v ≡ 8) where
  mask_is : mask_l (map (top 15) (stops v)) % 2 ^ 64 ≡ mask_l (map (λ x. top 15 (stop x)) v)
  mask_is =
      let control = zip2_splat below v 8 32 long in
      let wide = zip2_splat_left below 126 8 v long in
      let backslash = zip2_splat same v 8 92 long in
      let lanes : stops v ≡ map stop v = zip2_of_maps bit_or _ _ v (zip2_of_maps bit_or _ _ v control wide) backslash in
      ap (λ (z : List ℕ). mask_l (map (top 15) z) % 2 ^ 64) lanes
      ∙ ap (λ (z : List Bool). mask_l z % 2 ^ 64) (map-map (top 15) stop v)
      ∙ mask_l-mod (map (λ x. top 15 (stop x)) v) 64 (omega (arith, length-map v (λ x. top 15 (stop x)), long))

  run_is : prefix_len (λ x. not (top 15 (stop x))) v ≡ prefix_len is_plain v
  run_is = ap (λ (p : ℕ → Bool). prefix_len p v) (λ i x. clear_is_plain x i)

  pub none_stops : mask_l (map (top 15) (stops v)) % 2 ^ 64 ≡ 0 → 8 ≡ prefix_len is_plain v
  none_stops none = sym (sym run_is ∙ leading_from_mask_l (λ x. top 15 (stop x)) v (sym mask_is ∙ none) ∙ long)

  pub one_stops : (mask_l (map (top 15) (stops v)) % 2 ^ 64 ≡ 0 → ⊥) → count_trailing_zeros 64 (mask_l (map (top 15) (stops v)) % 2 ^ 64) ≡ prefix_len is_plain v
  one_stops some =
      let mask = mask_l (map (top 15) (stops v)) % 2 ^ 64 in
      let above : 0 < mask_l (map (λ x. top 15 (stop x)) v) = omega (arith, mask_is, some) in
      ap (count_trailing_zeros 64) mask_is ∙ trailing_mask_l (λ x. top 15 (stop x)) 64 v (omega arith) above ∙ run_is

-- the unit behind the run, where one of the n stops it
pub unit_stops : (i n r : ℕ) (units v : List ℕ) → v ≡ take n (drop i units) → i + n ≤ length units → r ≡ prefix_len is_plain v → r < n
    → escaped_unit (slice_index units (i + r)) ≡ codes "\\u" ++ hex 4 (slice_index units (i + r))
unit_stops i n r units v is room run short =
    let long : length v ≡ n = rw is (length-take-le n (drop i units) (omega (arith, length-drop i units))) in
    let unit : get_or v r 0 ≡ get_or units (i + r) 0 = rw is (get_or-take n (drop i units) r 0 short ∙ get_or-drop i units r 0) in
    let stopped : is_plain (get_or v (prefix_len is_plain v) 0) ≡ false = prefix_len_stops is_plain v 0 (omega arith) in
    let other : is_plain (get_or units (i + r) 0) ≡ false = subst (λ (x : ℕ). is_plain x ≡ false) unit (rw (← run) at stopped) in
    rw other refl

-- ---- what is put

low_of : (x : ℕ) → is_plain x ≡ true → bit_and x 127 ∷ [] ≡ escaped_unit x
low_of x plain =
    let small : x ≤ 126 = grind (arith, nat_tests) in
    let low : bit_and x 127 ≡ x = and_mask x 7 ∙ omega arith in
    rw (plain, low) refl

run_text : (v : List ℕ) → take (prefix_len is_plain v) (map (λ x. bit_and x 127) v) ≡ escaped (take (prefix_len is_plain v) v)
run_text [] = refl
run_text (x ∷ xs) =
    let low : ℕ → ℕ = λ x. bit_and x 127 in
    let r = prefix_len is_plain xs in
    let one : 1 + r ≡ suc r = omega arith in
    let step : (b : Bool) → is_plain x ≡ b → take (cond b (1 + r) 0) (low x ∷ map low xs) ≡ escaped (take (cond b (1 + r) 0) (x ∷ xs)) =
    λ b. elim b as (λ b. is_plain x ≡ b → take (cond b (1 + r) 0) (low x ∷ map low xs) ≡ escaped (take (cond b (1 + r) 0) (x ∷ xs))) [
      | true ↦ λ plain. rw one (ap (λ (t : List ℕ). t ++ take r (map low xs)) (low_of x plain) ∙ ap (λ (t : List ℕ). escaped_unit x ++ t) (run_text xs))
      | false ↦ λ plain. refl
    ] in
    step (is_plain x) refl

pub lows_fit : (v : List ℕ) → Each1 (Fits w8) (zip2 bit_and v (replicate 8 127))
lows_fit v = Each1-zip2 bit_and (Fits w8) v (replicate 8 127) (Each2-splat (λ a b. Fits w8 (bit_and a b)) v 8 127 (Each1-all (λ a. Fits w8 (bit_and a 127)) (λ a. Fits-mask a 7 tt) v))

pub put_text : (len r : ℕ) (text v : List ℕ) → length v ≡ 8 → len + 8 ≤ length text → r ≡ prefix_len is_plain v
    → take (len + r) (put_chunk len text (map (λ x. x) (zip2 bit_and v (replicate 8 127)))) ≡ take len text ++ escaped (take r v)
put_text len r text v long room is =
    let low = map (λ x. bit_and x 127) v in
    let count : length low ≡ 8 = length-map v (λ x. bit_and x 127) ∙ long in
    let few : len + r ≤ len + 8 = omega (arith, is, long, prefix_len-le-length is_plain v) in
    let front = length-take-le len text (omega arith) in
    let whole : take (len + 8) (put_chunk len text low) ≡ take len text ++ low = take_more_put_chunk len text low (len + 8) (omega (arith, count)) room in
    let lanes : map (λ (x : ℕ). x) (zip2 bit_and v (replicate 8 127)) ≡ low = ap (map (λ (x : ℕ). x)) (zip2_splat {Y = ℕ} bit_and v 8 127 long) ∙ map-map (λ (x : ℕ). x) (λ x. bit_and x 127) v in
    ap (λ (t : List ℕ). take (len + r) (put_chunk len text t)) lanes
    ∙ sym (take-take (len + r) (len + 8) (put_chunk len text low) few)
    ∙ ap (take (len + r)) whole
    ∙ (rw front at (take-append-add (take len text) low r))
    ∙ ap (λ (t : List ℕ). take len text ++ t) (rw is (run_text v))
