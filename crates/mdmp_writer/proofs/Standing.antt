-- Bytes that stand at a place of a file, and what is read of them there.
use Rattle.std.proofs.Common.{◌≡◌, ℕ, zero, suc, ◌+◌, ◌-◌, ◌^◌, ◌<◌, ◌≤◌, List, ◌++◌, length, take, drop, refl, ap, sym, subst, ◌∙◌, arith, length-append, length-drop}
use Rattle.std.specs.Prelude.{IsTrue, true, nat_le}
use Rattle.std.proofs.lemmas.List.{take-take, drop-take, drop-drop, take_all, take_at, drop_at, length-take}
use Rattle.std.proofs.lemmas.Bool.{or_right, le-leb}
use Rattle.mdmp_source.specs.Range.{is_inside}
use Rattle.mdmp_wire.specs.Number.{number_at, le, array_at}
use Rattle.mdmp_wire.specs.NumberLaws.{number_at-part, number_at-le, length-le}

-- these bytes stand in F at a place
pub record Stands (F : List ℕ) (at : ℕ) (xs : List ℕ) : Type 0 where
  pub part : take (length xs) (drop at F) ≡ xs

-- a whole file stands at 0
pub stands_whole : (F : List ℕ) → Stands F 0 F
stands_whole F = record { part = take_all (length F) F (omega arith) }

pub stands_same : (F : List ℕ) (at : ℕ) (xs ys : List ℕ) → xs ≡ ys → Stands F at xs → Stands F at ys
stands_same F at xs ys same s = subst (λ (zs : List ℕ). Stands F at zs) same s

pub stands_first : (F : List ℕ) (at : ℕ) (xs ys : List ℕ) → Stands F at (xs ++ ys) → Stands F at xs
stands_first F at xs ys s = record {
  part =
      let room : length xs ≤ length (xs ++ ys) = omega (arith, length-append xs ys) in
      sym (take-take (length xs) (length (xs ++ ys)) (drop at F) room) ∙ ap (take (length xs)) s.part ∙ take_at xs ys (length xs) refl;
}

pub stands_second : (F : List ℕ) (at n j : ℕ) (xs ys : List ℕ) → length xs ≡ n → j ≡ at + n → Stands F at (xs ++ ys) → Stands F j ys
stands_second F at n j xs ys len place s = record {
  part =
      let whole : take (n + length ys) (drop at F) ≡ xs ++ ys = rw (sym (ap (λ m. m + length ys) len), ← length-append xs ys) s.part in
      rw (place, ← drop-drop n at F, ← drop-take n (length ys) (drop at F), whole) (drop_at xs ys n len);
}

-- they lie inside the file
pub stands_room : (F : List ℕ) (at : ℕ) (xs : List ℕ) → Stands F at xs → length xs ≤ length F - at
stands_room F at xs s = omega (arith, ap length s.part, length-take (length xs) (drop at F), length-drop at F)

pub stands_inside : (F : List ℕ) (at n : ℕ) (xs : List ℕ) → length xs ≡ n → Stands F at xs → IsTrue (is_inside at n (length F))
stands_inside F at zero xs len s = refl
stands_inside F at (suc n) xs len s = or_right _ _ (le-leb (at + suc n) (length F) (omega (arith, stands_room F at xs s, len)))

pub stands_le : (F : List ℕ) (at n : ℕ) (xs : List ℕ) → length xs ≡ n → 0 < n → Stands F at xs → nat_le (at + n) (length F) ≡ true
stands_le F at n xs len some s = le-leb (at + n) (length F) (omega (arith, stands_room F at xs s, len))

-- a number is read of its bytes
pub stands_number : (F : List ℕ) (at k n : ℕ) (rest : List ℕ) → n < 256 ^ k → Stands F at (le k n ++ rest) → number_at F at k ≡ n
stands_number F at k n rest fits s =
    let room : k ≤ length (le k n ++ rest) = omega (arith, length-append (le k n) rest, length-le k n) in
    sym (number_at-part (length (le k n ++ rest)) at k F room) ∙ ap (λ b. number_at b 0 k) s.part ∙ number_at-le k n rest fits

-- and a record of its own
pub stands_record : {X : Type 0} (at : List ℕ → ℕ → X) (size : ℕ) → ((n o : ℕ) (F : List ℕ) → size ≤ n → at (take n (drop o F)) 0 ≡ at F o)
    → (F : List ℕ) (o : ℕ) (bytes : List ℕ) (x : X) → length bytes ≡ size → at bytes 0 ≡ x → Stands F o bytes → at F o ≡ x
stands_record at size part F o bytes x len back s =
    sym (part (length bytes) o F (omega arith)) ∙ ap (λ b. at b 0) s.part ∙ back

-- bytes
pub stands_bytes : (F : List ℕ) (at n : ℕ) (xs : List ℕ) → length xs ≡ n → Stands F at xs → array_at F at n ≡ xs
unfolding array_at
stands_bytes F at n xs len s = rw (← len) s.part
