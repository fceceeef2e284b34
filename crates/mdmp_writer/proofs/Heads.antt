-- The shape of a stream behind a head that counts its records, as it is written.
use Rattle.std.proofs.Common.{◌≡◌, ℕ, ◌+◌, ◌*◌, ◌^◌, ◌<◌, List, ◌++◌, refl, arith}
use Rattle.std.specs.Prelude.{Ok, Err, false, ◌==◌, nat_lt, if◌then◌else◌}
use Rattle.std.proofs.lemmas.Bool.{le-ltb, ne_eqb, and_right}
use Rattle.mdmp_wire.specs.Number.{le, number_at}
use Rattle.mdmp_lister.specs.declared.fault.Fault.{Fault}
use Rattle.mdmp_lister.specs.declared.shape.Shape.{Shape}
use Rattle.mdmp_lister.specs.Format.Shape.{counted, sized}
use Rattle.mdmp_writer.proofs.Standing.{Stands, stands_number}

abbrev pub shape_from : ℕ → ℕ → ℕ → Shape
shape_from first stride count = record { first = first; stride = stride; count = count }

-- behind a count
pub counted_shape : (F : List ℕ) (at size c : ℕ) (rest : List ℕ) (f : Fault) → c < 2 ^ 32 → Stands F at (le 4 c ++ rest)
    → (if nat_lt (4 + c * size) 4 then Err f else counted at (4 + c * size) size (number_at F at 4)) ≡ Ok (shape_from 4 size c)
counted_shape F at size c rest f low s =
    let number = stands_number F at 4 c rest low s in
    let long : nat_lt (4 + c * size) 4 ≡ false = le-ltb (4 + c * size) 4 (omega arith) in
    let fits : nat_lt (4 + c * size) (4 + c * size) ≡ false = le-ltb (4 + c * size) (4 + c * size) (omega arith) in
    let exact : (4 + c * size == 8 + c * size) ≡ false = ne_eqb (4 + c * size) (8 + c * size) (λ e. omega (arith, e)) in
    rw (long, number, fits, exact) refl

-- behind a head that says its own size
pub sized_shape : (at head size c : ℕ) (f : Fault) (x y z : ℕ) → x ≡ head → y ≡ size → z ≡ c
    → (if nat_lt (head + c * size) head then Err f else sized at (head + c * size) head size x y z) ≡ Ok (shape_from head size c)
sized_shape at head size c f x y z first stride count =
    let long : nat_lt (head + c * size) head ≡ false = le-ltb (head + c * size) head (omega arith) in
    let same : nat_lt head head ≡ false = le-ltb head head (omega arith) in
    let wide : nat_lt size size ≡ false = le-ltb size size (omega arith) in
    let never = and_right (nat_lt 0 c) (nat_lt size size) wide in
    let fits : nat_lt (head + c * size) (head + c * size) ≡ false = le-ltb (head + c * size) (head + c * size) (omega arith) in
    rw (first, stride, count, long, same, never, fits) refl
