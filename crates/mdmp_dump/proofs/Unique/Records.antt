-- The records of a stream are those of one list.
use Rattle.std.proofs.Common.{◌≡◌, ℕ, ◌+◌, ◌*◌, List, [], ◌∷◌, length, refl, ap, sym, subst, ◌∙◌, arith}
use Rattle.mdmp_source.specs.declared.location.Location.{Location}
use Rattle.mdmp_lister.specs.declared.kind.StreamKind.{StreamKind}
use Rattle.mdmp_lister.specs.declared.shape.Shape.{Shape}
use Rattle.mdmp_dump.specs.LaysOut.{EachFrom, HasRecords}

-- one value stands at each place
abbrev pub IsUnique : {X : Type 0} → (ℕ → ℕ → X → Type 0) → Type 0
IsUnique {X = X} IsAt = (k o : ℕ) (x y : X) → IsAt k o x → IsAt k o y → x ≡ y

each_unique : {X : Type 0} (IsAt : ℕ → ℕ → X → Type 0) → IsUnique IsAt → (at stride k : ℕ) (xs ys : List X) → length xs ≡ length ys → EachFrom IsAt at stride k xs → EachFrom IsAt at stride k ys → xs ≡ ys
each_unique IsAt one at stride k [] [] len p q = refl
each_unique IsAt one at stride k [] (y ∷ ys) len p q = absurd (omega (arith, len))
each_unique IsAt one at stride k (x ∷ xs) [] len p q = absurd (omega (arith, len))
each_unique IsAt one at stride k (x ∷ xs) (y ∷ ys) len p q =
    let head = one k (at + k * stride) x y p.0 q.0 in
    let tail = each_unique IsAt one at stride (k + 1) xs ys (omega (arith, len)) p.1 q.1 in
    λ i. head i ∷ tail i

pub records_unique : {X : Type 0} {F : List ℕ} {l : Location} {kind : StreamKind} (IsAt : ℕ → ℕ → X → Type 0) → IsUnique IsAt → (xs ys : List X) → HasRecords F l kind IsAt xs → HasRecords F l kind IsAt ys → xs ≡ ys
records_unique {l = l} IsAt one xs ys p q =
    let shape : q.shape ≡ p.shape = cc (p.shaped, q.shaped) in
    let count : q.shape.count ≡ p.shape.count = ap (λ (s : Shape). s.count) shape in
    let each = subst (λ (s : Shape). EachFrom IsAt (l.rva + s.first) s.stride 0 ys) shape q.each in
    each_unique IsAt one (l.rva + p.shape.first) p.shape.stride 0 xs ys (sym p.count ∙ sym count ∙ q.count) p.each each

-- the same of a stream that is one record
pub record_unique : {X : Type 0} {F : List ℕ} {l : Location} {kind : StreamKind} (IsAt : ℕ → ℕ → X → Type 0) → IsUnique IsAt → (x y : X) → HasRecords F l kind IsAt (x ∷ []) → HasRecords F l kind IsAt (y ∷ []) → x ≡ y
record_unique IsAt one x y p q = let e = records_unique IsAt one (x ∷ []) (y ∷ []) p q in cc e
