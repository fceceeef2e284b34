-- The records of a stream are listed without a fault, and what their items ask is taken.
use Rattle.std.proofs.Common.{◌≡◌, ◌∙◌, ◌+◌, ◌*◌, ◌==◌, ◌||◌, ◌&&◌, ℕ, Bool, true, false, List, [], ◌∷◌, length, Some, None, Ok, ap, arith, refl, subst, sym, if◌then◌else◌}
use Rattle.std.specs.Prelude.{All, not, sum_by}
use Rattle.std.proofs.lemmas.List.Elements.{All-head, All-tail}
use Rattle.std.proofs.lemmas.List.Sums.{sum_by-cons}
use Rattle.mdmp_source.specs.Range.{is_inside}
use Rattle.mdmp_source.specs.declared.location.Location.{Location}
use Rattle.mdmp_lister.specs.declared.fault.Fault.{Fault}
use Rattle.mdmp_lister.specs.declared.item.Item.{Item}
use Rattle.mdmp_lister.specs.declared.kind.StreamKind.{StreamKind}
use Rattle.mdmp_lister.specs.declared.shape.Shape.{Shape}
use Rattle.mdmp_lister.specs.Format.Item.{item_at}
use Rattle.mdmp_lister.specs.Format.Kind.{kind_of}
use Rattle.mdmp_lister.specs.Format.Listing.{Numbered, entry_body, entry_listing, items_from, item_then, stream_item}
use Rattle.mdmp_lister.specs.Format.Shape.{location_fault, record_count}
use Rattle.mdmp_dump.specs.LaysOut.{EachFrom, HasBytes, HasRecords}
use Rattle.mdmp_dump.specs.Refusal.{Take, item_steps, stream_steps}
use Rattle.mdmp_dump.proofs.Within.Part.{length-array_at}
use Rattle.mdmp_dump.proofs.Within.Steps.{IsTaken, none_taken, one_taken}
use Rattle.mdmp_dump.proofs.Within.Runs.{IsRunTaken, item_taken, nothing_taken}

-- the item of a record is given, and asks for so many bytes
pub record IsItemTaken (F : List ℕ) (limit e k at o : ℕ) (kind : StreamKind) (bytes : ℕ) : Type 0 where
  pub item : Item
  pub given : item_at F limit e k at o kind ≡ Ok item
  pub steps : IsTaken (item_steps (length F) item) bytes

-- that of each of these values, where it fits the limits, which asks for the value's bytes
abbrev pub AreTaken : {X : Type 0} → List ℕ → ℕ → ℕ → ℕ → StreamKind → (ℕ → ℕ → X → Type 0) → (X → Type 0) → (X → ℕ) → Type 0
AreTaken {X} F limit e at kind IsAt Fits bytes = (k o : ℕ) (x : X) → IsAt k o x → Fits x → IsItemTaken F limit e k at o kind (bytes x)

-- a location that lies inside has no fault, whatever the type
inside_placed : (t : ℕ) (at : Location) (z : ℕ) → is_inside at.rva at.size z ≡ true → location_fault z (record { stream_type = t; location = at }) ≡ None
inside_placed t at z inside = rw inside (by (t == 0) _) where
  by : (unused : Bool) (f : Fault) → (if unused || true then None else Some f) ≡ None
  by true f = refl
  by false f = refl

module _ {X : Type 0} (F : List ℕ) (limit e at : ℕ) (kind : StreamKind) (IsAt : ℕ → ℕ → X → Type 0) (Fits : X → Type 0) (bytes : X → ℕ) (are : AreTaken F limit e at kind IsAt Fits bytes) where
  -- the items of records that stand one behind the other
  items_taken : (shape : Shape) (k : ℕ) (xs : List X) → EachFrom IsAt (at + shape.first) shape.stride k xs → All Fits xs
      → IsRunTaken (length F) (items_from F limit e at kind shape (length xs) k) (sum_by bytes xs)
  items_taken shape k [] each fit = nothing_taken
  items_taken shape k (x ∷ xs) each fit =
      let one = are k (at + shape.first + k * shape.stride) x each.0 (All-head Fits x xs fit) in
      let rest = items_taken shape (k + 1) xs each.1 (All-tail Fits x xs fit) in
      let all : IsRunTaken (length F) (item_then e k (item_at F limit e k at (at + shape.first + k * shape.stride) kind) (items_from F limit e at kind shape (length xs) (k + 1))) (bytes x + sum_by bytes xs) =
      rw one.given (item_taken one.steps rest) in
      subst (λ (n : ℕ). IsRunTaken (length F) (items_from F limit e at kind shape (length (x ∷ xs)) k) n) (sym (sum_by-cons bytes x xs)) all

-- ---- streams

-- a stream of a known kind is not asked for as bytes
known_unasked : (size e t : ℕ) (at : Location) (kind : StreamKind) → kind_of t ≡ Some kind → stream_steps size e t at ≡ []
known_unasked size e t at kind known = rw known (by (not (t == 0)) (is_inside at.rva at.size size)) where
  by : (used inside : Bool) → (if used && false && inside then Take e 0 at.rva at.size ∷ [] else []) ≡ []
  by true inside = refl
  by false inside = refl

-- values without bytes have none together
pub sum_by-none : {X : Type 0} (xs : List X) → sum_by (λ x. 0) xs ≡ 0
sum_by-none [] = refl
sum_by-none (x ∷ xs) = sum_by-none xs

module _ {X : Type 0} (F : List ℕ) (at : Location) (kind : StreamKind) (IsAt : ℕ → ℕ → X → Type 0) (xs : List X) (has : HasRecords F at kind IsAt xs) (t : ℕ) (known : kind_of t ≡ Some kind) where
  -- what an entry of this type gives behind its Stream item
  body_taken : (limit e : ℕ) (Fits : X → Type 0) (bytes : X → ℕ) → AreTaken F limit e at.rva kind IsAt Fits bytes → All Fits xs
      → IsRunTaken (length F) (entry_body F limit (record { number = e; entry = record { stream_type = t; location = at } })) (sum_by bytes xs)
  body_taken limit e Fits bytes are fit =
      rw (inside_placed t at (length F) has.inside, known, has.shaped, has.count) (items_taken F limit e at.rva kind IsAt Fits bytes are has.shape 0 xs has.each fit)

  -- and all that it gives
  pub entry_taken : (limit e : ℕ) (Fits : X → Type 0) (bytes : X → ℕ) → AreTaken F limit e at.rva kind IsAt Fits bytes → All Fits xs → (all : ℕ) → sum_by bytes xs ≡ all
      → IsRunTaken (length F) (entry_listing F limit (record { number = e; entry = record { stream_type = t; location = at } })) all
  entry_taken limit e Fits bytes are fit all sum =
      let entry : Numbered = record { number = e; entry = record { stream_type = t; location = at } } in
      let asked : IsTaken (item_steps (length F) (stream_item entry)) 0 = rw (known_unasked (length F) e t at kind known) none_taken in
      let total : 0 + sum_by bytes xs ≡ all = omega (arith, sum) in
      subst (λ (n : ℕ). IsRunTaken (length F) (entry_listing F limit entry) n) total (item_taken asked (body_taken limit e Fits bytes are fit))

  -- the same of records that ask for nothing, whatever their values
  pub entry_unasked : (limit e : ℕ) → ((k o : ℕ) → IsItemTaken F limit e k at.rva o kind 0)
      → IsRunTaken (length F) (entry_listing F limit (record { number = e; entry = record { stream_type = t; location = at } })) 0
  entry_unasked limit e any = entry_taken limit e (λ x. Unit {0}) (λ x. 0) (λ k o x is fits. any k o) (λ k d lt. tt) 0 (sum_by-none xs)

  -- the entry has as many records as the stream
  pub records_counted : record_count F (record { stream_type = t; location = at }) ≡ Ok (length xs)
  records_counted = rw (inside_placed t at (length F) has.inside, known, has.shaped, has.count) refl

-- the bytes of a stream whose records are not known
pub raw_taken : (F : List ℕ) (limit e : ℕ) (at : Location) (t : ℕ) (bytes : List ℕ) → HasBytes F at t bytes
    → IsRunTaken (length F) (entry_listing F limit (record { number = e; entry = record { stream_type = t; location = at } })) (length bytes)
raw_taken F limit e at t bytes has =
    let entry : Numbered = record { number = e; entry = record { stream_type = t; location = at } } in
    let asked : IsTaken (item_steps (length F) (stream_item entry)) at.size = rw (has.used, has.opaque, has.inside) (one_taken e 0 at.rva at.size) in
    let behind : IsRunTaken (length F) (entry_body F limit entry) 0 = rw (inside_placed t at (length F) has.inside, has.opaque) nothing_taken in
    let size : length bytes ≡ at.size = ap length (sym has.bytes_are) ∙ length-array_at F at.rva at.size has.inside in
    let total : at.size + 0 ≡ length bytes = omega (arith, size) in
    subst (λ (n : ℕ). IsRunTaken (length F) (entry_listing F limit entry) n) total (item_taken asked behind)
