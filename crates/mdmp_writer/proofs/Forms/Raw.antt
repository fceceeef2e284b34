-- Raw bytes are written, and read again; an unused stream has none.
use Rattle.std.proofs.Common.{◌≡◌, ◌<◌, ◌^◌, ℕ, List, [], ◌∷◌, length, refl, arith, Option, Some, None}
use Rattle.std.specs.Prelude.{false, is_some, ◌==◌}
use Rattle.std.proofs.lemmas.Bool.{or_parts, true≢false}
use Rattle.mdmp_wire.specs.Number.{array_at}
use Rattle.mdmp_lister.specs.declared.kind.StreamKind.{StreamKind}
use Rattle.mdmp_lister.specs.Format.Kind.{kind_of}
use Rattle.mdmp_dump.specs.declared.dump.Stream.TheVariants as streams
use Rattle.mdmp_dump.specs.LaysOut.{HasBytes}
use Rattle.mdmp_dump.specs.Places.{bytes_location}
use Rattle.mdmp_dump.specs.Shape.{rooms}
use Rattle.mdmp_writer.specs.Written.{all_padded, parts_of}
use Rattle.mdmp_writer.proofs.Standing.{Stands, stands_inside}
use Rattle.mdmp_writer.proofs.ReadBack.{IsReadBack, located}

none_known : (o : Option StreamKind) → is_some o ≡ false → o ≡ None
none_known None unknown = refl
none_known (Some k) unknown = absurd (true≢false unknown)

raw_stands : (F : List ℕ) (t at : ℕ) (bytes : List ℕ) → ((t == 0) ≡ false) × (is_some (kind_of t) ≡ false) → Stands F at bytes → HasBytes F (bytes_location (length bytes) at) t bytes
unfolding array_at
raw_stands F t at [] named s = record { used = named.0; opaque = none_known (kind_of t) named.1; inside = refl; bytes_are = refl }
raw_stands F t at (x ∷ xs) named s =
    located (λ l. HasBytes F l t (x ∷ xs)) (length (x ∷ xs)) at (omega arith)
    (record { used = named.0; opaque = none_known (kind_of t) named.1; inside = stands_inside F at (length (x ∷ xs)) (x ∷ xs) refl s; bytes_are = s.part })

nothing_behind : length (all_padded (parts_of [])) ≡ rooms []
unfolding all_padded parts_of rooms
nothing_behind = refl

module _ {Z : Type 0} where
  pub raw_read : (t : ℕ) (bytes : List ℕ) → t < 2 ^ 32 → IsReadBack {Z = Z} (streams.Raw t bytes)
  raw_read t bytes fits = record {
    type_is = refl;
    type_fits = fits;
    body = λ at far. refl;
    behind = nothing_behind;
    memory = refl;
    stands = λ F at place far named pos e low near there behind beyond. raw_stands F t at bytes (or_parts (t == 0) (is_some (kind_of t)) named) there;
  }

  pub unused_read : IsReadBack {Z = Z} streams.Unused
  unused_read = record {
    type_is = refl;
    type_fits = omega arith;
    body = λ at far. refl;
    behind = nothing_behind;
    memory = refl;
    stands = λ F at place far named pos e low near there behind beyond. tt;
  }
