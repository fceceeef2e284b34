-- What is shown of each kind of stream: that what is written of it is read again.
use Rattle.std.proofs.Common.{◌≡◌, ℕ, zero, suc, ◌+◌, ◌*◌, ◌^◌, ◌<◌, List, [], ◌++◌, length, map, refl, ap, arith, length-append}
use Rattle.std.specs.Prelude.{All, Ok, false, ◌==◌, if◌then◌else◌}
use Rattle.std.proofs.lemmas.Bool.{ne_eqb}
use Rattle.std.proofs.lemmas.List.{length-map}
use Rattle.std.proofs.lemmas.List.Elements.{recursion_from_All}
use Rattle.mdmp_source.specs.declared.location.Location.{Location}
use Rattle.mdmp_lister.specs.declared.kind.StreamKind.{StreamKind}
use Rattle.mdmp_lister.specs.Format.Shape.{shape_of}
use Rattle.mdmp_dump.specs.declared.dump.Stream.{Stream}
use Rattle.mdmp_dump.specs.LaysOut.{HasRecords, StandsAt}
use Rattle.mdmp_dump.specs.Places.{bytes_location, up}
use Rattle.mdmp_dump.specs.Seen.{Seen}
use Rattle.mdmp_dump.specs.Shape as shapes
use Rattle.mdmp_dump.specs.Shape.{StreamShape, body_of, far_of, is_far, room_of, rooms}
use Rattle.mdmp_dump.specs.Value.{type_of}
use Rattle.mdmp_dump.specs.View.{StreamSeen, kind_in, records_seen, stream_seen}
use Rattle.mdmp_writer.specs.Layout.{is_misnamed}
use Rattle.mdmp_writer.specs.Written.{all_padded, body_text, parts_of, ranges_text, rows, type_by}
use Rattle.mdmp_writer.proofs.Standing.{Stands, stands_inside, stands_second}
use Rattle.mdmp_writer.proofs.Back.{LocationFits}
use Rattle.mdmp_writer.proofs.Heads.{shape_from}
use Rattle.mdmp_writer.proofs.Placing.{IsForm, rows-length, rows_read}

-- the bytes of a stream's 64-bit memory, if it is of that
abbrev pub memory_text : StreamSeen → List ℕ
memory_text s = if is_far s.kind then ranges_text s.records else []

-- the shape of a value's stream
abbrev pub shape_in : {Z : Type 0} → Stream Z → StreamShape
shape_in s = shapes.shape_seen (stream_seen s)

-- what is written of a stream has the lengths that its shape tells, and is read again: its body stands at a place, its
-- names and parts behind it, and its 64-bit memory elsewhere
pub record IsReadBack {Z : Type 0} (s : Stream Z) : Type 0 where
  pub type_is : type_by (kind_in s) ≡ type_of s
  pub type_fits : type_of s < 2 ^ 32
  pub body : (at far : ℕ) → length (body_text (stream_seen s) at far) ≡ body_of (shape_in s)
  pub behind : length (all_padded (parts_of (records_seen s))) ≡ room_of (shape_in s)
  pub memory : length (memory_text (stream_seen s)) ≡ far_of (shape_in s)
  pub stands : (F : List ℕ) (at place far : ℕ) → is_misnamed (kind_in s) ≡ false → 0 < at → place ≡ at + up (body_of (shape_in s))
      → place + room_of (shape_in s) < 2 ^ 32 → far + far_of (shape_in s) < 2 ^ 64
      → Stands F at (body_text (stream_seen s) place far) → Stands F place (all_padded (parts_of (records_seen s))) → Stands F far (memory_text (stream_seen s))
      → StandsAt F (bytes_location (body_of (shape_in s)) at) s

-- what holds at a place holds at the location of some bytes there
pub located : (P : Location → Type 0) (n at : ℕ) → 0 < n → P (record { size = n; rva = at }) → P (bytes_location n at)
located P n at some h = let e : (n == 0) ≡ false = ne_eqb n 0 (λ e. omega (arith, e)) in rw e h

pub bytes_location_fits : (n at : ℕ) → at + n < 2 ^ 32 → LocationFits (bytes_location n at)
bytes_location_fits zero at low = record { size = omega arith; rva = omega arith }
bytes_location_fits (suc n) at low = located LocationFits (suc n) at (omega arith) (record { size = omega (arith, low); rva = omega (arith, low) })

-- ---- a head, and rows behind it

module _ {X : Type 0} {size : ℕ} {see : X → Seen} {Fits : X → Type 0} {IsAt : List ℕ → ℕ → X → Type 0} (form : IsForm size see Fits IsAt) where
  -- their length
  pub length-listed : (at first : ℕ) (head : List ℕ) (xs : List X) → length head ≡ first → All Fits xs → length (head ++ rows at (map see xs)) ≡ first + length (map see xs) * size
  length-listed at first head xs len fits =
      let body = rows at (map see xs) in
      let count = ap (λ (n : ℕ). n * size) (length-map xs see) in
      omega (arith, length-append head body, len, rows-length size see Fits form.length_is at xs (recursion_from_All Fits xs fits), count)

  -- they are read again, where their parts stand at a place
  unfoldable pub records_read : (F : List ℕ) (kind : StreamKind) (at first n place : ℕ) (head : List ℕ) (xs : List X) → length head ≡ first → n ≡ first + length (map see xs) * size
      → shape_of F at n kind ≡ Ok (shape_from first size (length (map see xs))) → All Fits xs → 0 < place → place + rooms (map see xs) < 2 ^ 32
      → Stands F at (head ++ rows place (map see xs)) → Stands F place (all_padded (parts_of (map see xs))) → HasRecords F (record { size = n; rva = at }) kind (λ k o. IsAt F o) xs
  records_read F kind at first n place head xs len whole shaped fits pos low there behind = record {
    inside = stands_inside F at n (head ++ rows place (map see xs)) (omega (arith, length-listed place first head xs len fits, whole)) there;
    shape = shape_from first size (length (map see xs));
    shaped = shaped;
    count = length-map xs see;
    each = rows_read form F (at + first) place (at + first) 0 xs (omega arith) (recursion_from_All Fits xs fits) pos low (stands_second F at first (at + first) head (rows place (map see xs)) len refl there) behind;
  }

  -- the same at their location
  pub records_stand : (F : List ℕ) (kind : StreamKind) (at first n place : ℕ) (head : List ℕ) (xs : List X) → length head ≡ first → n ≡ first + length (map see xs) * size → 0 < n
      → shape_of F at n kind ≡ Ok (shape_from first size (length (map see xs))) → All Fits xs → 0 < place → place + rooms (map see xs) < 2 ^ 32
      → Stands F at (head ++ rows place (map see xs)) → Stands F place (all_padded (parts_of (map see xs))) → HasRecords F (bytes_location n at) kind (λ k o. IsAt F o) xs
  records_stand F kind at first n place head xs len whole some shaped fits pos low there behind =
      located (λ l. HasRecords F l kind (λ k o. IsAt F o) xs) n at some (records_read F kind at first n place head xs len whole shaped fits pos low there behind)
