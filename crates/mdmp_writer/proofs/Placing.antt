-- Parts that stand one behind the other, and rows that name their places.
use Rattle.std.proofs.Common.{◌≡◌, ℕ, suc, ◌+◌, ◌*◌, ◌-◌, ◌/◌, ◌%◌, ◌^◌, ◌<◌, List, [], ◌∷◌, ◌++◌, length, map, refl, ap, sym, subst, append_assoc, arith, length-append}
use Rattle.std.specs.Prelude.{true, false, Option, Some, None, Ok, ◌==◌, nat_lt, nat_le}
use Rattle.std.specs.List.{AllByRecursion as Each}
use Rattle.std.proofs.lemmas.List.{append-nil, length-replicate}
use Rattle.std.proofs.lemmas.Bool.{le-ltb, ne_eqb}
use Rattle.mdmp_source.specs.Range.{is_inside}
use Rattle.mdmp_wire.specs.Number.{number_at, numbers_at, le, les, zeros, array_at}
use Rattle.mdmp_wire.specs.NumberLaws.{length-le, length-les, numbers_at-les}
use Rattle.mdmp_wire.specs.Units.{units_of, units_over}
use Rattle.mdmp_lister.specs.declared.name.Name.TheVariants.{Units}
use Rattle.mdmp_lister.specs.Format.Name.{name_at}
use Rattle.mdmp_dump.specs.declared.part.Part.{Part}
use Rattle.mdmp_dump.specs.declared.part.Part.TheVariants.{Bytes, Absent}
use Rattle.mdmp_dump.specs.LaysOut.{EachFrom}
use Rattle.mdmp_dump.specs.Name.{IsName, NameFits}
use Rattle.mdmp_dump.specs.Part.{IsPart, PartFits}
use Rattle.mdmp_dump.specs.declared.view.PartSize.{PartSize}
use Rattle.mdmp_dump.specs.declared.view.PartSize.TheVariants.{Size}
use Rattle.mdmp_wire.specs.AnyRecord.{slot_at}
use Rattle.mdmp_wire.specs.declared.slot.Slot.{Slot}
use Rattle.mdmp_wire.specs.declared.slot.Slot.TheVariants as slots
use Rattle.mdmp_dump.specs.Placed.{address_of, bytes_in, fields_room, location_of, name_around, name_room, part_room, seen_parts, seen_row, size_at, size_in, slot_room, slot_text}
use Rattle.mdmp_dump.specs.Places.{up}
use Rattle.mdmp_dump.specs.Seen.{Seen, bytes_of, name_size, size_of, unit_bytes}
use Rattle.mdmp_dump.specs.Shape.{IsSized, rooms}
use Rattle.mdmp_writer.specs.Written.{all_padded, padded, padding, parts_of, rows}
use Rattle.mdmp_writer.proofs.Standing.{Stands, stands_same, stands_first, stands_second, stands_inside, stands_le, stands_room, stands_bytes, stands_number}
use Rattle.mdmp_writer.proofs.Padded.{all_padded-append, length-around}
use Rattle.mdmp_writer.proofs.Back.{LocationFits}

-- ---- padding

pub length-padding : (n : ℕ) → n + length (padding n) ≡ up n
length-padding n = omega (arith, length-replicate {A = ℕ} (up n - n) 0)

pub length-padded : (xs : List ℕ) → length (padded xs) ≡ up (length xs)
length-padded xs = omega (arith, length-append xs (padding (length xs)), length-padding (length xs))

pub length-all_padded : (p : List ℕ) (ps : List (List ℕ)) → length (all_padded (p ∷ ps)) ≡ up (length p) + length (all_padded ps)
unfolding all_padded
length-all_padded p ps = omega (arith, length-append (padded p) (all_padded ps), length-padded p)

pub length-nothing : length (all_padded []) ≡ 0
unfolding all_padded
length-nothing = refl

pub length-last : (p : List ℕ) → length (all_padded (p ∷ [])) ≡ up (length p)
length-last p = omega (arith, length-all_padded p [], length-nothing)

-- what a slot is for takes its room
slot_length : (s : Slot) (p : PartSize) (b : List ℕ) → length b ≡ size_in p → up (length (slot_text s p b)) ≡ slot_room s p
slot_length slots.Empty p b sized = refl
slot_length (slots.Name rva) (Size n) b sized = ap up (length-around n b sized)
slot_length (slots.Name rva) p b sized = refl
slot_length (slots.Part name at) (Size n) b sized = ap up sized
slot_length (slots.Part name at) p b sized = ap up sized
slot_length (slots.Behind n) p b sized = refl

-- and so do the name and parts of a record
pub sized_room : (s : Seen) → IsSized s → length (all_padded (seen_parts s)) ≡ fields_room s.fields
sized_room s sized =
    let text = λ (k : ℕ). slot_text (slot_at s.fields.wire k) (size_at s.fields k) (bytes_in s k) in
    let len = λ (k : ℕ). slot_length (slot_at s.fields.wire k) (size_at s.fields k) (bytes_in s k) (sized k) in
    omega (arith, length-all_padded (text 0) (text 1 ∷ text 2 ∷ []), length-all_padded (text 1) (text 2 ∷ []), length-last (text 2), len 0, len 1, len 2)

-- the first of some parts, and the others behind it
pub stands_part : (F : List ℕ) (at : ℕ) (p : List ℕ) (ps : List (List ℕ)) → Stands F at (all_padded (p ∷ ps)) → Stands F at p
unfolding all_padded
stands_part F at p ps s = stands_first F at p (padding (length p)) (stands_first F at (padded p) (all_padded ps) s)

stands_behind : (F : List ℕ) (at room : ℕ) (p : List ℕ) (ps : List (List ℕ)) → up (length p) ≡ room → Stands F at (all_padded (p ∷ ps)) → Stands F (at + room) (all_padded ps)
unfolding all_padded
stands_behind F at room p ps len s = stands_second F at room (at + room) (padded p) (all_padded ps) (omega (arith, len, length-padded p)) refl s

-- ---- parts

module _ {Z : Type 0} where
  -- the room that is told is that of the bytes
  pub part_roomed : (p : Part Z) → up (length (bytes_of p)) ≡ part_room (size_of p)
  part_roomed (Bytes bytes) = refl
  part_roomed (Absent size) = refl

  pub behind_part : (F : List ℕ) (at : ℕ) (p : Part Z) (ps : List (List ℕ)) → Stands F at (all_padded (bytes_of p ∷ ps)) → Stands F (at + part_room (size_of p)) (all_padded ps)
  behind_part F at p ps s = stands_behind F at (part_room (size_of p)) (bytes_of p) ps (part_roomed p) s

  pub is_part : (F : List ℕ) (at : ℕ) (part : Part Z) → PartFits part → 0 < at → Stands F at (bytes_of part) → IsPart F (location_of (size_of part) at) part
  is_part F at (Bytes []) fits pos s = refl
  is_part F at (Bytes (x ∷ xs)) fits pos s =
      let n = length (x ∷ xs) in
      let some : (n == 0) ≡ false = ne_eqb n 0 (λ e. omega (arith, e)) in
      let placed : (at == 0) ≡ false = ne_eqb at 0 (λ e. omega (arith, e)) in
      let inside : nat_le (at + n) (length F) ≡ true = stands_le F at n (x ∷ xs) refl (omega arith) s in
      let bytes = stands_bytes F at n (x ∷ xs) refl s in
      rw (some, placed, inside, bytes) refl
  is_part F at (Absent n) fits pos s =
      let some : (n == 0) ≡ false = ne_eqb n 0 (λ e. omega (arith, e, fits.0)) in
      rw some refl

  pub location_fits : (at : ℕ) (part : Part Z) → PartFits part → at + part_room (size_of part) < 2 ^ 32 → LocationFits (location_of (size_of part) at)
  location_fits at (Bytes []) fits low = record { size = omega arith; rva = omega arith }
  location_fits at (Bytes (x ∷ xs)) fits low =
      let n = length (x ∷ xs) in
      let some : (n == 0) ≡ false = ne_eqb n 0 (λ e. omega (arith, e)) in
      record { size = omega (arith, low); rva = rw some (omega (arith, low)) }
  location_fits at (Absent n) fits low = record { size = fits.1; rva = omega arith }

-- ---- names

-- the bytes of a name with its length
abbrev pub name_text : Option (List ℕ) → List ℕ
name_text name = name_around (name_size name) (unit_bytes name)

pub name_roomed : (name : Option (List ℕ)) → up (length (name_text name)) ≡ name_room (name_size name)
name_roomed None = refl
name_roomed (Some units) = ap up (length-around (2 * length units) (les 2 units) (length-les 2 units))

pub behind_name : (F : List ℕ) (at : ℕ) (name : Option (List ℕ)) (ps : List (List ℕ)) → Stands F at (all_padded (name_text name ∷ ps)) → Stands F (at + name_room (name_size name)) (all_padded ps)
behind_name F at name ps s = stands_behind F at (name_room (name_size name)) (name_text name) ps (name_roomed name) s

pub address_fits : (at : ℕ) (name : Option (List ℕ)) → at < 2 ^ 32 → address_of (name_size name) at < 2 ^ 32
address_fits at None low = omega arith
address_fits at (Some units) low = low

-- the name that stands at a place, if each test of it passes
name_there : (F : List ℕ) (at k limit : ℕ) → (at == 0) ≡ false → number_at F at 4 ≡ k → is_inside at 4 (length F) ≡ true → (k % 2 == 1) ≡ false → is_inside (at + 4) k (length F) ≡ true → nat_lt limit k ≡ false
    → name_at F at limit ≡ Ok (Units (units_over (array_at F (at + 4) k)))
unfolding name_at
name_there F at k limit placed number first even units short = rw placed (rw number (rw first (rw even (rw units (rw short refl)))))

units_again : (units : List ℕ) → NameFits (Some units) → units_of (les 2 units) ≡ units
units_again units fits =
    let half : length (les 2 units) / 2 ≡ length units = omega (arith, length-les 2 units) in
    let again : numbers_at (les 2 units ++ []) 0 2 (length units) ≡ units = numbers_at-les 2 units [] fits in
    rw half (rw append-nil at again)

pub is_name : (F : List ℕ) (at : ℕ) (name : Option (List ℕ)) → NameFits name → 0 < at → at + name_room (name_size name) < 2 ^ 32 → Stands F at (name_text name) → IsName F (address_of (name_size name) at) name
unfolding name_at
is_name F at None fits pos low s = refl
is_name F at (Some units) fits pos low s =
    let n = 2 * length units in
    let small : n < 2 ^ 32 = omega (arith, low) in
    let begun : Stands F at (le 4 n ++ (les 2 units ++ zeros 2)) = stands_same F at _ _ (append_assoc (le 4 n) (les 2 units) (zeros 2)) s in
    let there : Stands F (at + 4) (les 2 units) = stands_first F (at + 4) (les 2 units) (zeros 2) (stands_second F at 4 (at + 4) (le 4 n) (les 2 units ++ zeros 2) (length-le 4 n) refl begun) in
    let placed : (at == 0) ≡ false = ne_eqb at 0 (λ e. omega (arith, e)) in
    let number = stands_number F at 4 n (les 2 units ++ zeros 2) small begun in
    let first = stands_inside F at 4 (le 4 n) (length-le 4 n) (stands_first F at (le 4 n) (les 2 units ++ zeros 2) begun) in
    let even : (n % 2 == 1) ≡ false = ne_eqb (n % 2) 1 (λ e. omega (arith, e)) in
    let units_in = stands_inside F (at + 4) n (les 2 units) (length-les 2 units) there in
    let short : nat_lt (length F) n ≡ false = le-ltb (length F) n (omega (arith, stands_room F (at + 4) (les 2 units) there, length-les 2 units)) in
    let bytes = stands_bytes F (at + 4) n (les 2 units) (length-les 2 units) there in
    rw (name_there F at n (length F) placed number first even units_in short) (ap (λ (u : List ℕ). Ok (Some (Some u))) (rw bytes (units_again units fits)))

-- ---- rows

-- values that a view gives as records, whose rows have one size and are read again
pub record IsForm {X : Type 0} (size : ℕ) (see : X → Seen) (Fits : X → Type 0) (IsAt : List ℕ → ℕ → X → Type 0) : Type 0 where
  pub length_is : (x : X) (at : ℕ) → Fits x → length (seen_row (see x) at) ≡ size
  pub room_is : (x : X) → length (all_padded (seen_parts (see x))) ≡ fields_room (see x).fields
  pub reads : (F : List ℕ) (o at : ℕ) (x : X) → Fits x → 0 < at → at + fields_room (see x).fields < 2 ^ 32
      → Stands F o (seen_row (see x) at) → Stands F at (all_padded (seen_parts (see x))) → IsAt F o x

-- rows of one size
pub rows-length : {X : Type 0} (size : ℕ) (see : X → Seen) (Fits : X → Type 0) → ((x : X) (at : ℕ) → Fits x → length (seen_row (see x) at) ≡ size)
    → (at : ℕ) (xs : List X) → Each Fits xs → length (rows at (map see xs)) ≡ length xs * size
unfolding rows
rows-length size see Fits length_is at [] fits = omega arith
rows-length size see Fits length_is at (x ∷ xs) fits =
    let next = at + fields_room (see x).fields in
    let more : suc (length xs) * size ≡ length xs * size + size = grind arith in
    omega (arith, length-append (seen_row (see x) at) (rows next (map see xs)), length_is x at fits.0, rows-length size see Fits length_is next xs fits.1, more)

module _ {X : Type 0} {size : ℕ} {see : X → Seen} {Fits : X → Type 0} {IsAt : List ℕ → ℕ → X → Type 0} (form : IsForm size see Fits IsAt) where
  pub length-parts : (xs : List X) → length (all_padded (parts_of (map see xs))) ≡ rooms (map see xs)
  unfolding all_padded parts_of rooms
  length-parts [] = refl
  length-parts (x ∷ xs) =
      let rest = parts_of (map see xs) in
      omega (arith, ap length (all_padded-append (seen_parts (see x)) rest), length-append (all_padded (seen_parts (see x))) (all_padded rest), form.room_is x, length-parts xs)

  pub rows_read : (F : List ℕ) (o at base k : ℕ) (xs : List X) → o ≡ base + k * size → Each Fits xs → 0 < at → at + rooms (map see xs) < 2 ^ 32
      → Stands F o (rows at (map see xs)) → Stands F at (all_padded (parts_of (map see xs))) → EachFrom (λ k o. IsAt F o) base size k xs
  unfolding rows parts_of rooms
  rows_read F o at base k [] place fits pos low there behind = tt
  rows_read F o at base k (x ∷ xs) place fits pos low there behind =
      let room = fields_room (see x).fields in
      let row = seen_row (see x) at in
      let rest = rows (at + room) (map see xs) in
      let parts = all_padded (seen_parts (see x)) in
      let others = all_padded (parts_of (map see xs)) in
      let split : Stands F at (parts ++ others) = stands_same F at _ _ (all_padded-append (seen_parts (see x)) (parts_of (map see xs))) behind in
      let first = form.reads F o at x fits.0 pos (omega (arith, low)) (stands_first F o row rest there) (stands_first F at parts others split) in
      let next : base + (k + 1) * size ≡ o + size = grind arith in
      let later = rows_read F (o + size) (at + room) base (k + 1) xs (sym next) fits.1 (omega arith) (omega (arith, low))
      (stands_second F o size (o + size) row rest (form.length_is x at fits.0) refl there)
      (stands_second F at room (at + room) parts others (form.room_is x) refl split) in
      (subst (λ (j : ℕ). IsAt F j x) place first, later)
