-- A list of ranges of 64-bit memory is written, and read again; their bytes stand elsewhere.
use Rattle.std.proofs.Common.{◌≡◌, ◌<◌, ◌^◌, [], length, refl, ◌*◌, ◌+◌, ◌∷◌, ◌++◌, ◌∙◌, ℕ, zero, suc, List, ap, arith, map, length-append}
use Rattle.std.specs.Prelude.{All, Ok, false, nat_lt}
use Rattle.std.specs.List.{AllByRecursion as Each}
use Rattle.std.proofs.lemmas.Bool.{le-ltb}
use Rattle.std.proofs.lemmas.List.{length-map}
use Rattle.std.proofs.lemmas.List.Elements.{All-from_recursion, recursion_from_All}
use Rattle.mdmp_wire.specs.Number.{number_at, le}
use Rattle.mdmp_wire.specs.NumberLaws.{number_at-le}
use Rattle.mdmp_wire.specs.Descriptor64.{descriptor64_at, descriptor64_at-part, descriptor64_bytes}
use Rattle.mdmp_wire.specs.declared.memory64_list.Memory64List.{Memory64List}
use Rattle.mdmp_wire.specs.Memory64List.{memory64_list_at, memory64_list_at-part, memory64_list_bytes}
use Rattle.mdmp_lister.specs.declared.kind.StreamKind.TheVariants as kinds
use Rattle.mdmp_lister.specs.Format.Shape.{shape_of}
use Rattle.mdmp_lister.specs.Format.Item.{range_offset, sizes_before}
use Rattle.mdmp_dump.specs.declared.memory64.Memory64Range.{Memory64Range}
use Rattle.mdmp_dump.specs.Memory64.{Memory64Fits, memory64_record, memory64_seen, IsMemory64}
use Rattle.mdmp_dump.specs.declared.dump.Stream.TheVariants as streams
use Rattle.mdmp_dump.specs.LaysOut.{EachFrom, HasRecords}
use Rattle.mdmp_dump.specs.Shape.{fars, rooms}
use Rattle.mdmp_dump.specs.ShapeLaws.{three_sized}
use Rattle.mdmp_writer.proofs.Standing.{stands_record, Stands, stands_bytes, stands_first, stands_inside, stands_second}
use Rattle.mdmp_writer.proofs.Placing.{IsForm, length-parts, rows-length, sized_room}
use Rattle.mdmp_writer.specs.Written.{all_padded, parts_of, ranges_text, rows}
use Rattle.mdmp_writer.proofs.ReadBack.{IsReadBack, located, records_read}
use Rattle.mdmp_writer.proofs.Heads.{shape_from}

-- ---- its head

abbrev head : ℕ → ℕ → Memory64List
head c far = record { number_of_memory_ranges = c; base_rva = far }

length-head : (c far : ℕ) → length (memory64_list_bytes (head c far)) ≡ 16
unfolding le
length-head c far = refl

head_read : (F : List ℕ) (at c far : ℕ) (rest : List ℕ) → c < 2 ^ 64 → far < 2 ^ 64 → Stands F at (memory64_list_bytes (head c far) ++ rest) → memory64_list_at F at ≡ head c far
unfolding number_at le
head_read F at c far rest low near s =
    let text = memory64_list_bytes (head c far) in
    let back : memory64_list_at text 0 ≡ head c far = λ i. record { number_of_memory_ranges = number_at-le 8 c [] low i; base_rva = number_at-le 8 far [] near i } in
    stands_record memory64_list_at 16 memory64_list_at-part F at text (head c far) refl back (stands_first F at text rest s)

head_shape : (F : List ℕ) (at c far : ℕ) → memory64_list_at F at ≡ head c far → shape_of F at (16 + c * 16) kinds.Memory64 ≡ Ok (shape_from 16 16 c)
unfolding shape_of
head_shape F at c far read =
    let count : (memory64_list_at F at).number_of_memory_ranges ≡ c = ap (λ h. h.number_of_memory_ranges) read in
    let long : nat_lt (16 + c * 16) 16 ≡ false = le-ltb (16 + c * 16) 16 (omega arith) in
    let fits : nat_lt (16 + c * 16) (16 + c * 16) ≡ false = le-ltb (16 + c * 16) (16 + c * 16) (omega arith) in
    rw (long, count, fits) refl

-- ---- places of ranges

sizes_before-last : (F : List ℕ) (o n : ℕ) → sizes_before F o (n + 1) ≡ sizes_before F o n + (descriptor64_at F (o + n * 16)).data_size
unfolding sizes_before
sizes_before-last F o zero = let same : o + zero * 16 ≡ o = omega arith in rw same (omega arith)
sizes_before-last F o (suc n) =
    let later = sizes_before-last F (o + 16) n in
    let place : o + 16 + n * 16 ≡ o + suc n * 16 = omega arith in
    let last = rw place at later in
    let more : suc n + 1 ≡ suc (n + 1) = omega arith in
    rw more (omega (arith, last))

first_range : (F : List ℕ) (at far : ℕ) → number_at F (at + 8) 8 ≡ far → range_offset F at 0 ≡ far
unfolding sizes_before
first_range F at far base = omega (arith, base)

-- ---- a range

module _ {Z : Type 0} where
  -- its size fits too, as where it is written
  record RangeFits (x : Memory64Range Z) : Type 0 where
    start : Memory64Fits x
    size : length x.bytes < 2 ^ 64

  memory64_back : (x : Memory64Range Z) → RangeFits x → descriptor64_at (descriptor64_bytes (memory64_record x)) 0 ≡ memory64_record x
  unfolding number_at le
  memory64_back x f = λ i. record { start_of_memory_range = number_at-le 8 x.start [] f.start i; data_size = number_at-le 8 (length x.bytes) [] f.size i }

  length-memory64 : (x : Memory64Range Z) → length (descriptor64_bytes (memory64_record x)) ≡ 16
  unfolding le
  length-memory64 x = refl

  memory64_form : IsForm {X = Memory64Range Z} 16 memory64_seen RangeFits (λ F o x. descriptor64_at F o ≡ memory64_record x)
  memory64_form = record {
    length_is = λ x at f. length-memory64 x;
    room_is = λ x. sized_room (memory64_seen x) (three_sized (memory64_seen x).fields.wire _ _ _ _ _ _ refl refl refl);
    reads = λ F o at x f pos low row parts. stands_record descriptor64_at 16 descriptor64_at-part F o _ _ (length-memory64 x) (memory64_back x f) row;
  }

  -- ---- the bytes of its ranges

  ranges_fit : (xs : List (Memory64Range Z)) → Each Memory64Fits xs → fars (map memory64_seen xs) < 2 ^ 64 → Each RangeFits xs
  unfolding fars
  ranges_fit [] fits low = tt
  ranges_fit (x ∷ xs) fits low = (record { start = fits.0; size = omega (arith, low) }, ranges_fit xs fits.1 (omega (arith, low)))

  length-ranges : (xs : List (Memory64Range Z)) → length (ranges_text (map memory64_seen xs)) ≡ fars (map memory64_seen xs)
  unfolding ranges_text fars
  length-ranges [] = refl
  length-ranges (x ∷ xs) = omega (arith, length-append x.bytes (ranges_text (map memory64_seen xs)), length-ranges xs)

  -- their bytes take no room behind the stream
  no_room : (xs : List (Memory64Range Z)) → rooms (map memory64_seen xs) ≡ 0
  unfolding rooms
  no_room [] = refl
  no_room (x ∷ xs) = omega (arith, no_room xs)

  ranges_stand : (F : List ℕ) (at k far : ℕ) (xs : List (Memory64Range Z)) → range_offset F at k ≡ far → EachFrom (λ k o x. descriptor64_at F o ≡ memory64_record x) (at + 16) 16 k xs
      → Stands F far (ranges_text (map memory64_seen xs)) → EachFrom (λ k o. IsMemory64 F at k o) (at + 16) 16 k xs
  unfolding ranges_text
  ranges_stand F at k far [] place each s = tt
  ranges_stand F at k far (x ∷ xs) place each s =
      let others = ranges_text (map memory64_seen xs) in
      let here = stands_first F far x.bytes others s in
      let size : (descriptor64_at F (at + 16 + k * 16)).data_size ≡ length x.bytes = ap (λ r. r.data_size) each.0 in
      let next : range_offset F at (k + 1) ≡ far + length x.bytes = omega (arith, sizes_before-last F (at + 16) k, size, place) in
      let first : IsMemory64 F at k (at + 16 + k * 16) x = record {
        fields = each.0;
        inside = rw place (stands_inside F far (length x.bytes) x.bytes refl here);
        bytes = rw place (stands_bytes F far (length x.bytes) x.bytes refl here);
      } in
      (first, ranges_stand F at (k + 1) (far + length x.bytes) xs next each.1 (stands_second F far (length x.bytes) (far + length x.bytes) x.bytes others refl refl s))

  -- ---- a list of ranges

  -- it is read where its rows stand at one place and their bytes at another
  ranges_read : (F : List ℕ) (at place far : ℕ) (xs : List (Memory64Range Z)) → All Memory64Fits xs → 0 < place → length (map memory64_seen xs) < 2 ^ 32 → place < 2 ^ 32 → far + fars (map memory64_seen xs) < 2 ^ 64
      → Stands F at (memory64_list_bytes (head (length (map memory64_seen xs)) far) ++ rows place (map memory64_seen xs)) → Stands F place (all_padded (parts_of (map memory64_seen xs)))
      → Stands F far (ranges_text (map memory64_seen xs)) → HasRecords F (record { size = 16 + length (map memory64_seen xs) * 16; rva = at }) kinds.Memory64 (λ k o. IsMemory64 F at k o) xs
  unfolding records_read
  ranges_read F at place far xs fits pos few low near there behind beyond =
      let c = length (map memory64_seen xs) in
      let base = head_read F at c far (rows place (map memory64_seen xs)) (omega (arith, few)) (omega (arith, near)) there in
      let all_fit = All-from_recursion RangeFits xs (ranges_fit xs (recursion_from_All Memory64Fits xs fits) (omega (arith, near))) in
      let read = records_read memory64_form F kinds.Memory64 at 16 (16 + c * 16) place (memory64_list_bytes (head c far)) xs (length-head c far) refl
      (head_shape F at c far base) all_fit pos (omega (arith, low, no_room xs)) there behind in
      let begun : range_offset F at 0 ≡ far = first_range F at far (ap (λ h. h.base_rva) base) in
      record { inside = read.inside; shape = read.shape; shaped = read.shaped; count = read.count; each = ranges_stand F at 0 far xs begun read.each beyond }

  pub memory64_read : (xs : List (Memory64Range Z)) → All Memory64Fits xs → IsReadBack (streams.Memory64 xs)
  memory64_read xs fits =
      let c = length (map memory64_seen xs) in
      record {
        type_is = refl;
        type_fits = omega arith;
        body = λ at far.
            let text = memory64_list_bytes (head c far) in
            let body = rows at (map memory64_seen xs) in
            let len = rows-length 16 memory64_seen Memory64Fits (λ x at f. length-memory64 x) at xs (recursion_from_All Memory64Fits xs fits) in
            omega (arith, length-append text body, length-head c far, len, length-map xs (memory64_seen {Z = Z}));
        behind = length-parts memory64_form xs ∙ no_room xs;
        memory = length-ranges xs;
        stands = λ F at place far named pos e low near there behind beyond.
            located (λ l. HasRecords F l kinds.Memory64 (λ k o. IsMemory64 F l.rva k o) xs) (16 + c * 16) at (omega arith)
            (ranges_read F at place far xs fits (omega (arith, pos, e)) (omega (arith, low, e)) (omega (arith, low)) near there behind beyond);
      }
