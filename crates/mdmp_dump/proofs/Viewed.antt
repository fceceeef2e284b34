-- What a view gives of an entry whose records were counted: the records as they are found, its kind and its raw bytes.
use Rattle.std.proofs.Common.{◌≡◌, ◌∙◌, ◌+◌, ◌*◌, ◌<◌, ◌≤◌, ◌==◌, ℕ, zero, suc, Bool, true, false, List, [], ◌∷◌, length, map, get_or, take, Option, Some, None, Result, Ok, Err, ap, refl, sym, subst, arith, if◌then◌else◌}
use Rattle.std.proofs.lemmas.Bool.Decides.{nat_tests}
use Rattle.std.proofs.lemmas.List.{length-map, take_all}
use Rattle.std.proofs.Math.ListN.{get_or-map}
use Rattle.mdmp_source.specs.Range.{bytes_at, is_inside}
use Rattle.mdmp_source.specs.declared.location.Location.{Location}
use Rattle.mdmp_source.specs.declared.location.Extent.{Extent}
use Rattle.mdmp_source.specs.declared.location.Extent.TheVariants as classes
use Rattle.mdmp_source.specs.Extent.{extent_of}
use Rattle.mdmp_wire.specs.Number.{array_at}
use Rattle.mdmp_lister.specs.declared.fault.Fault.{Fault}
use Rattle.mdmp_lister.specs.declared.kind.StreamKind.{StreamKind}
use Rattle.mdmp_lister.specs.declared.kind.StreamKind.TheVariants as lists
use Rattle.mdmp_lister.specs.declared.shape.Shape.{Shape}
use Rattle.mdmp_lister.specs.Format.Kind.{form_of, kind_of, type_of_kind}
use Rattle.mdmp_lister.specs.Format.KindLaws.{type_of-kind}
use Rattle.mdmp_lister.specs.Format.Listing.{Numbered}
use Rattle.mdmp_lister.specs.Format.Shape.{record_count, shape_of}
use Rattle.mdmp_dump.specs.declared.dump.Stream.{Stream}
use Rattle.mdmp_dump.specs.declared.dump.Stream.TheVariants as streams
use Rattle.mdmp_dump.specs.declared.found_record.FoundRecord.{FoundRecord}
use Rattle.mdmp_dump.specs.declared.found_record.PartAt.{PartAt}
use Rattle.mdmp_dump.specs.declared.view.Fields.{Fields}
use Rattle.mdmp_dump.specs.declared.view.Kind.{Kind}
use Rattle.mdmp_dump.specs.declared.view.Kind.TheVariants as kinds
use Rattle.mdmp_dump.specs.declared.view.PartSize.{PartSize}
use Rattle.mdmp_dump.specs.declared.view.PartSize.TheVariants.{NoPart, Size}
use Rattle.mdmp_dump.specs.EntryWalk.{FindsRow, kind_by, raw_part, raw_size}
use Rattle.mdmp_dump.specs.Exception.{exception_seen}
use Rattle.mdmp_dump.specs.Finding.{IsSeenAt, seen_in}
use Rattle.mdmp_dump.specs.FileView.{raw_by}
use Rattle.mdmp_dump.specs.FoundRecord.{IsPartIn, fields_of, no_part}
use Rattle.mdmp_dump.specs.InFile.{by_kind, by_type, exception_in, known_in, list_in, part_named, part_or, rows_in, shaped_in, stream_named, system_in}
use Rattle.mdmp_dump.specs.Part.{part_in}
use Rattle.mdmp_dump.specs.Placed.{far_room, fields_room, size_at, size_in}
use Rattle.mdmp_dump.specs.Seen.{Seen, bytes_of, nothing_seen, size_of}
use Rattle.mdmp_dump.specs.Shape.{fars, is_far, parts_in, seen_record, rooms, told}
use Rattle.mdmp_dump.specs.System.{system_seen}
use Rattle.mdmp_dump.specs.View.{kind_in, raw_in, records_seen}
use Rattle.mdmp_dump.proofs.Budget.{array_is}
use Rattle.mdmp_dump.proofs.Laid.{unused_by}
use Rattle.mdmp_dump.proofs.Refusals.{counted_placed, known_counted, shape_counted}
use Rattle.mdmp_dump.proofs.Streams.{one_single}
use Rattle.mdmp_dump.proofs.Unrefused.{rows_count}
use Rattle.mdmp_dump.proofs.Values.{HasOneRoom, record_room}
use Rattle.mdmp_dump.proofs.Within.Part.{length-array_at}

-- ---- records one behind the other

pub row_at : {X : Type 0} (see : X → Seen) (f : ℕ → ℕ → X) (base stride n i k j : ℕ) → j ≡ i + k → k < n
    → get_or (map see (rows_in f base stride i n)) k nothing_seen ≡ see (f j (base + j * stride))
unfolding rows_in
row_at see f base stride zero i k j is within = absurd (omega (arith, within))
row_at see f base stride (suc n) i zero j is within = ap (λ (m : ℕ). see (f m (base + m * stride))) (let h : i ≡ j = omega (arith, is) in h)
row_at see f base stride (suc n) i (suc k) j is within = row_at see f base stride n (i + 1) k j (omega (arith, is)) (omega (arith, within))

-- ---- the parts of a record are seen alike in any dump

module _ (Z : Type 0) (F : List ℕ) where
  size_by : (at : Location) (x : Extent) → size_of (part_or (part_in {Z = Z} F at x)) ≡ size_of (part_or (part_in {Z = Unit {0}} F at x))
  size_by at classes.Empty = refl
  size_by at _ = refl

  bytes_by : (at : Location) (x : Extent) → bytes_of (part_or (part_in {Z = Z} F at x)) ≡ bytes_of (part_or (part_in {Z = Unit {0}} F at x))
  bytes_by at classes.Empty = refl
  bytes_by at _ = refl

  size_alike : (at : Location) → size_of (part_named {Z = Z} F at) ≡ size_of (part_named {Z = Unit {0}} F at)
  size_alike at = size_by at (extent_of at (length F))

  bytes_alike : (at : Location) → bytes_of (part_named {Z = Z} F at) ≡ bytes_of (part_named {Z = Unit {0}} F at)
  bytes_alike at = bytes_by at (extent_of at (length F))

ruleset alike = (size_alike, bytes_alike)

-- ---- the raw bytes of a stream

raw_told : (kind : Kind) (size : ℕ) → size_in (raw_size kind size) ≡ raw_by kind size
raw_told kinds.Unused size = refl
raw_told (kinds.Known t) size = refl
raw_told (kinds.Raw t) size = refl

none_stand : (F : List ℕ) (at : ℕ) (bytes : List ℕ) → bytes ≡ [] → bytes_at F at (length bytes) ≡ bytes
none_stand F at bytes none = rw none refl

-- no part is nowhere
none_in : (z at : ℕ) (size : PartSize) → size ≡ NoPart → IsPartIn z size at
none_in z at size none = rw none (λ some. absurd (omega (arith, some)))

-- ---- the room that records take

fars_more : (xs : List Seen) (k : ℕ) → k < length xs → fars (take (k + 1) xs) ≡ fars (take k xs) + far_room (get_or xs k nothing_seen).fields
unfolding fars
fars_more [] k within = absurd (omega (arith, within))
fars_more (x ∷ xs) zero within = omega arith
fars_more (x ∷ xs) (suc k) within =
    let next : suc k + 1 ≡ suc (k + 1) = omega arith in
    let more : fars (take (k + 1) xs) ≡ fars (take k xs) + far_room (get_or xs k nothing_seen).fields = fars_more xs k (omega (arith, within)) in
    ap (λ (m : ℕ). fars (take m (x ∷ xs))) next
    ∙ (let h : far_room x.fields + fars (take (k + 1) xs) ≡ far_room x.fields + fars (take k xs) + far_room (get_or xs k nothing_seen).fields = omega (arith, more) in h)

rooms_more : (xs : List Seen) (k : ℕ) → k < length xs → rooms (take (k + 1) xs) ≡ rooms (take k xs) + fields_room (get_or xs k nothing_seen).fields
unfolding rooms
rooms_more [] k within = absurd (omega (arith, within))
rooms_more (x ∷ xs) zero within = omega arith
rooms_more (x ∷ xs) (suc k) within =
    let next : suc k + 1 ≡ suc (k + 1) = omega arith in
    let more : rooms (take (k + 1) xs) ≡ rooms (take k xs) + fields_room (get_or xs k nothing_seen).fields = rooms_more xs k (omega (arith, within)) in
    ap (λ (m : ℕ). rooms (take m (x ∷ xs))) next
    ∙ (let h : fields_room x.fields + rooms (take (k + 1) xs) ≡ fields_room x.fields + rooms (take k xs) + fields_room (get_or xs k nothing_seen).fields = omega (arith, more) in h)

fars_within : (xs : List Seen) (k : ℕ) → fars (take k xs) ≤ fars xs
unfolding fars
fars_within [] zero = omega arith
fars_within [] (suc k) = omega arith
fars_within (x ∷ xs) zero = omega arith
fars_within (x ∷ xs) (suc k) =
    let most : fars (take k xs) ≤ fars xs = fars_within xs k in
    (let h : far_room x.fields + fars (take k xs) ≤ far_room x.fields + fars xs = omega (arith, most) in h)

rooms_most : (xs : List Seen) (k : ℕ) → rooms (take k xs) ≤ rooms xs
unfolding rooms
rooms_most [] zero = omega arith
rooms_most [] (suc k) = omega arith
rooms_most (x ∷ xs) zero = omega arith
rooms_most (x ∷ xs) (suc k) =
    let most : rooms (take k xs) ≤ rooms xs = rooms_most xs k in
    (let h : fields_room x.fields + rooms (take k xs) ≤ fields_room x.fields + rooms xs = omega (arith, most) in h)

-- one more record, which takes room in one way alone
module _ (xs : List Seen) (k met q : ℕ) (within : k < length xs) where
  step_by : (far : Bool) → HasOneRoom far (get_or xs k nothing_seen).fields.wire (get_or xs k nothing_seen).fields → met ≡ told (if far then fars (take k xs) else rooms (take k xs))
      → q ≡ told (told (met + fields_room (get_or xs k nothing_seen).fields) + far_room (get_or xs k nothing_seen).fields)
      → q ≡ told (if far then fars (take (k + 1) xs) else rooms (take (k + 1) xs))
  step_by true one is next =
      let more : fars (take (k + 1) xs) ≡ fars (take k xs) + far_room (get_or xs k nothing_seen).fields = fars_more xs k within in
      let none : fields_room (get_or xs k nothing_seen).fields ≡ 0 = one in
      omega (arith, more, none, is, next)
  step_by false one is next =
      let more : rooms (take (k + 1) xs) ≡ rooms (take k xs) + fields_room (get_or xs k nothing_seen).fields = rooms_more xs k within in
      let none : far_room (get_or xs k nothing_seen).fields ≡ 0 = one in
      omega (arith, more, none, is, next)

none_by : (far : Bool) (xs : List Seen) → told (if far then fars (take 0 xs) else rooms (take 0 xs)) ≡ 0
unfolding fars rooms
none_by true xs = omega arith
none_by false xs = omega arith

within_by : (far : Bool) (xs : List Seen) (k : ℕ) → (if far then fars (take k xs) else rooms (take k xs)) ≤ (if far then fars xs else rooms xs)
within_by true xs k = fars_within xs k
within_by false xs k = rooms_most xs k

-- of no records there is none, of the first records no more than of all
pub rooms_none : (kind : Kind) (xs : List Seen) → told (parts_in kind (take 0 xs)) ≡ 0
rooms_none kind xs = none_by (is_far kind) xs

pub rooms_within : (kind : Kind) (xs : List Seen) (k : ℕ) → told (parts_in kind (take k xs)) ≤ told (parts_in kind xs)
rooms_within kind xs k =
    let most = within_by (is_far kind) xs k in
    omega (arith, most)

pub rooms_all : (kind : Kind) (xs : List Seen) (k : ℕ) → length xs ≤ k → parts_in kind (take k xs) ≡ parts_in kind xs
rooms_all kind xs k all = ap (parts_in kind) (take_all k xs all)

-- ---- sizes

-- the parts of a record that is found have the sizes that its fields tell
pub sizes_found : (f : FoundRecord) (g : Fields) → fields_of f ≡ g → (j : ℕ) → size_in (get_or f.parts j no_part).size ≡ size_in (size_at g j)
sizes_found f g same j =
    ap size_in (sym (get_or-map (λ (p : PartAt). p.size) f.parts j no_part)) ∙ ap (λ (fields : Fields). size_in (size_at fields j)) same

-- ---- a stream of a kind

-- no stream whose records are known has raw bytes to ask for
type_part : (kind : StreamKind) (size : ℕ) → raw_size (kind_by (type_of_kind kind)) size ≡ NoPart
type_part lists.Threads size = refl
type_part _ size = refl

module _ (Z : Type 0) (F : List ℕ) (x : Numbered) where
  shaped_kind : (kind : StreamKind) (shape : Shape) → kind_in (shaped_in {Z = Z} F x.entry.location.rva kind shape) ≡ kind_by (type_of_kind kind)
  shaped_kind lists.Threads shape = refl
  shaped_kind _ shape = refl

  -- it has no raw bytes
  shaped_raw : (kind : StreamKind) (shape : Shape) → raw_in (shaped_in {Z = Z} F x.entry.location.rva kind shape) ≡ []
  shaped_raw lists.Threads shape = refl
  shaped_raw _ shape = refl

  module _ (shape : Shape) where
    rows_seen : {X : Type 0} (see : X → Seen) (f : ℕ → ℕ → X) → length (map see (list_in f x.entry.location.rva shape)) ≡ shape.count
    rows_seen see f =
        length-map (list_in f x.entry.location.rva shape) see ∙ rows_count f (x.entry.location.rva + shape.first) shape.stride 0 shape.count

    -- a single record is one
    single_seen : (kind : StreamKind) → form_of kind ≡ form_of lists.System → shape_of F x.entry.location.rva x.entry.location.size kind ≡ Ok shape → 1 ≡ shape.count
    single_seen kind form shaped = sym (one_single F x kind form shape shaped)

    ruleset counts = (rows_seen, single_seen)

    -- it has as many records as its shape
    shaped_count : (kind : StreamKind) → shape_of F x.entry.location.rva x.entry.location.size kind ≡ Ok shape
        → length (records_seen (shaped_in {Z = Z} F x.entry.location.rva kind shape)) ≡ shape.count
    shaped_count lists.Exception shaped = search counts
    shaped_count _ shaped = search counts

    abbrev row_place : ℕ → ℕ
    row_place k = x.entry.location.rva + shape.first + k * shape.stride

    single_at : (record_of : ℕ → Seen) (k : ℕ) → k < 1 → get_or (record_of (x.entry.location.rva + shape.first) ∷ []) k nothing_seen ≡ record_of (row_place k)
    single_at record_of zero within = ap record_of (let h : x.entry.location.rva + shape.first ≡ x.entry.location.rva + shape.first + 0 * shape.stride = omega arith in h)
    single_at record_of (suc k) within = absurd (omega (arith, within))

    module _ (k : ℕ) (within : k < shape.count) where
      row_by : {X : Type 0} (see : X → Seen) (f : ℕ → ℕ → X) → get_or (map see (list_in f x.entry.location.rva shape)) k nothing_seen ≡ see (f k (row_place k))
      row_by see f = row_at see f (x.entry.location.rva + shape.first) shape.stride shape.count 0 k k (omega arith) within

      only_by : shape.count ≡ 1 → (record_of : ℕ → Seen) → get_or (record_of (x.entry.location.rva + shape.first) ∷ []) k nothing_seen ≡ record_of (row_place k)
      only_by one record_of = single_at record_of k (omega (arith, one, within))

      -- each of which is what is found there
      shaped_row : (kind : StreamKind) → shape_of F x.entry.location.rva x.entry.location.size kind ≡ Ok shape
          → seen_record (shaped_in {Z = Z} F x.entry.location.rva kind shape) k ≡ seen_in kind F x.entry.location.rva k (row_place k)
      shaped_row lists.Exception shaped = only_by (one_single F x lists.Exception refl shape shaped) (λ o. exception_seen (exception_in {Z = Z} F o)) ∙ search alike
      shaped_row lists.System shaped = only_by (one_single F x lists.System refl shape shaped) (λ o. system_seen (system_in {Z = Z} F o))
      shaped_row _ shaped = row_by _ _ ∙ search alike

-- ---- what stands for an entry

-- an unused one has nothing, a known one its records, and of any other the raw bytes lie inside the file
data IsSeenAs (Z : Type 0) (F : List ℕ) (x : Numbered) (n : ℕ) : Type 0 where
  Unused : x.entry.stream_type ≡ 0 → stream_named {Z = Z} F x.entry ≡ streams.Unused → n ≡ 0 → IsSeenAs Z F x n
  Known : (kind : StreamKind) (shape : Shape) → kind_of x.entry.stream_type ≡ Some kind → shape_of F x.entry.location.rva x.entry.location.size kind ≡ Ok shape
      → stream_named {Z = Z} F x.entry ≡ shaped_in {Z = Z} F x.entry.location.rva kind shape → n ≡ shape.count → IsSeenAs Z F x n
  Raw : (x.entry.stream_type == 0) ≡ false → kind_of x.entry.stream_type ≡ None → is_inside x.entry.location.rva x.entry.location.size (length F) ≡ true
      → stream_named {Z = Z} F x.entry ≡ streams.Raw x.entry.stream_type (array_at F x.entry.location.rva x.entry.location.size) → n ≡ 0 → IsSeenAs Z F x n

module _ (Z : Type 0) (F : List ℕ) (x : Numbered) (n : ℕ) (counts : record_count F x.entry ≡ Ok n) where
  seen_by_shape : (t : ℕ) (kind : StreamKind) (shape : Result Shape Fault) → x.entry.stream_type ≡ suc t → kind_of x.entry.stream_type ≡ Some kind
      → shape_of F x.entry.location.rva x.entry.location.size kind ≡ shape → stream_named {Z = Z} F x.entry ≡ known_in {Z = Z} F x.entry.location.rva kind shape → IsSeenAs Z F x n
  seen_by_shape t kind (Ok shape) type known shaped same = Known kind shape known shaped same (sym (shape_counted F x n counts kind shape known shaped))
  seen_by_shape t kind (Err fault) type known shaped same =
      let wrong : Err fault ≡ Ok n = rw (known, shaped) at (known_counted F x n counts) in
      absurd (cc wrong)

  seen_by_kind : (t : ℕ) (kind : Option StreamKind) → x.entry.stream_type ≡ suc t → kind_of x.entry.stream_type ≡ kind
      → stream_named {Z = Z} F x.entry ≡ by_kind {Z = Z} F x.entry kind → IsSeenAs Z F x n
  seen_by_kind t (Some kind) type known same = seen_by_shape t kind (shape_of F x.entry.location.rva x.entry.location.size kind) type known refl same
  seen_by_kind t None type known same =
      let used : (x.entry.stream_type == 0) ≡ false = grind (arith, nat_tests, type) in
      let none : Ok 0 ≡ Ok n = rw known at (known_counted F x n counts) in
      Raw used known (unused_by (x.entry.stream_type == 0) _ _ used (counted_placed F x n counts)) same (cc none)

  seen_by_type : (t : ℕ) → x.entry.stream_type ≡ t → IsSeenAs Z F x n
  seen_by_type zero type =
      let known : kind_of x.entry.stream_type ≡ None = ap kind_of type in
      let none : Ok 0 ≡ Ok n = rw known at (known_counted F x n counts) in
      Unused type (ap (by_type {Z = Z} F x.entry) type) (cc none)
  seen_by_type (suc t) type =
      seen_by_kind t (kind_of x.entry.stream_type) type refl
      (ap (by_type {Z = Z} F x.entry) type ∙ ap (λ (m : ℕ). by_kind {Z = Z} F x.entry (kind_of m)) (sym type))

  seen_as : IsSeenAs Z F x n
  seen_as = seen_by_type x.entry.stream_type refl

  -- ---- what a view gives of it

  pub records_are : length (records_seen (stream_named {Z = Z} F x.entry)) ≡ n
  records_are = by seen_as where
    by : IsSeenAs Z F x n → length (records_seen (stream_named {Z = Z} F x.entry)) ≡ n
    by (Unused type same none) = ap (λ (s : Stream Z). length (records_seen s)) same ∙ sym none
    by (Known kind shape known shaped same count) = ap (λ (s : Stream Z). length (records_seen s)) same ∙ shaped_count Z F x shape kind shaped ∙ sym count
    by (Raw used known inside same none) = ap (λ (s : Stream Z). length (records_seen s)) same ∙ sym none

  kind_raw : (x.entry.stream_type == 0) ≡ false → kind_of x.entry.stream_type ≡ None → kind_by x.entry.stream_type ≡ kinds.Raw x.entry.stream_type
  kind_raw used known = rw (used, known) refl

  kind_known : (kind : StreamKind) → kind_of x.entry.stream_type ≡ Some kind → kind_by (type_of_kind kind) ≡ kind_by x.entry.stream_type
  kind_known kind known = ap kind_by (sym (type_of-kind x.entry.stream_type kind known))

  pub kind_is : kind_in (stream_named {Z = Z} F x.entry) ≡ kind_by x.entry.stream_type
  kind_is = by seen_as where
    by : IsSeenAs Z F x n → kind_in (stream_named {Z = Z} F x.entry) ≡ kind_by x.entry.stream_type
    by (Unused type same none) = ap (λ (s : Stream Z). kind_in s) same ∙ ap kind_by (sym type)
    by (Known kind shape known shaped same count) = ap (λ (s : Stream Z). kind_in s) same ∙ shaped_kind Z F x kind shape ∙ kind_known kind known
    by (Raw used known inside same none) = ap (λ (s : Stream Z). kind_in s) same ∙ sym (kind_raw used known)

  -- ---- its raw bytes

  part_unused : x.entry.stream_type ≡ 0 → raw_size (kind_by x.entry.stream_type) x.entry.location.size ≡ NoPart
  part_unused type = ap (λ (t : ℕ). raw_size (kind_by t) x.entry.location.size) type

  part_known : (kind : StreamKind) → kind_of x.entry.stream_type ≡ Some kind → raw_size (kind_by x.entry.stream_type) x.entry.location.size ≡ NoPart
  part_known kind known = ap (λ (k : Kind). raw_size k x.entry.location.size) (sym (kind_known kind known)) ∙ type_part kind x.entry.location.size

  part_raw : (x.entry.stream_type == 0) ≡ false → kind_of x.entry.stream_type ≡ None → raw_size (kind_by x.entry.stream_type) x.entry.location.size ≡ Size x.entry.location.size
  part_raw used known = ap (λ (k : Kind). raw_size k x.entry.location.size) (kind_raw used known)

  pub raw_sized : length (raw_in (stream_named {Z = Z} F x.entry)) ≡ size_in (raw_part x.entry).size
  raw_sized = by seen_as where
    by : IsSeenAs Z F x n → length (raw_in (stream_named {Z = Z} F x.entry)) ≡ size_in (raw_size (kind_by x.entry.stream_type) x.entry.location.size)
    by (Unused type same none) = ap (λ (s : Stream Z). length (raw_in s)) same ∙ ap size_in (sym (part_unused type))
    by (Known kind shape known shaped same count) = ap (λ (s : Stream Z). length (raw_in s)) same ∙ ap length (shaped_raw Z F x kind shape) ∙ ap size_in (sym (part_known kind known))
    by (Raw used known inside same none) =
        ap (λ (s : Stream Z). length (raw_in s)) same ∙ length-array_at F x.entry.location.rva x.entry.location.size inside ∙ ap size_in (sym (part_raw used known))

  pub raw_is : length (raw_in (stream_named {Z = Z} F x.entry)) ≡ raw_by (kind_by x.entry.stream_type) x.entry.location.size
  raw_is = raw_sized ∙ raw_told (kind_by x.entry.stream_type) x.entry.location.size

  pub raw_stands : bytes_at F x.entry.location.rva (length (raw_in (stream_named {Z = Z} F x.entry))) ≡ raw_in (stream_named {Z = Z} F x.entry)
  raw_stands = by seen_as where
    by : IsSeenAs Z F x n → bytes_at F x.entry.location.rva (length (raw_in (stream_named {Z = Z} F x.entry))) ≡ raw_in (stream_named {Z = Z} F x.entry)
    by (Unused type same none) = none_stand F x.entry.location.rva (raw_in (stream_named {Z = Z} F x.entry)) (ap (λ (s : Stream Z). raw_in s) same)
    by (Known kind shape known shaped same count) =
        none_stand F x.entry.location.rva (raw_in (stream_named {Z = Z} F x.entry)) (ap (λ (s : Stream Z). raw_in s) same ∙ shaped_raw Z F x kind shape)
    by (Raw used known inside same none) =
        let raw : raw_in (stream_named {Z = Z} F x.entry) ≡ array_at F x.entry.location.rva x.entry.location.size = ap (λ (s : Stream Z). raw_in s) same in
        subst (λ (bytes : List ℕ). bytes_at F x.entry.location.rva (length bytes) ≡ bytes) (sym raw)
        (ap (bytes_at F x.entry.location.rva) (length-array_at F x.entry.location.rva x.entry.location.size inside) ∙ sym (array_is F x.entry.location.rva x.entry.location.size))

  -- they lie inside the file
  pub raw_inside : IsPartIn (length F) (raw_part x.entry).size (raw_part x.entry).at
  raw_inside = by seen_as where
    by : IsSeenAs Z F x n → IsPartIn (length F) (raw_size (kind_by x.entry.stream_type) x.entry.location.size) x.entry.location.rva
    by (Unused type same none) = none_in (length F) x.entry.location.rva _ (part_unused type)
    by (Known kind shape known shaped same count) = none_in (length F) x.entry.location.rva _ (part_known kind known)
    by (Raw used known inside same none) =
        subst (λ (p : PartSize). IsPartIn (length F) p x.entry.location.rva) (sym (part_raw used known)) (λ some. grind (arith, nat_tests, inside, some))

  -- ---- each of its records

  -- a stream of this shape is what stands there
  named_shaped : (kind : StreamKind) (shape : Shape) → kind_of x.entry.stream_type ≡ Some kind → shape_of F x.entry.location.rva x.entry.location.size kind ≡ Ok shape
      → stream_named {Z = Z} F x.entry ≡ shaped_in {Z = Z} F x.entry.location.rva kind shape
  named_shaped kind shape known shaped = by seen_as where
    by : IsSeenAs Z F x n → stream_named {Z = Z} F x.entry ≡ shaped_in {Z = Z} F x.entry.location.rva kind shape
    by (Unused type same none) = let unknown : kind_of x.entry.stream_type ≡ None = ap kind_of type in absurd (cc)
    by (Known other one is stands same count) =
        let kinds_are : other ≡ kind = cc in
        let again : shape_of F x.entry.location.rva x.entry.location.size kind ≡ Ok one = subst (λ (k : StreamKind). shape_of F x.entry.location.rva x.entry.location.size k ≡ Ok one) kinds_are stands in
        let shapes_are : one ≡ shape = cc in
        same ∙ ap (λ (k : StreamKind). shaped_in {Z = Z} F x.entry.location.rva k one) kinds_are ∙ ap (shaped_in {Z = Z} F x.entry.location.rva kind) shapes_are
    by (Raw used unknown inside same none) = absurd (cc)

  module _ (limit k : ℕ) (f : FoundRecord) (finds : FindsRow F limit x k (Ok f)) where
    record_is : seen_record (stream_named {Z = Z} F x.entry) k
        ≡ seen_in finds.kind F x.entry.location.rva k (x.entry.location.rva + finds.shape.first + k * finds.shape.stride)
    record_is =
        ap (λ (s : Stream Z). seen_record s k) (named_shaped finds.kind finds.shape finds.kind_is finds.shape_is)
        ∙ shaped_row Z F x finds.shape k finds.within finds.kind finds.shape_is

    -- a record that is found is the one that stands there
    pub row_seen : IsSeenAt F (seen_record (stream_named {Z = Z} F x.entry) k) f
    row_seen = subst (λ (s : Seen). IsSeenAt F s f) (sym record_is) finds.finds.1

    pub sizes_are : (j : ℕ) → size_in (get_or f.parts j no_part).size ≡ size_in (size_at (seen_record (stream_named {Z = Z} F x.entry) k).fields j)
    sizes_are j = sizes_found f (seen_record (stream_named {Z = Z} F x.entry) k).fields row_seen.fields j

  -- the room of one more of them
  pub rooms_step : (k met q : ℕ) → k < n → met ≡ told (parts_in (kind_in (stream_named {Z = Z} F x.entry)) (take k (records_seen (stream_named {Z = Z} F x.entry))))
      → q ≡ told (told (met + fields_room (seen_record (stream_named {Z = Z} F x.entry) k).fields) + far_room (seen_record (stream_named {Z = Z} F x.entry) k).fields)
      → q ≡ told (parts_in (kind_in (stream_named {Z = Z} F x.entry)) (take (k + 1) (records_seen (stream_named {Z = Z} F x.entry))))
  rooms_step k met q within is next =
      let s : Stream Z = stream_named {Z = Z} F x.entry in
      let count = records_are in
      let inside : k < length (records_seen s) = omega (arith, within, count) in
      step_by (records_seen s) k met q inside (is_far (kind_in s)) (record_room s k inside) is next
