-- Sums of what a writer spends of a view, and that nothing is left out where a second pass is.
use Rattle.std.proofs.Common.{◌≡◌, ◌∙◌, ◌+◌, ◌-◌, ◌*◌, ◌==◌, ◌≤◌, ◌<◌, ℕ, zero, suc, List, [], ◌∷◌, length, get_or, map, refl, ap, sym, subst, arith, add-one, Bool, true, false, if◌then◌else◌, sum_by}
use Rattle.std.proofs.lemmas.Bool.Decides.{nat_tests}
use Rattle.std.proofs.lemmas.List.{nil_from_length}
use Rattle.std.proofs.lemmas.List.Sums.{sum_by-cons}
use Rattle.mdmp_wire.specs.declared.any_record.AnyRecord.{AnyRecord}
use Rattle.mdmp_wire.specs.AnyRecord.{slot_at}
use Rattle.mdmp_wire.specs.declared.slot.Slot.{Slot}
use Rattle.mdmp_wire.specs.declared.slot.Slot.TheVariants as slots
use Rattle.mdmp_dump.specs.declared.view.Kind.{Kind}
use Rattle.mdmp_dump.specs.declared.view.Kind.TheVariants as kinds
use Rattle.mdmp_dump.specs.declared.view.PartSize.{PartSize}
use Rattle.mdmp_dump.specs.declared.view.PartSize.TheVariants.{NoPart, Size, Absent}
use Rattle.mdmp_dump.specs.Placed.{bytes_in, fields_room, name_around, name_room, part_room, parts_by, room_by, size_at, size_in, slot_room, slot_text}
use Rattle.mdmp_dump.specs.Places.{up}
use Rattle.mdmp_dump.specs.Seen.{Seen}
use Rattle.mdmp_dump.specs.Shape.{AreOf, IsSized, ViewShape, asks_of, cost_at, fars, is_far, room_of, rooms, seen_at, shape_seen, stream_at, type_told, unused_shape}
use Rattle.mdmp_dump.specs.View.{DumpSeen}
use Rattle.mdmp_dump.proofs.Values.{HasOneRoom, one_room}
use Rattle.mdmp_writer.specs.Passes.{all_asks, all_block_asks, all_block_passes, all_costs, all_far_asks, all_far_passes, all_passes, block_asks, far_asks, far_passes, parts_asks, parts_passes, second_passes, sum_below}
use Rattle.mdmp_writer.specs.Written.{all_padded, padded, parts_of}
use Rattle.mdmp_writer.proofs.Blocks.{known_stream}
use Rattle.mdmp_writer.proofs.Padded.{parts_first, parts_none}

-- ---- sums over the first streams

pub sum_none : (f : ℕ → ℕ) → sum_below f 0 ≡ 0
unfolding sum_below
sum_none f = refl

sum_suc : (f : ℕ → ℕ) (n : ℕ) → sum_below f (suc n) ≡ sum_below f n + f n
unfolding sum_below
sum_suc f n = refl

pub sum_next : (f : ℕ → ℕ) (n : ℕ) → sum_below f (n + 1) ≡ sum_below f n + f n
sum_next f n = rw add-one (sum_suc f n)

-- a sum over more streams is no less
more_by : (f : ℕ → ℕ) (n d : ℕ) → sum_below f n ≤ sum_below f (n + d)
more_by f n zero = (let e : n + 0 ≡ n = omega arith in rw e (omega arith))
more_by f n (suc d) = (let e : n + suc d ≡ suc (n + d) = omega arith in rw e (omega (arith, more_by f n d, sum_suc f (n + d))))

pub sum_more : (f : ℕ → ℕ) (n m : ℕ) → n ≤ m → sum_below f n ≤ sum_below f m
sum_more f n m le = (let e : n + (m - n) ≡ m = omega arith in subst (λ (k : ℕ). sum_below f n ≤ sum_below f k) e (more_by f n (m - n)))

-- up to a stream, and with it, a sum is no more than over all
pub sum_with : (f : ℕ → ℕ) (k n : ℕ) → k < n → sum_below f k + f k ≤ sum_below f n
sum_with f k n fewer = omega (arith, sum_next f k, sum_more f (k + 1) n (omega (arith, fewer)))

-- two sums together are within a third where their members are
sum_two : (f g h : ℕ → ℕ) → ((k : ℕ) → f k + g k ≤ h k) → (n : ℕ) → sum_below f n + sum_below g n ≤ sum_below h n
sum_two f g h each zero = omega (arith, sum_none f, sum_none g, sum_none h)
sum_two f g h each (suc n) = omega (arith, sum_suc f n, sum_suc g n, sum_suc h n, each n, sum_two f g h each n)

-- the first of a sum apart
sum_front : (f : ℕ → ℕ) (n : ℕ) → sum_below f (suc n) ≡ f 0 + sum_below (λ k. f (suc k)) n
sum_front f zero = omega (arith, sum_suc f 0, sum_none f, sum_none (λ k. f (suc k)))
sum_front f (suc n) = omega (arith, sum_suc f (suc n), sum_front f n, sum_suc (λ k. f (suc k)) n)

sum_zero : (f : ℕ → ℕ) → ((k : ℕ) → f k ≡ 0) → (n : ℕ) → sum_below f n ≡ 0
sum_zero f each zero = sum_none f
sum_zero f each (suc n) = omega (arith, sum_suc f n, each n, sum_zero f each n)

-- the members of a list below a place have no more than all
sum_within : {X : Type 0} (F : X → ℕ) (d : X) → F d ≡ 0 → (xs : List X) (n : ℕ) → sum_below (λ k. F (get_or xs k d)) n ≤ sum_by F xs
sum_within F d none [] n = omega (arith, sum_zero (λ k. F d) (λ k. none) n)
sum_within F d none (x ∷ xs) zero = omega (arith, sum_none (λ k. F (get_or (x ∷ xs) k d)))
sum_within F d none (x ∷ xs) (suc n) = omega (arith, sum_front (λ k. F (get_or (x ∷ xs) k d)) n, sum_within F d none xs n, sum_by-cons F x xs)

-- ---- a whole dump

-- a stream is passed over twice at most, and each of its bytes is asked for once
passes_twice : (far none : Bool) (parts cost : ℕ) → ((if far then 0 else parts) == 0) ≡ none → (if none then 0 else cost) + (if far then cost else 0) ≤ cost
passes_twice true true parts cost is = omega arith
passes_twice true false parts cost is = absurd (cc is)
passes_twice false none parts cost is = one none where
  one : (b : Bool) → (if b then 0 else cost) + 0 ≤ cost
  one true = omega arith
  one false = omega arith

asks_once : (far : Bool) (bytes raw : ℕ) → ((if far then 0 else bytes) + raw) + (if far then bytes else 0) ≤ bytes + raw
asks_once true bytes raw = omega arith
asks_once false bytes raw = omega arith

-- the members of two sums are those of one
sum_both : (f g : ℕ → ℕ) (n : ℕ) → sum_below (λ k. f k + g k) n ≡ sum_below f n + sum_below g n
sum_both f g zero = omega (arith, sum_none (λ k. f k + g k), sum_none f, sum_none g)
sum_both f g (suc n) = omega (arith, sum_suc (λ k. f k + g k) n, sum_suc f n, sum_suc g n, sum_both f g n)

-- so a dump costs one pass over each stream, and the second ones
pub passes_within : (s : ViewShape) → all_block_passes s + all_far_passes s ≤ all_passes s
passes_within s =
    let n = length s.streams in
    omega (
      arith,
      sum_both (cost_at s) (parts_passes s) n,
      sum_both (parts_passes s) (far_passes s) n,
      sum_within (λ (c : ℕ). c) 0 refl s.costs n,
    )

-- which are no more than two over each
pub passes_twice_at_most : (s : ViewShape) → all_passes s ≤ 2 * all_costs s
passes_twice_at_most s =
    let n = length s.streams in
    omega (
      arith,
      sum_two (second_passes s) (λ k. 0) (cost_at s) (λ k. (let twice = passes_twice (is_far (stream_at s k).kind) _ (stream_at s k).parts (cost_at s k) refl in omega (arith, twice))) n,
      sum_within (λ (c : ℕ). c) 0 refl s.costs n,
    )

pub asks_within : (s : ViewShape) → all_block_asks s + all_far_asks s ≤ all_asks s
asks_within s =
    let n = length s.streams in
    omega (
      arith,
      sum_two (block_asks s) (far_asks s) (λ k. asks_of (stream_at s k)) (λ k. asks_once (is_far (stream_at s k).kind) (stream_at s k).bytes (stream_at s k).raw) n,
      sum_within asks_of unused_shape refl s.streams n,
    )

-- ---- names and parts that take no room

empty_padded : (b : List ℕ) → length b ≡ 0 → padded b ≡ []
empty_padded b none = ap padded (nil_from_length b none)

part_empty : (p : PartSize) (b : List ℕ) → length b ≡ size_in p → part_room p ≡ 0 → padded b ≡ []
part_empty NoPart b sized none = empty_padded b sized
part_empty (Size n) b sized none = empty_padded b (let h : up n ≡ 0 = none in omega (arith, sized, h))
part_empty (Absent n) b sized none = empty_padded b sized

name_empty : (p : PartSize) (b : List ℕ) → name_room p ≡ 0 → padded (name_around p b) ≡ []
name_empty NoPart b none = refl
name_empty (Size n) b none = absurd (let h : up (4 + n + 2) ≡ 0 = none in omega (arith, h))
name_empty (Absent n) b none = refl

three_empty : (a b d : List ℕ) → padded a ≡ [] → padded b ≡ [] → padded d ≡ [] → all_padded (a ∷ b ∷ d ∷ []) ≡ []
unfolding all_padded
three_empty a b d e f h = rw (e, f, h) refl

slot_empty : (s : Slot) (p : PartSize) (b : List ℕ) → length b ≡ size_in p → slot_room s p ≡ 0 → padded (slot_text s p b) ≡ []
slot_empty slots.Empty p b sized none = refl
slot_empty (slots.Name rva) p b sized none = name_empty p b none
slot_empty (slots.Part name at) p b sized none = part_empty p b sized none
slot_empty (slots.Behind n) p b sized none = refl

-- of a record
parts_empty : (w : AnyRecord) (x : Seen) → IsSized x → room_by w x.fields ≡ 0 → all_padded (parts_by w x) ≡ []
parts_empty w x sized none =
    let empty = λ (k : ℕ). slot_empty (slot_at w k) (size_at x.fields k) (bytes_in x k) (sized k) in
    three_empty _ _ _ (empty 0 (omega (arith, none))) (empty 1 (omega (arith, none))) (empty 2 (omega (arith, none)))

rooms_first : (x : Seen) (xs : List Seen) → rooms (x ∷ xs) ≡ fields_room x.fields + rooms xs
unfolding rooms
rooms_first x xs = refl

-- of records
pub all_empty : (kind : Kind) (xs : List Seen) → AreOf kind xs → rooms xs ≡ 0 → all_padded (parts_of xs) ≡ []
all_empty kind [] of none = parts_none
all_empty kind (x ∷ xs) of none =
    parts_first x xs
    ∙ rw (parts_empty x.fields.wire x of.0.sized (omega (arith, none, rooms_first x xs)), all_empty kind xs of.1 (omega (arith, none, rooms_first x xs))) refl

-- ---- a second pass

-- records of 64-bit memory take no room behind their stream
nine_room : (w : AnyRecord) (x : Seen) → type_told w ≡ 9 → room_by w x.fields ≡ 0
nine_room w x e = subst (λ (far : Bool). HasOneRoom far w x.fields) (ap (λ (t : ℕ). is_far (kinds.Known t)) e) (one_room w x.fields)

type_of_known : Kind → ℕ
type_of_known (kinds.Known t) = t
type_of_known kind = 0

known_types : (a b : ℕ) → kinds.Known a ≡ kinds.Known b → a ≡ b
unfolding type_of_known
known_types a b e = ap type_of_known e

rooms_none : rooms [] ≡ 0
unfolding rooms
rooms_none = refl

nine_rooms : (t : ℕ) (xs : List Seen) → t ≡ 9 → AreOf (kinds.Known t) xs → rooms xs ≡ 0
nine_rooms t [] is of = rooms_none
nine_rooms t (x ∷ xs) is of =
    let one : fields_room x.fields ≡ 0 = nine_room x.fields.wire x (sym (known_types t (type_told x.fields.wire) of.0.kind_is) ∙ is) in
    omega (arith, rooms_first x xs, one, nine_rooms t xs is of.1)

nine_or : (t : ℕ) (b : Bool) (xs : List Seen) → (t == 9) ≡ b → AreOf (kinds.Known t) xs → (if b then 0 else (if b then fars xs else rooms xs)) ≡ 0 → rooms xs ≡ 0
nine_or t true xs is of none = nine_rooms t xs (grind (arith, nat_tests)) of
nine_or t false xs is of none = none

near_rooms : (kind : Kind) (xs : List Seen) → AreOf kind xs → (if is_far kind then 0 else (if is_far kind then fars xs else rooms xs)) ≡ 0 → rooms xs ≡ 0
near_rooms kinds.Unused xs of none = none
near_rooms (kinds.Known t) xs of none = nine_or t (t == 9) xs refl of none
near_rooms (kinds.Raw t) xs of none = none

-- where the names and parts of a stream take no room behind its body, none are written there
pub no_second : (s : ViewShape) (x : DumpSeen) (k : ℕ) → s.streams ≡ map shape_seen x.streams → AreOf (seen_at x k).kind (seen_at x k).records
    → room_of (stream_at s k) ≡ 0 → all_padded (parts_of (seen_at x k).records) ≡ []
no_second s x k e of none =
    let y = seen_at x k in
    all_empty y.kind y.records of (near_rooms y.kind y.records of (sym (ap room_of (known_stream s x k e)) ∙ none))

-- one whose names and parts take room there costs a second pass, which asks for them
near_by : (far : Bool) (parts n : ℕ) → ((if far then 0 else parts) ≡ 0 → ⊥) → (if far then 0 else n) ≡ n
near_by true parts n some = absurd (some refl)
near_by false parts n some = refl

pub near_passes : (s : ViewShape) (k : ℕ) → (room_of (stream_at s k) ≡ 0 → ⊥) → parts_passes s k ≡ cost_at s k
near_passes s k some = by (room_of (stream_at s k) == 0) refl where
  by : (none : Bool) → (room_of (stream_at s k) == 0) ≡ none → (if none then 0 else cost_at s k) ≡ cost_at s k
  by true is = absurd (some (grind (arith, nat_tests)))
  by false is = refl

pub near_asks : (s : ViewShape) (k : ℕ) → (room_of (stream_at s k) ≡ 0 → ⊥) → parts_asks s k ≡ (stream_at s k).bytes
near_asks s k some = near_by (is_far (stream_at s k).kind) (stream_at s k).parts (stream_at s k).bytes some
