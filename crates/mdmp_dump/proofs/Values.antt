-- A view of a value gives what the value has.
use Rattle.std.proofs.Common.{◌≡◌, ◌∙◌, ◌<◌, ◌≤◌, ◌+◌, ℕ, zero, suc, List, [], ◌∷◌, length, map, get_or, drop, Bool, true, false, if◌then◌else◌, refl, ap, sym, subst, arith}
use Rattle.std.proofs.lemmas.List.{at_drop_more, drop_more, length-map}
use Rattle.std.proofs.Math.ListN.{drop_of_length-le, get_or-map}
use Rattle.mdmp_wire.specs.declared.any_record.AnyRecord.{AnyRecord}
use Rattle.mdmp_wire.specs.declared.any_record.AnyRecord.TheVariants as any
use Rattle.mdmp_dump.specs.declared.dump.Dump.{Dump}
use Rattle.mdmp_dump.specs.declared.dump.Stream.{Stream}
use Rattle.mdmp_dump.specs.declared.dump.Stream.TheVariants as streams
use Rattle.mdmp_dump.specs.declared.view.Fields.{Fields}
use Rattle.mdmp_dump.specs.declared.view.Kind.{Kind}
use Rattle.mdmp_dump.specs.declared.view.Kind.TheVariants.{Known}
use Rattle.mdmp_dump.specs.Seen.{Seen, nothing_seen}
use Rattle.mdmp_dump.specs.View.{dump_seen, kind_in, raw_in, records_seen, stream_seen}
use Rattle.mdmp_dump.specs.Placed.{far_by, far_room, fields_bytes, fields_room, room_by}
use Rattle.mdmp_dump.specs.Shape.{AreOf, GivesRecord, IsOf, IsSized, all_bytes, all_taken, begun, fars, is_far, parts_at, seen_at, seen_record, rooms, shape_seen, sizes_at, stream_at, taken, told, type_told, unused_seen, value_cursor, value_shape}
use Rattle.mdmp_dump.specs.ShapeLaws.{held, stream_kinds}

nothing_sized : IsSized nothing_seen
nothing_sized k = refl

-- a record takes room in one way alone
abbrev pub HasOneRoom : Bool → AnyRecord → Fields → Type 0
HasOneRoom true w f = room_by w f ≡ 0
HasOneRoom false w f = far_by w f ≡ 0

pub one_room : (w : AnyRecord) (f : Fields) → HasOneRoom (is_far (Known (type_told w))) w f
one_room (any.Memory64 r) f = refl
one_room _ f = refl

-- the room of the rest: of records that stand behind their stream, and of 64-bit memory
near : Bool → List Seen → ℕ
near far xs = if far then 0 else (if far then fars xs else rooms xs)

away : Bool → List Seen → ℕ
away far xs = if far then (if far then fars xs else rooms xs) else 0

near_next : (far : Bool) (x : Seen) (xs : List Seen) → HasOneRoom far x.fields.wire x.fields → near far (x ∷ xs) ≡ fields_room x.fields + near far xs
unfolding near rooms fars
near_next true x xs one = omega (arith, one)
near_next false x xs one = refl

away_next : (far : Bool) (x : Seen) (xs : List Seen) → HasOneRoom far x.fields.wire x.fields → away far (x ∷ xs) ≡ far_room x.fields + away far xs
unfolding away rooms fars
away_next true x xs one = refl
away_next false x xs one = omega (arith, one)

bytes_next : (x : Seen) (xs : List Seen) → all_bytes (x ∷ xs) ≡ fields_bytes x.fields + all_bytes xs
unfolding all_bytes
bytes_next x xs = refl

none_left : (far : Bool) (xs : List Seen) → length xs ≡ 0 → (near far xs ≡ 0) × (away far xs ≡ 0)
unfolding near away rooms fars
none_left true [] e = (refl, refl)
none_left false [] e = (refl, refl)
none_left far (x ∷ xs) e = absurd (let h : suc (length xs) ≡ 0 = e in omega (arith, h))

-- one of some records of a stream's kind
record_of : (kind : Kind) (xs : List Seen) (k : ℕ) → AreOf kind xs → k < length xs → IsOf kind (get_or xs k nothing_seen)
record_of kind [] k are inside = absurd (omega (arith, inside))
record_of kind (x ∷ xs) zero are inside = are.0
record_of kind (x ∷ xs) (suc k) are inside = record_of kind xs k are.1 (let h : suc k < suc (length xs) = inside in omega (arith, h))

sized_at : (kind : Kind) (xs : List Seen) (k : ℕ) → AreOf kind xs → IsSized (get_or xs k nothing_seen)
sized_at kind [] k are = nothing_sized
sized_at kind (x ∷ xs) zero are = are.0.sized
sized_at kind (x ∷ xs) (suc k) are = sized_at kind xs k are.1

module _ {Z : Type 0} where
  pub record_sized : (s : Stream Z) (k : ℕ) → IsSized (seen_record s k)
  record_sized s k = sized_at (kind_in s) (records_seen s) k (stream_kinds s)

  record_in : (s : Stream Z) (k : ℕ) → k < length (records_seen s) → IsOf (kind_in s) (seen_record s k)
  record_in s k inside = record_of (kind_in s) (records_seen s) k (stream_kinds s) inside

  pub record_room : (s : Stream Z) (k : ℕ) → k < length (records_seen s) → HasOneRoom (is_far (kind_in s)) (seen_record s k).fields.wire (seen_record s k).fields
  record_room s k inside =
      let f = (seen_record s k).fields in
      subst (λ (kind : Kind). HasOneRoom (is_far kind) f.wire f) (sym (record_in s k inside).kind_is) (one_room f.wire f)

  -- a step of the cursor
  pub value_next : (s : Stream Z) (k next : ℕ) (f : Fields) → next ≡ k + 1 → k < length (records_seen s) → f ≡ (seen_record s k).fields → GivesRecord (value_cursor s k) f (value_cursor s next)
  unfolding near away
  value_next s k next f e fewer same =
      let x = seen_record s k in
      let room = record_room s k fewer in
      let rest = drop (k + 1) (records_seen s) in
      let split : drop k (records_seen s) ≡ x ∷ rest = drop_more (records_seen s) k nothing_seen fewer in
      let place : k + 1 ≡ suc k = omega arith in
      let far = is_far (kind_in s) in
      rw (e, same) record {
        records = ap length split ∙ (let h : suc (length rest) ≡ length rest + 1 = omega arith in h);
        kind = (record_in s k fewer).kind_is;
        stays = refl;
        room = λ _. record { left = ap (near far) split ∙ near_next far x rest room; last = λ z. (none_left far rest z).0 };
        far = λ _. record { left = ap (away far) split ∙ away_next far x rest room; last = λ z. (none_left far rest z).1 };
        bytes = (let h : all_bytes (drop k (records_seen s)) ≡ fields_bytes x.fields + all_bytes rest = ap all_bytes split ∙ bytes_next x rest in omega (arith, h));
        sizes = λ j. ap (λ (n : ℕ). (value_cursor s n).sizes j) place;
        seen = λ xs known. record {
          first = x;
          others = rest;
          split = sym (ap (held xs) known) ∙ split;
          fields = refl;
          sized = record_sized s k;
          left = refl;
          parts = ap (λ (n : ℕ). (value_cursor s n).parts) place;
        };
        at = refl;
      }

  -- the parts that can be asked for have the sizes told
  pub part_length : (s : Stream Z) (k which : ℕ) → sizes_at s k which ≡ length (get_or (parts_at s k) which [])
  part_length s zero zero = refl
  part_length s zero (suc which) = refl
  part_length s (suc k) which = sym (record_sized s k which)

  -- an unused stream has none
  pub no_part : (s : Stream Z) (k which : ℕ) → s ≡ streams.Unused → k ≤ length (records_seen s) → [] ≡ get_or (parts_at s k) which []
  no_part s zero zero unused fewer = sym (ap raw_in unused)
  no_part s zero (suc which) unused fewer = refl
  no_part s (suc k) which unused fewer =
      let none : suc k ≤ length (records_seen {Z = Z} streams.Unused) = subst (λ (x : Stream Z). suc k ≤ length (records_seen x)) unused fewer in
      absurd (omega (arith, none))

  -- the shape of one of a value's streams
  value_stream : (d : Dump Z) (k : ℕ) → stream_at (value_shape d) k ≡ shape_seen (stream_seen (get_or d.streams k streams.Unused))
  unfolding rooms all_bytes
  value_stream d k =
      get_or-map shape_seen (map stream_seen d.streams) k unused_seen ∙ ap shape_seen (get_or-map (λ (s : Stream Z). stream_seen s) d.streams k streams.Unused)

  pub chosen_shape : (d : Dump Z) (k : ℕ) (ss : List (Stream Z)) (s : Stream Z) → s ≡ get_or ss k streams.Unused → ss ≡ d.streams → shape_seen (stream_seen s) ≡ stream_at (value_shape d) k
  chosen_shape d k ss s chosen same = ap (λ x. shape_seen (stream_seen x)) (chosen ∙ ap (λ xs. get_or xs k streams.Unused) same) ∙ sym (value_stream d k)

  -- its shape has as many streams
  pub value_length : (d : Dump Z) → length (value_shape d).streams ≡ length d.streams
  value_length d = length-map (map stream_seen d.streams) shape_seen ∙ length-map d.streams (λ (s : Stream Z). stream_seen s)

  -- a stream is begun
  pub value_begun : (d : Dump Z) (k : ℕ) → value_cursor (get_or d.streams k streams.Unused) 0 ≡ begun (value_shape d) k
  value_begun d k =
      let seen : seen_at (dump_seen d) k ≡ stream_seen (get_or d.streams k streams.Unused) = get_or-map (λ (s : Stream Z). stream_seen s) d.streams k streams.Unused in
      rw (value_stream d k, seen) refl

-- what is left of what some records take
pub taken_next : {X : Type 0} (far : Bool) (see : X → Seen) (xs : List X) (i : ℕ) (x : X) → i < length xs → x ≡ get_or xs i x
    → all_taken far (map see (drop i xs)) ≡ taken far (see x).fields + all_taken far (map see (drop (i + 1) xs))
unfolding rooms fars
taken_next true see xs i x inside is = at_drop_more (λ ys. fars (map see ys)) xs i x inside ∙ ap (λ y. far_room (see y).fields + fars (map see (drop (i + 1) xs))) (sym is)
taken_next false see xs i x inside is = at_drop_more (λ ys. rooms (map see ys)) xs i x inside ∙ ap (λ y. fields_room (see y).fields + rooms (map see (drop (i + 1) xs))) (sym is)

pub taken_end : {X : Type 0} (far : Bool) (see : X → Seen) (xs : List X) (i : ℕ) → length xs ≤ i → all_taken far (map see (drop i xs)) ≡ 0
unfolding rooms fars
taken_end true see xs i past = ap (λ ys. fars (map see ys)) (drop_of_length-le xs past)
taken_end false see xs i past = ap (λ ys. rooms (map see ys)) (drop_of_length-le xs past)

pub told_next : (total more rest left new whole : ℕ) → new ≡ told (total + more) → left ≡ more + rest → told (total + left) ≡ whole → told (new + rest) ≡ whole
told_next total more rest left new whole is split all = omega (arith, is, split, all)
