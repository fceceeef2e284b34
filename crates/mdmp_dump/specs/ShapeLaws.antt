-- A value has the shape of its view, and its records are of their streams' kinds.
use Rattle.std.proofs.Common.{◌≡◌, ℕ, zero, suc, List, [], ◌∷◌, length, map, get_or, ap, arith, subst, refl, Bool, true, false, Option, Some, None, Result, Ok, Err, if◌then◌else◌}
use Rattle.std.specs.Prelude.{IfErr}
use Rattle.mdmp_wire.specs.NumberLaws.{length-les}
use Rattle.mdmp_wire.specs.declared.any_record.AnyRecord.{AnyRecord}
use Rattle.mdmp_dump.specs.declared.dump.Dump.{Dump}
use Rattle.mdmp_dump.specs.declared.dump.Stream.{Stream}
use Rattle.mdmp_dump.specs.declared.dump.Stream.TheVariants as streams
use Rattle.mdmp_dump.specs.declared.part.Part.{Part}
use Rattle.mdmp_dump.specs.declared.part.Part.TheVariants as parts
use Rattle.mdmp_dump.specs.declared.view.Kind.{Kind}
use Rattle.mdmp_dump.specs.declared.view.Kind.TheVariants.{Known}
use Rattle.mdmp_dump.specs.declared.view.PartSize.{PartSize}
use Rattle.mdmp_dump.specs.declared.view.ViewFault.{ViewFault}
use Rattle.mdmp_dump.specs.Exception.{exception_seen}
use Rattle.mdmp_dump.specs.Memory.{memory_seen}
use Rattle.mdmp_dump.specs.Memory64.{memory64_seen}
use Rattle.mdmp_dump.specs.MemoryInfo.{memory_info_seen}
use Rattle.mdmp_dump.specs.Module.{module_seen}
use Rattle.mdmp_dump.specs.Placed.{size_in}
use Rattle.mdmp_dump.specs.Seen.{Seen, seen, size_of, bytes_of, name_size, unit_bytes}
use Rattle.mdmp_dump.specs.Shape.{AreOf, AreOfTheirKinds, GivesNone, HaveNoStrayParts, IsOf, IsSized, IsShapeOfSeen, IsToldAt, Spent, fars, is_far, parts_in, rooms, seen_at, shape_seen, type_told, unused_seen, unused_shape, value_shape}
use Rattle.mdmp_dump.specs.System.{system_seen}
use Rattle.mdmp_dump.specs.Thread.{thread_seen}
use Rattle.mdmp_dump.specs.ThreadName.{thread_name_seen}
use Rattle.mdmp_dump.specs.Unloaded.{unloaded_seen}
use Rattle.mdmp_dump.specs.View.{DumpSeen, kind_in, records_seen, stream_seen}

-- what an option holds, or else x
abbrev pub held : {X : Type 0} → X → Option X → X
held x None = x
held x (Some y) = y

pub value_sound : {Z : Type 0} (d : Dump Z) → IsShapeOfSeen (value_shape d)
value_sound d x known = ap (λ (x : DumpSeen). map shape_seen x.streams) (ap (held x) known)

-- ---- the sizes of parts

pub three_sized : (w : AnyRecord) (p q r : PartSize) (a b c : List ℕ) → length a ≡ size_in p → length b ≡ size_in q → length c ≡ size_in r → IsSized (seen w (p ∷ q ∷ r ∷ []) (a ∷ b ∷ c ∷ []))
three_sized w p q r a b c first second third zero = first
three_sized w p q r a b c first second third (suc zero) = second
three_sized w p q r a b c first second third (suc (suc zero)) = third
three_sized w p q r a b c first second third (suc (suc (suc k))) = refl

pub name_sized : (name : Option (List ℕ)) → length (unit_bytes name) ≡ size_in (name_size name)
name_sized None = refl
name_sized (Some units) = length-les 2 units

pub part_sized : {Z : Type 0} (p : Part Z) → length (bytes_of p) ≡ size_in (size_of p)
part_sized (parts.Bytes bytes) = refl
part_sized (parts.Absent size) = refl

-- ---- the kinds of records

three_of : (w : AnyRecord) (p q r : PartSize) (a b c : List ℕ) → length a ≡ size_in p → length b ≡ size_in q → length c ≡ size_in r → IsOf (Known (type_told w)) (seen w (p ∷ q ∷ r ∷ []) (a ∷ b ∷ c ∷ []))
three_of w p q r a b c first second third = record { kind_is = refl; sized = three_sized w p q r a b c first second third }

each_of : {X : Type 0} (kind : Kind) (see : X → Seen) → ((x : X) → IsOf kind (see x)) → (xs : List X) → AreOf kind (map see xs)
each_of kind see each [] = tt
each_of kind see each (x ∷ xs) = (each x, each_of kind see each xs)

module _ {Z : Type 0} where
  pub stream_kinds : (s : Stream Z) → AreOf (kind_in s) (records_seen s)
  stream_kinds streams.Unused = tt
  stream_kinds (streams.Threads ts) = each_of _ thread_seen (λ t. three_of (thread_seen t).fields.wire _ _ _ _ _ _ (part_sized t.stack) (part_sized t.context) refl) ts
  stream_kinds (streams.Modules ms) = each_of _ module_seen (λ m. three_of (module_seen m).fields.wire _ _ _ _ _ _ (name_sized m.name) (part_sized m.codeview) (part_sized m.misc)) ms
  stream_kinds (streams.Memory ms) = each_of _ memory_seen (λ m. three_of (memory_seen m).fields.wire _ _ _ _ _ _ (part_sized m.bytes) refl refl) ms
  stream_kinds (streams.Exception x) = (three_of (exception_seen x).fields.wire _ _ _ _ _ _ (part_sized x.context) refl refl, tt)
  stream_kinds (streams.System s) = (three_of (system_seen s).fields.wire _ _ _ _ _ _ (name_sized s.name) refl refl, tt)
  stream_kinds (streams.Memory64 ms) = each_of _ memory64_seen (λ m. three_of (memory64_seen m).fields.wire _ _ _ _ _ _ refl refl refl) ms
  stream_kinds (streams.Unloaded us) = each_of _ unloaded_seen (λ u. three_of (unloaded_seen u).fields.wire _ _ _ _ _ _ (name_sized u.name) refl refl) us
  stream_kinds (streams.MemoryInfo rs) = each_of _ memory_info_seen (λ r. three_of (memory_info_seen r).fields.wire _ _ _ _ _ _ refl refl refl) rs
  stream_kinds (streams.ThreadNames ts) = each_of _ thread_name_seen (λ t. three_of (thread_name_seen t).fields.wire _ _ _ _ _ _ (name_sized t.name) refl refl) ts
  stream_kinds (streams.Raw t bytes) = tt

  streams_kinds : (ss : List (Stream Z)) (k : ℕ) → AreOf (get_or (map stream_seen ss) k unused_seen).kind (get_or (map stream_seen ss) k unused_seen).records
  streams_kinds [] k = tt
  streams_kinds (s ∷ ss) zero = stream_kinds s
  streams_kinds (s ∷ ss) (suc k) = streams_kinds ss k

  pub value_kinds : (d : Dump Z) → AreOfTheirKinds (value_shape d)
  value_kinds d x k known = subst (λ (y : DumpSeen). AreOf (seen_at y k).kind (seen_at y k).records) (ap (held x) known) (streams_kinds d.streams k)

-- ---- streams of no records

no_parts_by : (far : Bool) → (if far then fars [] else rooms []) ≡ 0
unfolding fars rooms
no_parts_by true = refl
no_parts_by false = refl

no_parts : (kind : Kind) (xs : List Seen) → length xs ≡ 0 → parts_in kind xs ≡ 0
no_parts kind [] none = no_parts_by (is_far kind)
no_parts kind (x ∷ xs) none = absurd (omega (arith, none))

module _ {Z : Type 0} where
  stream_stray : (s : Stream Z) → GivesNone (kind_in s) (length (records_seen s)) → parts_in (kind_in s) (records_seen s) ≡ 0
  stream_stray streams.Unused none = no_parts (kind_in {Z = Z} streams.Unused) [] refl
  stream_stray (streams.Raw t bytes) none = no_parts (kind_in {Z = Z} (streams.Raw t bytes)) [] refl
  stream_stray s none = no_parts (kind_in s) (records_seen s) none

  streams_stray : (ss : List (Stream Z)) (k : ℕ) → GivesNone (get_or (map shape_seen (map stream_seen ss)) k unused_shape).kind (get_or (map shape_seen (map stream_seen ss)) k unused_shape).records
      → (get_or (map shape_seen (map stream_seen ss)) k unused_shape).parts ≡ 0
  streams_stray [] k none = refl
  streams_stray (s ∷ ss) zero none = stream_stray s none
  streams_stray (s ∷ ss) (suc k) none = streams_stray ss k none

  pub value_stray : (d : Dump Z) → HaveNoStrayParts (value_shape d)
  value_stray d k none = streams_stray d.streams k none

-- ---- faults

-- the fault of a call is the one that was answered last
pub last_told : {T : Type 0} (at : ℕ) (spent : Spent) (result : Result T ViewFault) → IfErr result (IsToldAt at spent) → IfErr result (λ fault. spent.fault ≡ Some fault)
last_told at spent (Ok x) told = tt
last_told at spent (Err fault) told = told.last
