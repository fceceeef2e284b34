-- The bytes of a record's name and parts: within their room, and inside the file where they were found.
use Rattle.std.proofs.Common.{◌≡◌, ◌∙◌, ◌≤◌, ◌<◌, ◌+◌, ℕ, zero, suc, List, [], ◌∷◌, length, map, get_or, ap, arith, refl, sym, drop}
use Rattle.std.proofs.lemmas.List.{length-map, length-take}
use Rattle.std.proofs.Common.{length-drop}
use Rattle.mdmp_source.specs.Range.{bytes_at}
use Rattle.mdmp_source.specs.Store.{AreBytes}
use Rattle.mdmp_wire.specs.AnyRecord.{bare, slot_at}
use Rattle.mdmp_wire.specs.declared.any_record.AnyRecord.{AnyRecord}
use Rattle.mdmp_wire.specs.declared.any_record.AnyRecord.TheVariants as any
use Rattle.mdmp_wire.specs.declared.slot.Slot.{Slot}
use Rattle.mdmp_wire.specs.declared.slot.Slot.TheVariants as slots
use Rattle.mdmp_lister.specs.Format.Item.{kind_told}
use Rattle.mdmp_dump.specs.declared.found_record.FoundRecord.{FoundRecord}
use Rattle.mdmp_dump.specs.declared.found_record.PartAt.{PartAt}
use Rattle.mdmp_dump.specs.declared.view.Fields.{Fields}
use Rattle.mdmp_dump.specs.declared.view.PartSize.{PartSize}
use Rattle.mdmp_dump.specs.declared.view.PartSize.TheVariants.{NoPart, Size, Absent}
use Rattle.mdmp_dump.specs.Finding.{IsFittingOf, IsSeenAt, seen_of}
use Rattle.mdmp_dump.specs.FoundRecord.{AreIn, IsPartIn, no_part}
use Rattle.mdmp_dump.specs.Placed.{bytes_in, name_room, part_room, size_at, size_in, slot_far, slot_room}
use Rattle.mdmp_dump.specs.Places.{up}
use Rattle.mdmp_dump.specs.Seen.{Seen, seen}
use Rattle.mdmp_dump.specs.Shape.{IsSized}
use Rattle.mdmp_dump.specs.ShapeLaws.{name_sized, part_sized, three_sized}

-- ---- room

up_most : (n : ℕ) → n ≤ up n
up_most n = omega arith

part_most : (p : PartSize) → size_in p ≤ part_room p
part_most NoPart = omega arith
part_most (Size n) = up_most n
part_most (Absent n) = omega arith

name_most : (p : PartSize) → size_in p ≤ name_room p
name_most NoPart = omega arith
name_most (Size n) = omega (arith, up_most (4 + n + 2))
name_most (Absent n) = omega arith

-- what stands behind a slot is within its room
pub slot_most : (s : Slot) (p : PartSize) → (s ≡ slots.Empty → p ≡ NoPart) → size_in p ≤ slot_room s p + slot_far s p
slot_most slots.Empty p none = rw (none refl) (omega arith)
slot_most (slots.Name rva) p none = omega (arith, name_most p)
slot_most (slots.Part name at) p none = omega (arith, part_most p)
slot_most (slots.Behind n) p none = omega arith

-- with no place in it a record has the same room
bare_rooms : (w : AnyRecord) (a b c : PartSize)
    → (slot_room (slot_at (bare w) 0) a ≡ slot_room (slot_at w 0) a) × ((slot_room (slot_at (bare w) 1) b ≡ slot_room (slot_at w 1) b) × ((slot_room (slot_at (bare w) 2) c ≡ slot_room (slot_at w 2) c) × (slot_far (slot_at (bare w) 0) a ≡ slot_far (slot_at w 0) a)))
bare_rooms (any.Thread r) a b c = (refl, (refl, (refl, refl)))
bare_rooms _ a b c = (refl, (refl, (refl, refl)))

-- only the first slot is of bytes that stand behind
first_far : (w : AnyRecord) (b c : PartSize) → (slot_far (slot_at w 1) b ≡ 0) × (slot_far (slot_at w 2) c ≡ 0)
first_far (any.Thread r) b c = (refl, refl)
first_far _ b c = (refl, refl)

bare_kind : (w : AnyRecord) → kind_told (bare w) ≡ kind_told w
bare_kind (any.Thread r) = refl
bare_kind _ = refl

pub bare_fits : (w : AnyRecord) (p q t : PartAt) → size_in p.size ≤ slot_room (slot_at w 0) p.size + slot_far (slot_at w 0) p.size → size_in q.size ≤ slot_room (slot_at w 1) q.size + slot_far (slot_at w 1) q.size
    → size_in t.size ≤ slot_room (slot_at w 2) t.size + slot_far (slot_at w 2) t.size → IsFittingOf w (record { wire = bare w; parts = p ∷ q ∷ t ∷ [] })
bare_fits w p q t first second third =
    let same = bare_rooms w p.size q.size t.size in
    let far = first_far w q.size t.size in
    (bare_kind w, omega (arith, first, second, third, same.0, same.1.0, same.1.1.0, same.1.1.1, far.0, far.1))

-- ---- bytes inside the file

-- as many bytes as were asked for
had_inside : (F : List ℕ) (at n : ℕ) → length (bytes_at F at n) ≡ n → 0 < n → at + n ≤ length F
had_inside F at n all some = grind (arith, all, some, length-take n (drop at F), length-drop at F)

size_of_part : (parts : List PartAt) (k : ℕ) → get_or (map (λ p. p.size) parts) k NoPart ≡ (get_or parts k no_part).size
size_of_part [] k = refl
size_of_part (p ∷ parts) zero = refl
size_of_part (p ∷ parts) (suc k) = size_of_part parts k

sized : (s : Seen) → length (bytes_in s 0) ≡ size_in (size_at s.fields 0) → length (bytes_in s 1) ≡ size_in (size_at s.fields 1) → length (bytes_in s 2) ≡ size_in (size_at s.fields 2)
    → IsSized (seen s.fields.wire (size_at s.fields 0 ∷ size_at s.fields 1 ∷ size_at s.fields 2 ∷ []) (bytes_in s 0 ∷ bytes_in s 1 ∷ bytes_in s 2 ∷ []))
sized s first second third = three_sized s.fields.wire (size_at s.fields 0) (size_at s.fields 1) (size_at s.fields 2) (bytes_in s 0) (bytes_in s 1) (bytes_in s 2) first second third

-- a name or a part has as many bytes as its size
ruleset sizes = (name_sized, part_sized)

seen_sized : (F : List ℕ) (far : ℕ) (w : AnyRecord) → IsSized (seen_of F far w)
seen_sized F far (any.Thread r) = sized (seen_of F far (any.Thread r)) (search sizes) (search sizes) refl
seen_sized F far w = sized (seen_of F far w) (search sizes) (search sizes) (search sizes)

seen_three : (F : List ℕ) (far : ℕ) (w : AnyRecord) → length (seen_of F far w).fields.parts ≡ 3
seen_three F far (any.Thread r) = refl
seen_three F far _ = refl

-- the parts of a record that was found in a file lie inside it
pub seen_inside : (F : List ℕ) (far : ℕ) (w : AnyRecord) (f : FoundRecord) → AreBytes F → IsSeenAt F (seen_of F far w) f → AreIn (length F) f.parts
seen_inside F far w f fits is = (three, each) where
  three : length f.parts ≡ 3
  three = sym (length-map f.parts (λ p. p.size)) ∙ ap (λ (x : Fields). length x.parts) is.fields ∙ seen_three F far w

  each : (j : ℕ) → IsPartIn (length F) (get_or f.parts j no_part).size (get_or f.parts j no_part).at
  each j =
      let s = seen_of F far w in
      let p = get_or f.parts j no_part in
      let size : (get_or f.parts j no_part).size ≡ size_at s.fields j = sym (size_of_part f.parts j) ∙ ap (λ (x : Fields). get_or x.parts j NoPart) is.fields in
      let all : length (bytes_at F p.at (size_in p.size)) ≡ size_in p.size = ap length (is.parts fits j) ∙ seen_sized F far w j ∙ sym (ap size_in size) in
      had_inside F p.at (size_in p.size) all
