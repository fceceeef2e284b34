-- Other slots in place of a record's own.
use Rattle.std.proofs.Common.{◌≡◌, ◌∙◌, ℕ, zero, suc, map, subst, arith, List, [], ◌∷◌, ap, get_or, length, refl, sym}
use Rattle.mdmp_wire.specs.declared.any_record.AnyRecord.{AnyRecord}
use Rattle.mdmp_wire.specs.declared.any_record.AnyRecord.TheVariants as any
use Rattle.mdmp_wire.specs.declared.slot.PartName.{PartName}
use Rattle.mdmp_wire.specs.declared.slot.Slot.{Slot}
use Rattle.mdmp_wire.specs.declared.slot.Slot.TheVariants.{Empty, Name, Part, Behind}
use Rattle.mdmp_wire.specs.AnyRecord.{AreSlotsOf, IsSlotFor, name_bound, bare_slot, slot_at, slot_behind, slot_location, slot_rva, slots_of, with_slots}

-- what is found of a slot that is put in place of another
abbrev refilled : Slot → Slot → Slot
refilled Empty new = Empty
refilled (Name old) new = Name (slot_rva new)
refilled (Part name old) new = Part name (slot_location new)
refilled (Behind old) new = Behind (slot_behind new)

refilled_is : (bound : ℕ) (old new : Slot) → IsSlotFor bound old new → refilled old new ≡ new
refilled_is bound Empty new is = sym is
refilled_is bound (Name old) (Name new) is = refl
refilled_is bound (Part name old) (Part other new) is = ap (λ (one : PartName). Part one new) (sym is)
refilled_is bound (Behind old) (Behind new) is = refl
refilled_is bound old new is = absurd is

by_slot : (w : AnyRecord) (s : List Slot)
    → slots_of (with_slots w s) ≡ refilled (slot_at w 0) (get_or s 0 Empty) ∷ refilled (slot_at w 1) (get_or s 1 Empty) ∷ refilled (slot_at w 2) (get_or s 2 Empty) ∷ []
by_slot (any.Thread r) s = refl
by_slot _ s = refl

all_three : (s : List Slot) → length s ≡ 3 → get_or s 0 Empty ∷ get_or s 1 Empty ∷ get_or s 2 Empty ∷ [] ≡ s
all_three (a ∷ b ∷ c ∷ []) three = refl
all_three s three = absurd (cc three)

-- what it points at is what was put in
pub slots_put : (w : AnyRecord) (s : List Slot) → AreSlotsOf w s → slots_of (with_slots w s) ≡ s
slots_put w s are =
    let is : (k : ℕ) → refilled (slot_at w k) (get_or s k Empty) ≡ get_or s k Empty = λ k. refilled_is (name_bound w) (slot_at w k) (get_or s k Empty) (are.fit k) in
    by_slot w s ∙ (λ i. is 0 i ∷ is 1 i ∷ is 2 i ∷ []) ∙ all_three s are.three

-- with its own it is as it was
pub own_slots : (w : AnyRecord) → with_slots w (slots_of w) ≡ w
own_slots (any.Thread r) = refl
own_slots _ = refl

-- slots with no place in them can be put in place of its own
bare_one : (w : AnyRecord) (slot : Slot) → IsSlotFor (name_bound w) slot (bare_slot slot)
bare_one w Empty = refl
bare_one (any.ThreadName r) (Name rva) = omega arith
bare_one w (Name rva) = omega arith
bare_one w (Part name at) = refl
bare_one w (Behind bytes) = tt

bare_get : (s : List Slot) (k : ℕ) → get_or (map bare_slot s) k Empty ≡ bare_slot (get_or s k Empty)
bare_get [] k = refl
bare_get (a ∷ s) zero = refl
bare_get (a ∷ s) (suc k) = bare_get s k

bare_three : (w : AnyRecord) → length (map bare_slot (slots_of w)) ≡ 3
bare_three (any.Thread r) = refl
bare_three _ = refl

pub bare_fit : (w : AnyRecord) → AreSlotsOf w (map bare_slot (slots_of w))
bare_fit w = record {
  three = bare_three w;
  fit = λ k. subst (λ (s : Slot). IsSlotFor (name_bound w) (slot_at w k) s) (sym (bare_get (slots_of w) k)) (bare_one w (slot_at w k));
}

bare_are : (w : AnyRecord) → map bare_slot (slots_of w) ≡ bare_slot (slot_at w 0) ∷ bare_slot (slot_at w 1) ∷ bare_slot (slot_at w 2) ∷ []
bare_are (any.Thread r) = refl
bare_are _ = refl

pub bare_each : (w : AnyRecord) → AreSlotsOf w (bare_slot (slot_at w 0) ∷ bare_slot (slot_at w 1) ∷ bare_slot (slot_at w 2) ∷ [])
bare_each w = subst (AreSlotsOf w) (bare_are w) (bare_fit w)
