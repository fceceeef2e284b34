-- The slots of a record whose name and parts are written at a place.
use Rattle.std.proofs.Common.{◌≡◌, ◌<◌, ◌+◌, ◌^◌, ℕ, zero, suc, get_or, arith, refl, subst, sym}
use Rattle.mdmp_wire.specs.AnyRecord.{AreSlotsOf, IsSlotFor, name_bound, slot_at}
use Rattle.mdmp_wire.specs.declared.any_record.AnyRecord.{AnyRecord}
use Rattle.mdmp_wire.specs.declared.any_record.AnyRecord.TheVariants as any
use Rattle.mdmp_wire.specs.declared.slot.Slot.{Slot}
use Rattle.mdmp_wire.specs.declared.slot.Slot.TheVariants as slots
use Rattle.mdmp_dump.specs.declared.view.Fields.{Fields}
use Rattle.mdmp_dump.specs.declared.view.PartSize.{PartSize}
use Rattle.mdmp_dump.specs.declared.view.PartSize.TheVariants.{NoPart, Size, Absent}
use Rattle.mdmp_dump.specs.Placed.{address_of, fields_room, size_at, slot_placed, slot_room, slots_placed}

low : (w : AnyRecord) (n : ℕ) → n < 2 ^ 32 → n < name_bound w
low (any.ThreadName r) n few = omega (arith, few)
low _ n few = few

address_low : (p : PartSize) (at : ℕ) → at < 2 ^ 32 → address_of p at < 2 ^ 32
address_low NoPart at few = omega arith
address_low (Size n) at few = few
address_low (Absent n) at few = omega arith

one_fits : (w : AnyRecord) (s : Slot) (p : PartSize) (at : ℕ) → at < 2 ^ 32 → IsSlotFor (name_bound w) s (slot_placed s p at)
one_fits w slots.Empty p at few = refl
one_fits w (slots.Name rva) p at few = low w (address_of p at) (address_low p at few)
one_fits w (slots.Part name location) p at few = refl
one_fits w (slots.Behind n) p at few = tt

past_three : (w : AnyRecord) (k : ℕ) → slot_at w (suc (suc (suc k))) ≡ slots.Empty
past_three (any.Thread r) k = refl
past_three _ k = refl

pub placed_fit : (f : Fields) (at : ℕ) → at + fields_room f < 2 ^ 32 → AreSlotsOf f.wire (slots_placed f.wire f at)
placed_fit f at few = record { three = refl; fit = each } where
  each : (k : ℕ) → IsSlotFor (name_bound f.wire) (slot_at f.wire k) (get_or (slots_placed f.wire f at) k slots.Empty)
  each zero = one_fits f.wire (slot_at f.wire 0) (size_at f 0) at (omega (arith, few))
  each (suc zero) = one_fits f.wire (slot_at f.wire 1) (size_at f 1) (at + slot_room (slot_at f.wire 0) (size_at f 0)) (omega (arith, few))
  each (suc (suc zero)) =
      one_fits f.wire (slot_at f.wire 2) (size_at f 2) (at + slot_room (slot_at f.wire 0) (size_at f 0) + slot_room (slot_at f.wire 1) (size_at f 1)) (omega (arith, few))
  each (suc (suc (suc k))) = subst (λ (s : Slot). IsSlotFor (name_bound f.wire) s slots.Empty) (sym (past_three f.wire k)) refl
