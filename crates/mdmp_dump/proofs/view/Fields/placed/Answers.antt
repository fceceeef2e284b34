use Rattle.mdmp_dump.proofs.SlotsPlaced.{placed_fit}
use Rattle.mdmp_dump.proofs.view.Fields.placed.Goals as goal

pub with_slots-requires : goal.with_slots-requires
with_slots-requires c =
    rw (c.slot_placed.ensures, c.slot_placed-2.ensures, c.slot_placed-3.ensures, c.slot_room-2.ensures.same, c.slot_room.ensures.same, c.slots.ensures) (placed_fit c.args.self.now c.args.at c.requires)
