use Rattle.mdmp_wire.proofs.Slots.{bare_each}
use Rattle.mdmp_wire.proofs.any_record.AnyRecord.bare.Goals as goal

pub with_slots-requires : goal.with_slots-requires
with_slots-requires c = rw (c.bare.ensures, c.bare-2.ensures, c.bare-3.ensures, c.slots.ensures) (bare_each c.args.self.now)
