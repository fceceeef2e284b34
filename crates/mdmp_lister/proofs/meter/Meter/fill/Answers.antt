use Rattle.std.proofs.Common.{arith}
use Rattle.mdmp_lister.proofs.meter.Meter.fill.Goals as goal

pub overflow_add-place : goal.overflow_add-place
overflow_add-place g c = rw c.bytes.ensures (omega (arith, c.place.ensures.fits, c.requires, c.size-size.ensures.value, c.size-size.type_inv))
