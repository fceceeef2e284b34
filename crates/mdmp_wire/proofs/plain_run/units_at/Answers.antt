use Rattle.std.proofs.Common.{◌*◌, w8}
use lib.Lanes.{chunk}
use Rattle.std.proofs.lemmas.Simd.{chunk-fits, below_from_Fits}
use Rattle.mdmp_wire.proofs.PlainRuns.{lanes_are_units}
use Rattle.mdmp_wire.proofs.plain_run.units_at.Goals as goal

pub returns : goal.returns
returns c =
    let bytes = c.args.bytes.now in
    let i = c.args.index in
    lanes_are_units bytes i 8 c.requires (below_from_Fits w8 (chunk (2 * i) 16 bytes) (chunk-fits w8 (2 * i) 16 bytes c.type_inv.bytes))
