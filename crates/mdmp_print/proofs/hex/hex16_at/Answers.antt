use Rattle.std.proofs.Common.{ap, arith, length}
use Rattle.std.proofs.lemmas.Simd.{length-put_chunk, take_more_put_chunk}
use Rattle.mdmp_print.proofs.HexLanes.{length-hex}
use Rattle.mdmp_print.proofs.hex.hex16_at.Goals as goal

pub returns : goal.returns
returns c = rw (← c.hex_lanes.ensures) record {
  text = take_more_put_chunk c.args.len c.args.text.now c.hex_lanes.result _ (omega (arith, ap length c.hex_lanes.ensures, length-hex 16 c.args.number)) c.requires;
  within = omega arith;
  same = length-put_chunk c.args.len c.args.text.now c.hex_lanes.result;
}
