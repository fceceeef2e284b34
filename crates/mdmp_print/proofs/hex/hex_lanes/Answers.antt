use Rattle.std.proofs.Common.{arith}
use Rattle.mdmp_print.proofs.HexLanes.{all_lanes, byte, half_asks}
use Rattle.mdmp_print.proofs.hex.hex_lanes.Goals as goal

pub swizzle-2 : goal.swizzle-2
swizzle-2 c =
    let n = c.args.number in
    (half_asks (byte n 7), (half_asks (byte n 15), (half_asks (byte n 6), (half_asks (byte n 14), (half_asks (byte n 5), (half_asks (byte n 13), (half_asks (byte n 4), (half_asks (byte n 12), (half_asks (byte n 3), (half_asks (byte n 11), (half_asks (byte n 2), (half_asks (byte n 10), (half_asks (byte n 1), (half_asks (byte n 9), (half_asks (byte n 0), (half_asks (byte n 8), tt))))))))))))))))

pub returns : goal.returns
returns c = all_lanes c.args.number (omega arith)
