use Rattle.std.proofs.Common.{length, ◌/◌, sym}
use Rattle.mdmp_wire.specs.NumberLaws.{length-numbers_at}
use Rattle.mdmp_wire.proofs.units_ref.UnitsRef.len.Goals as goal

pub returns : goal.returns
returns c = let b = c.args.self.now.bytes.now in sym (length-numbers_at b 0 2 (length b / 2))
