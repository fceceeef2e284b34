use Rattle.std.proofs.Common.{rules}
use Rattle.mdmp_map.proofs.map.AddressMap.gap.Goals as goal

pub returns : goal.returns
returns g c = c.gap.ensures c.args.self.now.ranges c.args.address (search rules)
