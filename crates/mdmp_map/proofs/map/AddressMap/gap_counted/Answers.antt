use Rattle.mdmp_map.proofs.map.AddressMap.gap_counted.Goals as goal

pub returns-clause-gap : goal.returns-clause-gap
returns-clause-gap g c = c.gap.ensures c.args.self.now.ranges c.args.address c.look_up_counted.ensures.found
