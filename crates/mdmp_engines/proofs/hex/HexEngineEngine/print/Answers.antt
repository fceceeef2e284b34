use Rattle.std.proofs.Common.{arith}
use Rattle.mdmp_lister.specs.Format.Listing.{listing, memory_lists}
use Rattle.mdmp_engines.proofs.hex.HexEngineEngine.print.Goals as goal

pub returns-clause-ends : goal.returns-clause-ends
returns-clause-ends g c = λ file known.
    (c.hex_listed.ensures.hexes file known (listing file memory_lists c.args.lister.now.limit) (c.requires.opened.left file known)).ends

pub returns-clause-writes : goal.returns-clause-writes
returns-clause-writes g c = λ file known.
    (c.hex_listed.ensures.hexes file known (listing file memory_lists c.args.lister.now.limit) (c.requires.opened.left file known)).writes

pub returns-clause-leaves : goal.returns-clause-leaves
returns-clause-leaves g c = c.hex_listed.ensures.leaves

pub returns-clause-same : goal.returns-clause-same
returns-clause-same g c = c.hex_listed.ensures.same

pub returns-clause-over : goal.returns-clause-over
returns-clause-over g c = c.hex_listed.ensures.over

pub returns-clause-read : goal.returns-clause-read
returns-clause-read g c = let most = c.hex_listed.ensures.beside in let none = c.requires.opened.aside in record { keeps = record { beside = omega (arith, most, none); names = tt }; requests = c.hex_listed.ensures.requests }
