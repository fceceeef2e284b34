use Rattle.mdmp_engines.proofs.PartsChecking.{hands_parts, left_of_opened}
use Rattle.mdmp_c.proofs.parts_outside.GivenPartsGivenRows.check_into.Goals as goal

pub check_parts_into-requires : goal.check_parts_into-requires
check_parts_into-requires g c = left_of_opened c.args.lister.now c.requires

pub returns-clause-hands : goal.returns-clause-hands
returns-clause-hands g c = hands_parts _ _ _ _ _ _ c.check_parts_into.ensures.rows

pub returns-clause-ends : goal.returns-clause-ends
returns-clause-ends g c = c.check_parts_into.ensures.leaves.ends

pub returns-clause-names : goal.returns-clause-names
returns-clause-names g c = c.check_parts_into.ensures.leaves.names

pub returns-clause-same : goal.returns-clause-same
returns-clause-same g c = c.check_parts_into.ensures.leaves.same
