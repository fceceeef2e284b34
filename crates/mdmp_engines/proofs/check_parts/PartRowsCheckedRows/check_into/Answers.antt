use Rattle.mdmp_engines.proofs.PartsChecking.{hands_parts, keeps_parts_checked, left_of_opened}
use Rattle.mdmp_engines.proofs.check_parts.PartRowsCheckedRows.check_into.Goals as goal

pub check_parts_into-requires : goal.check_parts_into-requires
check_parts_into-requires g c = left_of_opened c.args.lister.now c.requires

pub returns-clause-hands : goal.returns-clause-hands
returns-clause-hands g c = hands_parts _ _ _ _ _ _ c.check_parts_into.ensures.rows

pub returns-clause-ends : goal.returns-clause-ends
returns-clause-ends g c = c.check_parts_into.ensures.leaves.ends

pub returns-clause-read : goal.returns-clause-read
returns-clause-read g c =
    let told = c.check_parts_into.ensures in
    keeps_parts_checked c.args.lister.now c.check_parts_into.new.lister c.requires told.leaves.same told.rows.fetches.same_content told.leaves.names

pub returns-clause-same : goal.returns-clause-same
returns-clause-same g c = c.check_parts_into.ensures.leaves.same
