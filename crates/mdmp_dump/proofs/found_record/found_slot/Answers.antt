use Rattle.mdmp_dump.proofs.Founding.{empty_found}
use Rattle.mdmp_dump.proofs.found_record.found_slot.Goals as goal

pub returns-in-Empty-clause-finds : goal.returns-in-Empty-clause-finds
returns-in-Empty-clause-finds c = λ file len. rw c.in-Empty.is (empty_found file)
