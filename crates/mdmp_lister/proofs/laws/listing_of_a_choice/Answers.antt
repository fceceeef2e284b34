use Rattle.mdmp_lister.proofs.LawsLemmas.{IsPart-listing}
use Rattle.mdmp_lister.proofs.laws.listing_of_a_choice.Goals as goal

pub returns-clause-same : goal.returns-clause-same
returns-clause-same c = (IsPart-listing c.args.file.now c.args.choice.now c.args.limit).same

pub returns-clause-begins : goal.returns-clause-begins
returns-clause-begins c = (IsPart-listing c.args.file.now c.args.choice.now c.args.limit).begins
