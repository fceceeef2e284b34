use Rattle.mdmp_lister.proofs.LawsLemmas.{listing-fault, listing-good}
use Rattle.mdmp_lister.proofs.laws.listing_ends_at_the_first_bad_verdict.Goals as goal

pub returns-clause-first : goal.returns-clause-first
returns-clause-first c = listing-fault c.args.file.now c.args.choice.now c.args.limit

pub returns-clause-good : goal.returns-clause-good
returns-clause-good c = listing-good c.args.file.now c.args.choice.now c.args.limit
