use Rattle.mdmp_engines.proofs.Checking.{ends_in_entry, hands_verdicts, tells_run}
use Rattle.mdmp_engines.proofs.Reached.{keeps_checked}
use Rattle.mdmp_engines.proofs.check.EntryRowsCheckedRows.check_into.Goals as goal

pub returns-clause-hands : goal.returns-clause-hands
returns-clause-hands g c = hands_verdicts _ _ _ _ _ _ c.requires.choice_is c.check_into.ensures.checks

pub returns-clause-told : goal.returns-clause-told
returns-clause-told g c = tells_run _ _ _ c.check_into.ensures.told c.check_into.ensures.good c.check_into.ensures.refused

pub returns-clause-ends : goal.returns-clause-ends
returns-clause-ends g c = ends_in_entry _ _ _ _ _ _ c.check_into.ensures.checks

pub returns-clause-read : goal.returns-clause-read
returns-clause-read g c =
    let checks = c.check_into.ensures.checks in
    keeps_checked c.args.lister.now c.check_into.new.self c.requires checks.items checks.judged _ checks.same checks.fetches.same_content checks.read checks.of_file checks.counts.most_names

pub returns-clause-same : goal.returns-clause-same
returns-clause-same g c = c.check_into.ensures.checks.same
