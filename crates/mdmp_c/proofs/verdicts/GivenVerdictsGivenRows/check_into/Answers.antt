use Rattle.std.proofs.Common.{◌≤◌, arith}
use Rattle.mdmp_lister.specs.Check.{names_judged}
use Rattle.mdmp_engines.proofs.Checking.{ends_in_entry, hands_verdicts, tells_run}
use Rattle.mdmp_engines.proofs.Reached.{end_one, names_judged_most}
use Rattle.mdmp_c.specs.Limits.{names_checked}
use Rattle.mdmp_c.proofs.verdicts.GivenVerdictsGivenRows.check_into.Goals as goal

pub returns-clause-hands : goal.returns-clause-hands
returns-clause-hands g c = hands_verdicts _ _ _ _ _ _ c.requires.choice_is c.check_into.ensures.checks

pub returns-clause-told : goal.returns-clause-told
returns-clause-told g c = tells_run _ _ _ c.check_into.ensures.told c.check_into.ensures.good c.check_into.ensures.refused

pub returns-clause-ends : goal.returns-clause-ends
returns-clause-ends g c = ends_in_entry _ _ _ _ _ _ c.check_into.ensures.checks

pub returns-clause-names : goal.returns-clause-names
returns-clause-names g c = λ file known.
    let checks = c.check_into.ensures.checks in
    let old = c.args.lister.now in
    let most : names_judged checks.items checks.judged ≤ names_checked file old.choice old.limit = names_judged_most file old.choice old.limit checks.items checks.judged _ (checks.read file known) (checks.of_file file known) in
    rw (← c.requires.choice_is) (omega (arith, checks.counts.most_names, most, end_one c.check_into.result))

pub returns-clause-same : goal.returns-clause-same
returns-clause-same g c = c.check_into.ensures.checks.same
