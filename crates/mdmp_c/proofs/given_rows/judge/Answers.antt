use Rattle.std.proofs.Common.{rules, ◌+◌, List, subst}
use Rattle.mdmp_c.specs.declared.fault.PlainFault.{PlainFault}
use Rattle.mdmp_c.specs.GivenRows.{AreNamesWithin, GivesChecked}
use Rattle.mdmp_c.specs.Limits.{most_read, names_checked}
use Rattle.mdmp_c.specs.Table.{EndsListAt}
use Rattle.mdmp_c.proofs.given_rows.judge.Goals as goal

pub returns-clause-gives : goal.returns-clause-gives
returns-clause-gives g c = λ file good.
    let old = c.args.lister.now in
    subst
    (λ (rows : List PlainFault). GivesChecked g.R.GivenRows.given g.R.GivenRows.is_bad (g.R.GivenRows.rows_of file old.limit) (AreNamesWithin old file)
    (EndsListAt old (most_read file old.choice old.limit (old.counts.names + names_checked file old.choice old.limit))) c.judge_into.result c.args.out.now rows)
    (search rules) (c.judge_into.ensures.gives file good)
