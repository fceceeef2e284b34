use Rattle.std.proofs.Common.{◌≡◌, rules, length, map}
use Rattle.mdmp_words.proofs.AskingLemmas.{failed, none_refused, parsed}
use Rattle.mdmp_words.proofs.asking.invocation_of.Goals as goal
use Rattle.mdmp_words.proofs.asking.invocation_of.Goals.{in-Ok-render_help, in-Err}

pub returns-then-is_empty-clause-asks : goal.returns-then-is_empty-clause-asks
returns-then-is_empty-clause-asks c =
    let none : length c.args.words.now ≡ 0 = search rules in
    elim c.match-render_help.branch [
      | in-Ok-render_help w ↦ rw w.result-is (none_refused c.args.words.now none)
      | in-Err w ↦ rw w.result-is tt
    ]

pub returns-in-Ok-try_get_matches_from-clause-asks : goal.returns-in-Ok-try_get_matches_from-clause-asks
returns-in-Ok-try_get_matches_from-clause-asks c =
    let given = c.in-Ok-try_get_matches_from.ensures in
    parsed _ (map (λ word. word.now) c.args.words.now) c.in-Ok-try_get_matches_from.matches c.asked_by.result c.in-Ok.ensures given.kinds given.matches
    c.asked_by.ensures.asks

pub returns-in-Err-try_get_matches_from-clause-asks : goal.returns-in-Err-try_get_matches_from-clause-asks
returns-in-Err-try_get_matches_from-clause-asks c =
    failed _ (map (λ word. word.now) c.args.words.now) c.in-Err-try_get_matches_from.error c.told_of.result c.in-Ok.ensures
    c.in-Err-try_get_matches_from.ensures.kinds c.told_of.ensures
