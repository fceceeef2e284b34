use Rattle.std.proofs.Common.{◌≡◌, ◌∙◌, ap, rules, subst, sym, List, Option, Some}
use Rattle.clap.specs.Words.{Row, found_of, rows_of, subcommand_rows_of}
use Rattle.mdmp_words.specs.Invocations.{IsFor, Plain, bad_in, request_in}
use Rattle.mdmp_words.proofs.AskingLemmas.{asks_run, used}
use Rattle.mdmp_words.proofs.asking.asked_by.Goals as goal

pub returns-in-Some-named_invocation-clause-asks : goal.returns-in-Some-named_invocation-clause-asks
returns-in-Some-named_invocation-clause-asks c =
    let rows : List Row = rows_of (found_of c.in-Some.own.now) in
    let is : subcommand_rows_of c.args.matches.now ≡ Some (c.in-Some.name.now, rows) =
    used c.args.matches.now c.in-Some.name.now rows (search rules) (search rules) in
    asks_run (subcommand_rows_of c.args.matches.now) c.in-Some-named_invocation.invocation (subst (λ (wanted : Option Plain). IsFor wanted c.in-Some-named_invocation.invocation) (sym (ap request_in is)) c.in-Some-named_invocation.ensures.named)

pub returns-in-Some-bad_word_of-clause-asks : goal.returns-in-Some-bad_word_of-clause-asks
returns-in-Some-bad_word_of-clause-asks c =
    let rows : List Row = rows_of (found_of c.in-Some.own.now) in
    let is : subcommand_rows_of c.args.matches.now ≡ Some (c.in-Some.name.now, rows) =
    used c.args.matches.now c.in-Some.name.now rows (search rules) (search rules) in
    (ap request_in is ∙ c.in_default-named_invocation.ensures.named, ap bad_in is ∙ sym c.in-Some-bad_word_of.ensures)

pub returns-in-None-clause-asks : goal.returns-in-None-clause-asks
returns-in-None-clause-asks c =
    let rows : List Row = rows_of (found_of c.in-Some.own.now) in
    let is : subcommand_rows_of c.args.matches.now ≡ Some (c.in-Some.name.now, rows) =
    used c.args.matches.now c.in-Some.name.now rows (search rules) (search rules) in
    (ap request_in is ∙ c.in_default-named_invocation.ensures.named, ap bad_in is ∙ sym c.in-None.ensures)
