use Rattle.std.proofs.Common.{◌∙◌, [], List, ap, arith, length, subst, sym}
use Rattle.std.specs.Prelude.{flat_map, sum_by}
use Rattle.mdmp_lister.specs.Counts.{AreHeld, numbers_of}
use Rattle.mdmp_lister.specs.declared.choice.Choice.{Choice}
use Rattle.mdmp_c.specs.Giving.{put_front, told_count}
use Rattle.mdmp_c.specs.declared.given_rows.Judged.{Judged}
use Rattle.mdmp_c.specs.GivenRows.{gives_all, gives_some}
use Rattle.mdmp_c.specs.Limits.{names_checked}
use Rattle.mdmp_summary.specs.Checking.{IsRunFault}
use Rattle.mdmp_c.proofs.Ending.{names_within}
use Rattle.mdmp_c.proofs.Gathered.{put_front-nothing}
use Rattle.mdmp_c.proofs.Judging.{bad-all, name-taken, never_stopped, rows-taken}
use Rattle.mdmp_c.proofs.Coming.{lists_on}
use Rattle.mdmp_c.proofs.Stopping.{is_budget, listing_over}
use Rattle.mdmp_c.proofs.given_rows.judge_into.Goals as goal

pub returns-in-Ok-clause-same_output : goal.returns-in-Ok-clause-same_output
returns-in-Ok-clause-same_output g c =
    let hands = c.in-Ok.ensures.hands in
    name-taken g.R.GivenRows.given g.R.GivenRows.is_bad (λ rows. rows.out.now) (λ rows. rows.count) (λ rows. rows.bad) (λ rows. rows.out.ghost_name) hands.rows _ _ hands.handed

pub returns-in-Ok-clause-gives : goal.returns-in-Ok-clause-gives
returns-in-Ok-clause-gives g c = λ file good.
    let hands = c.in-Ok.ensures.hands in
    let given = g.R.GivenRows.given in
    let is_bad = g.R.GivenRows.is_bad in
    let old = c.args.sink.now in
    let all = hands.of_file file good.known in
    let rows = rows-taken given is_bad (λ rows. rows.out.now) (λ rows. rows.count) (λ rows. rows.bad) (λ rows. rows.out.ghost_name) hands.rows _ _ hands.handed [] old.out.now (sym (put_front-nothing old.out.now)) c.requires.none.0 in
    let bad = bad-all given is_bad (λ rows. rows.out.now) (λ rows. rows.count) (λ rows. rows.bad) (λ rows. rows.out.ghost_name) hands.rows _ _ hands.handed c.requires.none.1 in
    let judged = c.ended.ensures in
    let counts = c.counts-counts.ensures in
    let new = c.check_into.new.lister in
    let held : AreHeld new (numbers_of new) = subst (AreHeld new) counts.value counts.held in
    gives_all (ap (λ (j : Judged). j.fault) judged) (names_within file c.args.lister.now new c.in-Ok.ensures.same.budget held.kept.kept (hands.named file good.known)) record {
      count_is = ap (λ (j : Judged). j.count) judged ∙ rows.1 ∙ ap (λ (xs : List g.row.R-Row.Denot). told_count (length (flat_map given xs))) (sym all);
      bad_is = ap (λ (j : Judged). j.bad) judged ∙ bad ∙ ap (λ (xs : List g.row.R-Row.Denot). told_count (sum_by is_bad xs)) (sym all);
      out = rows.0 ∙ ap (λ (xs : List g.row.R-Row.Denot). put_front (flat_map given xs) old.out.now) (sym all);
    }

pub returns-in-Ok-clause-few : goal.returns-in-Ok-clause-few
returns-in-Ok-clause-few g c = c.in-Ok.ensures.hands.few

pub returns-in-Err-At-clause-same_output : goal.returns-in-Err-At-clause-same_output
returns-in-Err-At-clause-same_output g c =
    let hands = c.in-Err-At.ensures.hands in
    name-taken g.R.GivenRows.given g.R.GivenRows.is_bad (λ rows. rows.out.now) (λ rows. rows.count) (λ rows. rows.bad) (λ rows. rows.out.ghost_name) hands.rows _ _ (rw c.in-Err-At.field-0-is at hands.handed)

pub returns-in-Err-At-clause-gives : goal.returns-in-Err-At-clause-gives
returns-in-Err-At-clause-gives g c = λ file good.
    let hands = c.in-Err-At.ensures.hands in
    let given = g.R.GivenRows.given in
    let is_bad = g.R.GivenRows.is_bad in
    let old = c.args.sink.now in
    let fault = c.in-Err-At.fault in
    let first = hands.of_file file good.known in
    let handed = rw c.in-Err-At.field-0-is at hands.handed in
    let rows = rows-taken given is_bad (λ rows. rows.out.now) (λ rows. rows.count) (λ rows. rows.bad) (λ rows. rows.out.ghost_name) hands.rows _ _ handed [] old.out.now (sym (put_front-nothing old.out.now)) c.requires.none.0 in
    let bad = bad-all given is_bad (λ rows. rows.out.now) (λ rows. rows.count) (λ rows. rows.bad) (λ rows. rows.out.ghost_name) hands.rows _ _ handed c.requires.none.1 in
    let judged = c.ended-in-Err-At.ensures in
    let lister = c.args.lister.now in
    let new = c.check_into.new.lister in
    let told : IsRunFault lister fault new = rw c.in-Err-At.field-0-is at c.in-Err-At.ensures.told in
    let kind = is_budget fault.kind (told.good file good) told.unobtained in
    let counts = c.counts-counts-in-Err-At.ensures in
    let same = hands.fetches.fetches in
    let names = ap (λ (choice : Choice). names_checked file choice lister.limit) c.requires.opened.choice_is in
    let reached = c.in-Err-At.ensures.names file good.known in
    let ends = rw c.in-Err-At.field-0-is at c.in-Err-At.ensures.ends in
    let can = listing_over lister new file (names_checked file lister.choice lister.limit) c.counts-counts-in-Err-At.result fault (lists_on lister new c.in-Err-At.ensures.same same.same_content same.same_size) counts.value
    (counts.of_file file (same.same_content ∙ good.known)) counts.held counts.spent (omega (arith, reached, names)) told.refused ends.next ends.chosen kind in
    gives_some hands.rows
    record { rest = first.0; first = first.1; told = fault; told_is = ap (λ (j : Judged). j.fault) judged; kind = kind; reached = can }
    record { count_is = ap (λ (j : Judged). j.count) judged ∙ rows.1; bad_is = ap (λ (j : Judged). j.bad) judged ∙ bad; out = rows.0 }

pub returns-in-Err-At-clause-few : goal.returns-in-Err-At-clause-few
returns-in-Err-At-clause-few g c = c.in-Err-At.ensures.hands.few

pub returns-in-Err-Stopped-clause-same_output : goal.returns-in-Err-Stopped-clause-same_output
returns-in-Err-Stopped-clause-same_output g c =
    let hands = c.in-Err-Stopped.ensures.hands in
    absurd (never_stopped g.R.GivenRows.given g.R.GivenRows.is_bad (λ rows. rows.out.now) (λ rows. rows.count) (λ rows. rows.bad) (λ rows. rows.out.ghost_name) hands.rows _ _ (rw c.in-Err-Stopped.field-0-is at hands.handed))

pub returns-in-Err-Stopped-clause-gives : goal.returns-in-Err-Stopped-clause-gives
returns-in-Err-Stopped-clause-gives g c = λ file good.
    let hands = c.in-Err-Stopped.ensures.hands in
    absurd (never_stopped g.R.GivenRows.given g.R.GivenRows.is_bad (λ rows. rows.out.now) (λ rows. rows.count) (λ rows. rows.bad) (λ rows. rows.out.ghost_name) hands.rows _ _ (rw c.in-Err-Stopped.field-0-is at hands.handed))

pub returns-in-Err-Stopped-clause-few : goal.returns-in-Err-Stopped-clause-few
returns-in-Err-Stopped-clause-few g c = c.in-Err-Stopped.ensures.hands.few
