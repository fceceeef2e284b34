use Rattle.std.proofs.Common.{◌≡◌, ◌∙◌, ◌+◌, ℕ, List, ap, sym, subst, arith, None, refl}
use Rattle.std.specs.Prelude.{Result, flat_map, sum_by}
use Rattle.mdmp_wire.specs.declared.header.Header.{Header}
use Rattle.mdmp_lister.specs.Format.Listing.{entry_count}
use Rattle.mdmp_source.specs.Output.{PutsAll}
use Rattle.mdmp_engines.specs.declared.fault.ToolFault.{ToolFault}
use Rattle.mdmp_summary.specs.Checking.{IsRunFault}
use Rattle.mdmp_engines.specs.CheckRuns.{EndsCounted}
use Rattle.mdmp_engines.specs.Engines.{Leaves, WritesText, past_faults}
use Rattle.mdmp_engines.proofs.Checking.{PutsPrefix-first, StopsShort-first, count-taken, lines-stopped, lines-taken, name-stopped, name-taken, told-cause, told-source}
use Rattle.mdmp_engines.proofs.SameRuns.{budget_listing, run_list, run_none, aside_listing}
use Rattle.mdmp_engines.proofs.check_engine.check_listed.Goals as goal

pub returns-in-Ok-clause-same_output : goal.returns-in-Ok-clause-same_output
returns-in-Ok-clause-same_output g c =
    let hands = c.in-Ok.ensures.hands in
    name-taken g.R.CheckedRows.line g.R.CheckedRows.count (λ lines. g.O.Printer.state lines.out.now) (λ lines. lines.bad) (λ lines. lines.out.ghost_name) (λ lines. lines.form) hands.rows _ _ hands.handed

pub returns-in-Err-At-clause-same_output : goal.returns-in-Err-At-clause-same_output
returns-in-Err-At-clause-same_output g c =
    let hands = c.in-Err-At.ensures.hands in
    name-taken g.R.CheckedRows.line g.R.CheckedRows.count (λ lines. g.O.Printer.state lines.out.now) (λ lines. lines.bad) (λ lines. lines.out.ghost_name) (λ lines. lines.form) hands.rows _ _ (rw c.in-Err-At.field-0-is at hands.handed)

pub returns-in-Err-Stopped-clause-same_output : goal.returns-in-Err-Stopped-clause-same_output
returns-in-Err-Stopped-clause-same_output g c =
    let hands = c.in-Err-Stopped.ensures.hands in
    name-stopped g.R.CheckedRows.line g.R.CheckedRows.count (λ lines. g.O.Printer.state lines.out.now) (λ lines. lines.bad) (λ lines. lines.out.ghost_name) (λ lines. lines.form) hands.rows _ _ (rw c.in-Err-Stopped.field-0-is at hands.handed)

pub returns-in-Ok-clause-ends : goal.returns-in-Ok-clause-ends
returns-in-Ok-clause-ends g c = λ file known.
    let hands = c.in-Ok.ensures.hands in
    let count = g.R.CheckedRows.count in
    let rows = g.R.CheckedRows.rows_of file c.args.lister.now.limit in
    let all : rows ≡ hands.rows = hands.of_file file known in
    let few = hands.few file in
    let entries : c.header-entries.result.number_of_streams ≡ entry_count file = ap (λ (h : Header). h.number_of_streams) (c.header-entries.ensures ∙ c.requires.opened.header_is file known) in
    let same : sum_by count rows ≡ sum_by count hands.rows = ap (sum_by count) all in
    let counts = count-taken g.R.CheckedRows.line count (λ lines. g.O.Printer.state lines.out.now) (λ lines. lines.bad) (λ lines. lines.out.ghost_name) (λ lines. lines.form) hands.rows _ _ hands.handed in
    let none = c.requires.none in
    let now : c.check_into.new.lines.bad ≡ c.args.lines.now.bad + sum_by count hands.rows = counts (omega (arith, few, entries, same, none)) in
    omega (arith, now, none, same)

pub returns-in-Ok-clause-writes : goal.returns-in-Ok-clause-writes
returns-in-Ok-clause-writes g c = λ file known.
    let hands = c.in-Ok.ensures.hands in
    let line = g.R.CheckedRows.line in
    let all = hands.of_file file known in
    subst (λ (rows : List g.row.R-Row.Denot). PutsAll (g.O.Printer.state c.args.lines.now.out.now) (flat_map (line c.args.lines.now.form) rows) (g.O.Printer.state c.check_into.new.lines.out.now)) (sym all)
    (lines-taken line g.R.CheckedRows.count (λ lines. g.O.Printer.state lines.out.now) (λ lines. lines.bad) (λ lines. lines.out.ghost_name) (λ lines. lines.form) hands.rows _ _ hands.handed)

pub returns-in-Ok-clause-leaves : goal.returns-in-Ok-clause-leaves
returns-in-Ok-clause-leaves g c =
    let hands = c.in-Ok.ensures.hands in
    let put = lines-taken g.R.CheckedRows.line g.R.CheckedRows.count (λ lines. g.O.Printer.state lines.out.now) (λ lines. lines.bad) (λ lines. lines.out.ghost_name) (λ lines. lines.form) hands.rows _ _ hands.handed in
    record { good = λ file good. tt; behind = tt; reads = record { cause = tt; fetches = hands.fetches }; out_cause = put.steady }

pub returns-in-Err-At-clause-ends : goal.returns-in-Err-At-clause-ends
returns-in-Err-At-clause-ends g c = λ file known.
    let told : IsRunFault c.args.lister.now c.in-Err-At.fault c.check_into.new.lister = rw c.in-Err-At.field-0-is at c.in-Err-At.ensures.told in
    rw c.told_list.ensures (told-source (EndsCounted (sum_by g.R.CheckedRows.count (g.R.CheckedRows.rows_of file c.args.lister.now.limit))) c.in-Err-At.fault c.in-Err-At.fault.kind told.unobtained (λ s is. tt) tt)

pub returns-in-Err-At-clause-writes : goal.returns-in-Err-At-clause-writes
returns-in-Err-At-clause-writes g c = λ file known.
    let hands = c.in-Err-At.ensures.hands in
    let line = g.R.CheckedRows.line in
    let lines = line c.args.lines.now.form in
    let all = g.R.CheckedRows.rows_of file c.args.lister.now.limit in
    let before = g.O.Printer.state c.args.lines.now.out.now in
    let after = g.O.Printer.state c.check_into.new.lines.out.now in
    let first = hands.of_file file known in
    let put = lines-taken line g.R.CheckedRows.count (λ lines. g.O.Printer.state lines.out.now) (λ lines. lines.bad) (λ lines. lines.out.ghost_name) (λ lines. lines.form) hands.rows _ _ (rw c.in-Err-At.field-0-is at hands.handed) in
    let told : IsRunFault c.args.lister.now c.in-Err-At.fault c.check_into.new.lister = rw c.in-Err-At.field-0-is at c.in-Err-At.ensures.told in
    rw c.told_list.ensures (told-source (λ (r : Result ℕ ToolFault). WritesText past_faults (flat_map lines all) before r after) c.in-Err-At.fault c.in-Err-At.fault.kind told.unobtained
    (λ s is. StopsShort-first lines all hands.rows first.0 before after first.1 put)
    (StopsShort-first lines all hands.rows first.0 before after first.1 put))

pub returns-in-Err-At-clause-leaves : goal.returns-in-Err-At-clause-leaves
returns-in-Err-At-clause-leaves g c =
    let hands = c.in-Err-At.ensures.hands in
    let put = lines-taken g.R.CheckedRows.line g.R.CheckedRows.count (λ lines. g.O.Printer.state lines.out.now) (λ lines. lines.bad) (λ lines. lines.out.ghost_name) (λ lines. lines.form) hands.rows _ _ (rw c.in-Err-At.field-0-is at hands.handed) in
    let fault = c.in-Err-At.fault in
    let told : IsRunFault c.args.lister.now fault c.check_into.new.lister = rw c.in-Err-At.field-0-is at c.in-Err-At.ensures.told in
    let old = c.args.lister.now.source in
    let new = c.check_into.new.lister.source in
    let before = g.O.Printer.state c.args.lines.now.out.now in
    let after = g.O.Printer.state c.check_into.new.lines.out.now in
    rw c.told_list.ensures (told-source (λ (r : Result ℕ ToolFault). Leaves past_faults (after ≡ before) old before r new after) fault fault.kind told.unobtained (λ s is. record {
      good = λ file good. absurd (told.good file good (rw is tt));
      behind = tt;
      reads = record { cause = told-cause c.check_into.new.lister.current fault s old new is told.told; fetches = hands.fetches };
      out_cause = put.steady;
    }) (record { good = λ file good. tt; behind = tt; reads = record { cause = tt; fetches = hands.fetches }; out_cause = put.steady }))

pub returns-in-Err-Stopped-clause-writes : goal.returns-in-Err-Stopped-clause-writes
returns-in-Err-Stopped-clause-writes g c = λ file known.
    let hands = c.in-Err-Stopped.ensures.hands in
    let line = g.R.CheckedRows.line in
    let first = hands.of_file file known in
    PutsPrefix-first (line c.args.lines.now.form) (g.R.CheckedRows.rows_of file c.args.lister.now.limit) hands.rows first.0 _ _ first.1
    (lines-stopped line g.R.CheckedRows.count (λ lines. g.O.Printer.state lines.out.now) (λ lines. lines.bad) (λ lines. lines.out.ghost_name) (λ lines. lines.form) hands.rows _ _ (rw c.in-Err-Stopped.field-0-is at hands.handed))

pub returns-in-Err-Stopped-clause-leaves : goal.returns-in-Err-Stopped-clause-leaves
returns-in-Err-Stopped-clause-leaves g c =
    let hands = c.in-Err-Stopped.ensures.hands in
    let cut = lines-stopped g.R.CheckedRows.line g.R.CheckedRows.count (λ lines. g.O.Printer.state lines.out.now) (λ lines. lines.bad) (λ lines. lines.out.ghost_name) (λ lines. lines.form) hands.rows _ _ (rw c.in-Err-Stopped.field-0-is at hands.handed) in
    record { good = λ file good. tt; behind = tt; reads = record { cause = tt; fetches = hands.fetches }; out_cause = cut.refused }

pub returns-in-Ok-clause-same : goal.returns-in-Ok-clause-same
returns-in-Ok-clause-same g c = run_list _ _ _ (run_none _) c.in-Ok.ensures.same

pub returns-in-Err-At-clause-same : goal.returns-in-Err-At-clause-same
returns-in-Err-At-clause-same g c = run_list _ _ _ (run_none _) c.in-Err-At.ensures.same

pub returns-in-Err-Stopped-clause-same : goal.returns-in-Err-Stopped-clause-same
returns-in-Err-Stopped-clause-same g c = run_list _ _ _ (run_none _) c.in-Err-Stopped.ensures.same

pub returns-in-Ok-clause-read : goal.returns-in-Ok-clause-read
returns-in-Ok-clause-read g c = record { keeps = c.in-Ok.ensures.read; requests = c.in-Ok.ensures.hands.named }

pub returns-in-Err-At-clause-read : goal.returns-in-Err-At-clause-read
returns-in-Err-At-clause-read g c = record { keeps = c.in-Err-At.ensures.read; requests = tt }

pub returns-in-Err-Stopped-clause-read : goal.returns-in-Err-Stopped-clause-read
returns-in-Err-Stopped-clause-read g c = record { keeps = c.in-Err-Stopped.ensures.read; requests = tt }

pub returns-in-Err-At-clause-over : goal.returns-in-Err-At-clause-over
returns-in-Err-At-clause-over g c =
    let f = c.in-Err-At.fault in
    let told : IsRunFault c.args.lister.now f c.check_into.new.lister = rw c.in-Err-At.field-0-is at c.in-Err-At.ensures.told in
    let ends = rw c.in-Err-At.field-0-is at c.in-Err-At.ensures.ends in
    rw c.told_list.ensures (budget_listing ℕ f c.args.lister.now c.check_into.new.lister told.refused ends.next ends.chosen)

pub returns-in-Err-At-clause-aside : goal.returns-in-Err-At-clause-aside
returns-in-Err-At-clause-aside g c = rw c.told_list.ensures (aside_listing ℕ None c.in-Err-At.fault c.check_into.new.lister refl)
