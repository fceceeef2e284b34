use Rattle.std.proofs.Common.{◌∙◌, Err, refl, sym}
use Rattle.mdmp_lister.specs.declared.sink.RunFault.TheVariants as run
use Rattle.mdmp_summary.proofs.InEntries.{run_ends}
use Rattle.mdmp_summary.proofs.RowsTaken.{rows_made, rows_stopped}
use Rattle.mdmp_summary.proofs.RunTold.{run_bad, run_bad_cut, run_end_cut, run_ended, run_stopped, run_unread}
use Rattle.mdmp_summary.proofs.Told.{unobtained}
use Rattle.mdmp_summary.proofs.checking.check_run.Goals as goal

-- ---- the same sink

pub returns-in-Ok-close-clause-same_sink : goal.returns-in-Ok-close-clause-same_sink
returns-in-Ok-close-clause-same_sink g c =
    let ran = c.in-Ok.ensures.runs in
    c.close.ensures.same ∙ (rows_made g.K.CheckRowSink.step (λ m. m.sink.now) (λ m. m.entry) (λ m. m.loses_parts) (λ m. m.sink.ghost_name) ran.items c.args.maker.now c.list_into.new.sink ran.handed).same

pub returns-in-Err-clause-same_sink : goal.returns-in-Err-clause-same_sink
returns-in-Err-clause-same_sink g c =
    let ran = c.in-Ok.ensures.runs in
    c.close.ensures.same ∙ (rows_made g.K.CheckRowSink.step (λ m. m.sink.now) (λ m. m.entry) (λ m. m.loses_parts) (λ m. m.sink.ghost_name) ran.items c.args.maker.now c.list_into.new.sink ran.handed).same

pub returns-in-Err-Stopped-clause-same_sink : goal.returns-in-Err-Stopped-clause-same_sink
returns-in-Err-Stopped-clause-same_sink g c =
    let ran = rw c.in-Err-Stopped.field-0-is at c.in-Err-Stopped.ensures.runs in
    (rows_stopped g.K.CheckRowSink.step (λ m. m.sink.now) (λ m. m.entry) (λ m. m.loses_parts) (λ m. m.sink.ghost_name) ran.items c.args.maker.now c.list_into.new.sink ran.handed).same

pub returns-then-is_unobtained-clause-same_sink : goal.returns-then-is_unobtained-clause-same_sink
returns-then-is_unobtained-clause-same_sink g c =
    let ran = rw c.in-Err-At.field-0-is at c.in-Err-At.ensures.runs in
    (rows_made g.K.CheckRowSink.step (λ m. m.sink.now) (λ m. m.entry) (λ m. m.loses_parts) (λ m. m.sink.ghost_name) ran.items c.args.maker.now c.list_into.new.sink ran.handed).same

pub returns-in-Ok-close_bad-clause-same_sink : goal.returns-in-Ok-close_bad-clause-same_sink
returns-in-Ok-close_bad-clause-same_sink g c =
    let ran = rw c.in-Err-At.field-0-is at c.in-Err-At.ensures.runs in
    c.close_bad.ensures.same ∙ (rows_made g.K.CheckRowSink.step (λ m. m.sink.now) (λ m. m.entry) (λ m. m.loses_parts) (λ m. m.sink.ghost_name) ran.items c.args.maker.now c.list_into.new.sink ran.handed).same

pub returns-in-Err-close_bad-clause-same_sink : goal.returns-in-Err-close_bad-clause-same_sink
returns-in-Err-close_bad-clause-same_sink g c =
    let ran = rw c.in-Err-At.field-0-is at c.in-Err-At.ensures.runs in
    c.close_bad.ensures.same ∙ (rows_made g.K.CheckRowSink.step (λ m. m.sink.now) (λ m. m.entry) (λ m. m.loses_parts) (λ m. m.sink.ghost_name) ran.items c.args.maker.now c.list_into.new.sink ran.handed).same

-- ---- rows

pub returns-in-Ok-close-clause-rows : goal.returns-in-Ok-close-clause-rows
returns-in-Ok-close-clause-rows g c =
    run_ended g.K.CheckRowSink.step (λ m. m.sink.now) (λ m. m.entry) (λ m. m.loses_parts) (λ m. m.sink.ghost_name) c.args.lister.now c.list_into.new.self c.args.maker.now c.list_into.new.sink c.requires.going c.requires.fresh c.in-Ok.ensures.runs c.close.new.self.sink.now c.in-Ok-close.ensures.puts

pub returns-in-Err-clause-rows : goal.returns-in-Err-clause-rows
returns-in-Err-clause-rows g c =
    run_end_cut g.K.CheckRowSink.step (λ m. m.sink.now) (λ m. m.entry) (λ m. m.loses_parts) (λ m. m.sink.ghost_name) c.args.lister.now c.list_into.new.self c.args.maker.now c.list_into.new.sink c.requires.going c.requires.fresh c.in-Ok.ensures.runs c.close.new.self.sink.now c.in-Err.ensures.puts

pub returns-in-Err-Stopped-clause-rows : goal.returns-in-Err-Stopped-clause-rows
returns-in-Err-Stopped-clause-rows g c =
    run_stopped g.K.CheckRowSink.step (λ m. m.sink.now) (λ m. m.entry) (λ m. m.loses_parts) (λ m. m.sink.ghost_name) c.args.lister.now c.list_into.new.self c.args.maker.now c.list_into.new.sink c.requires.going c.requires.fresh (rw c.in-Err-Stopped.field-0-is at c.in-Err-Stopped.ensures.runs)

pub returns-then-is_unobtained-clause-rows : goal.returns-then-is_unobtained-clause-rows
returns-then-is_unobtained-clause-rows g c =
    run_unread g.K.CheckRowSink.step (λ m. m.sink.now) (λ m. m.entry) (λ m. m.loses_parts) (λ m. m.sink.ghost_name) c.args.lister.now c.list_into.new.self c.args.maker.now c.list_into.new.sink c.requires.going c.requires.fresh c.in-Err-At.fault (rw c.in-Err-At.field-0-is at c.in-Err-At.ensures.runs)

pub returns-in-Ok-close_bad-clause-rows : goal.returns-in-Ok-close_bad-clause-rows
returns-in-Ok-close_bad-clause-rows g c =
    let f = c.in-Err-At.fault in
    let keeps = c.skip_entry.ensures.keeps in
    run_bad g.K.CheckRowSink.step (λ m. m.sink.now) (λ m. m.entry) (λ m. m.loses_parts) (λ m. m.sink.ghost_name) c.args.lister.now c.list_into.new.self c.args.maker.now c.list_into.new.sink c.requires.going c.requires.fresh f (rw c.in-Err-At.field-0-is at c.in-Err-At.ensures.runs) (sym c.is_unobtained.ensures ∙ c.if-is_unobtained.false) c.close_bad.new.self.sink.now c.in-Ok-close_bad.ensures.puts
    c.skip_entry.new.self keeps.source (λ i. (keeps.counts i).names) (λ i. (keeps.counts i).fetched) ((c.in-Err-At.ensures.told c.requires.going f c.in-Err-At.field-0-is).1 ∙ sym keeps.passed)

pub returns-in-Err-close_bad-clause-rows : goal.returns-in-Err-close_bad-clause-rows
returns-in-Err-close_bad-clause-rows g c =
    run_bad_cut g.K.CheckRowSink.step (λ m. m.sink.now) (λ m. m.entry) (λ m. m.loses_parts) (λ m. m.sink.ghost_name) c.args.lister.now c.list_into.new.self c.args.maker.now c.list_into.new.sink c.requires.going c.requires.fresh c.in-Err-At.fault (rw c.in-Err-At.field-0-is at c.in-Err-At.ensures.runs) (sym c.is_unobtained.ensures ∙ c.if-is_unobtained.false) c.close_bad.new.self.sink.now c.in-Err-close_bad.ensures.puts

-- ---- the listing

pub returns-then-is_unobtained-clause-leaves : goal.returns-then-is_unobtained-clause-leaves
returns-then-is_unobtained-clause-leaves g c =
    let of = c.in-Err-At.ensures in
    let ran = rw c.in-Err-At.field-0-is at of.runs in
    record {
      same = of.same;
      ends = record {
        next = ran.next c.requires.going;
        chosen = run_ends c.args.lister.now c.list_into.new.self ran.items (Err (run.At c.in-Err-At.fault)) of.same.choice of.same.entries (ran.follows c.requires.going);
        names = (of.told c.requires.going c.in-Err-At.fault c.in-Err-At.field-0-is).1;
      };
      stands = λ is. absurd (cc);
      going = λ is. absurd (cc);
      unread = λ is. absurd (cc);
      left = λ is. absurd (cc);
    }

-- ---- the error that ends it

pub returns-then-is_unobtained-clause-told : goal.returns-then-is_unobtained-clause-told
returns-then-is_unobtained-clause-told g c =
    let f = c.in-Err-At.fault in
    let of = c.in-Err-At.ensures in
    record {
      unobtained = unobtained f.kind (sym c.is_unobtained.ensures ∙ c.if-is_unobtained.true);
      told = (of.told c.requires.going f c.in-Err-At.field-0-is).0;
      good = λ file good. rw c.in-Err-At.field-0-is at (of.good file good) f refl;
      refused = of.refused f c.in-Err-At.field-0-is;
    }
