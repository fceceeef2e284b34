use Rattle.std.proofs.Common.{◌++◌, ◌∷◌, ◌-◌, [], arith, refl}
use Rattle.mdmp_lister.specs.declared.verdict.Verdict.{Verdict}
use Rattle.mdmp_lister.specs.HeldStep.{step_told}
use Rattle.mdmp_lister.proofs.Handing.{Taken-more, TakenToStop-end}
use Rattle.mdmp_lister.proofs.Verdicts.{begun_mapped, current_judged, ended_judged, failed_judged, more_judged, none_judged, stopped_judged}
use Rattle.mdmp_lister.proofs.checking.check_entries.Goals as goal

pub loop-entry-init : goal.loop-entry-init
loop-entry-init g c = record { verdicts = []; items = []; taken = refl; so_far = none_judged c.args.walk.now c.args.map.now c.requires.mapped c.requires.between }

pub judge_entry-requires-clause-mapped : goal.judge_entry-requires-clause-mapped
judge_entry-requires-clause-mapped g c =
    let l = c.loop-entry in
    begun_mapped l.walk c.next_stream.new.self l.map (step_told c.next_stream.new.self.window.held c.in-Some.field-0) l.invariant.so_far.mapped c.in-Some.ensures.taken

pub returns : goal.returns
returns g c =
    let l = c.loop-entry in
    let of = c.in_default.ensures in
    ended_judged l.invariant.verdicts l.invariant.items c.args.walk.now l.walk c.args.map.now l.map l.invariant.so_far g.K.VerdictSink.step c.args.sink.now l.sink
    c.next_stream.new.self of.taken of.begins l.invariant.taken

pub returns-in-Err : goal.returns-in-Err
returns-in-Err g c =
    let l = c.loop-entry in
    let of = c.in-Some.ensures in
    failed_judged l.invariant.verdicts l.invariant.items c.args.walk.now l.walk c.next_stream.new.self c.judge_entry.new.walk c.args.map.now l.map c.judge_entry.new.map l.invariant.so_far
    (step_told c.next_stream.new.self.window.held c.in-Some.field-0) of.taken of.begins g.K.VerdictSink.step c.args.sink.now l.sink c.in-Err.fault c.in-Err.ensures l.invariant.taken

pub loop-entry-preserved : goal.loop-entry-preserved
loop-entry-preserved g c =
    let l = c.loop-entry in
    let of = c.in-Some.ensures in
    let ns = c.next_stream.new.self in
    let v : Verdict = record { entry = ns.next - 1; fault = c.in-Ok.fault } in
    record {
      verdicts = l.invariant.verdicts ++ v ∷ [];
      items = _;
      taken = Taken-more g.K.VerdictSink.step v l.invariant.verdicts c.args.sink.now l.sink c.take.new.self l.invariant.taken c.in-Ok-take.ensures;
      so_far = more_judged l.invariant.verdicts l.invariant.items c.args.walk.now l.walk ns c.judge_entry.new.walk c.args.map.now l.map c.judge_entry.new.map l.invariant.so_far
          (step_told c.next_stream.new.self.window.held c.in-Some.field-0) of.taken of.begins c.in-Ok.fault c.in-Ok.ensures c.skip_entry.new.self c.skip_entry.ensures;
    }

pub returns-in-Err-take : goal.returns-in-Err-take
returns-in-Err-take g c =
    let l = c.loop-entry in
    let of = c.in-Some.ensures in
    let ns = c.next_stream.new.self in
    let sk = c.skip_entry.new.self in
    let v : Verdict = record { entry = ns.next - 1; fault = c.in-Ok.fault } in
    stopped_judged (l.invariant.verdicts ++ v ∷ []) _ c.args.walk.now sk c.args.map.now c.judge_entry.new.map
    (more_judged l.invariant.verdicts l.invariant.items c.args.walk.now l.walk ns c.judge_entry.new.walk c.args.map.now l.map c.judge_entry.new.map l.invariant.so_far
    (step_told c.next_stream.new.self.window.held c.in-Some.field-0) of.taken of.begins c.in-Ok.fault c.in-Ok.ensures sk c.skip_entry.ensures)
    g.K.VerdictSink.step c.args.sink.now c.take.new.self
    (TakenToStop-end g.K.VerdictSink.step v l.invariant.verdicts c.args.sink.now l.sink c.take.new.self l.invariant.taken c.in-Err-take.ensures)
    (current_judged l.invariant.verdicts l.invariant.items c.args.walk.now l.walk ns c.judge_entry.new.walk c.args.map.now l.map c.judge_entry.new.map l.invariant.so_far
    (step_told c.next_stream.new.self.window.held c.in-Some.field-0) of.taken of.begins c.in-Ok.fault c.in-Ok.ensures sk c.skip_entry.ensures)

pub loop-entry-smaller : goal.loop-entry-smaller
loop-entry-smaller g c = omega (arith, c.in-Some.ensures.taken.answered.given.falls, c.in-Ok.ensures.rests, c.skip_entry.ensures.rests)
