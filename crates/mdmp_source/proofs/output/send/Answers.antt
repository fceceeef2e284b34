use Rattle.std.proofs.Common.{arith, refl, Ok, Err}
use Rattle.std.proofs.lemmas.Grind.{common_steps}
use Rattle.mdmp_source.proofs.Sending.{sends_more, sends_part, sends_all}
use Rattle.mdmp_source.proofs.Writing.{Takes-rest, Takes-no_more}
use Rattle.mdmp_source.proofs.output.send.Goals as goal

pub loop-sent-preserved : goal.loop-sent-preserved
loop-sent-preserved g c =
    let so_far = c.loop-sent.invariant in
    record {
      within = grind (arith, common_steps, c.in-Ok.ensures.bound, so_far.within);
      took = Takes-rest _ (g.O.Out.state c.loop-sent.out).taken _ c.loop-sent.sent c.in-Ok.count c.args.bytes.now so_far.within so_far.took c.in-Ok.ensures.took;
      steady = grind (arith, common_steps, c.in-Ok.ensures.failures, so_far.steady);
      calls = sends_more g.O.AskedOut.may_take _ _ _ c.args.bytes.now c.loop-sent.sent c.in-Ok.count so_far.calls (omega (arith, c.in-Ok.count-test.1)) c.in-Ok.ensures.answer;
    }

pub returns-in-Ok-eq0-clause-took : goal.returns-in-Ok-eq0-clause-took
returns-in-Ok-eq0-clause-took g c =
    Takes-no_more _ (g.O.Out.state c.loop-sent.out).taken _ _ c.loop-sent.invariant.took (rw c.in-Ok-eq0.field-0-test at c.in-Ok-eq0.ensures.took)

pub returns-in-Ok-eq0-clause-calls : goal.returns-in-Ok-eq0-clause-calls
returns-in-Ok-eq0-clause-calls g c =
    sends_part g.O.AskedOut.may_take _ _ _ c.args.bytes.now c.loop-sent.sent (Ok 0) c.loop-sent-test.true c.loop-sent.invariant.calls refl
    (rw c.in-Ok-eq0.field-0-test at c.in-Ok-eq0.ensures.answer)

pub returns-in-Err-clause-calls : goal.returns-in-Err-clause-calls
returns-in-Err-clause-calls g c =
    sends_part g.O.AskedOut.may_take _ _ _ c.args.bytes.now c.loop-sent.sent (Err c.in-Err.field-0) c.loop-sent-test.true c.loop-sent.invariant.calls tt c.in-Err.ensures.answer

pub returns-clause-calls : goal.returns-clause-calls
returns-clause-calls g c =
    sends_all g.O.AskedOut.may_take _ _ c.args.bytes.now c.loop-sent.sent c.loop-sent-test.false c.loop-sent.invariant.calls
