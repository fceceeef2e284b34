use Rattle.std.proofs.Common.{◌≡◌, ◌≤◌, ◌-◌, length, take}
use Rattle.mdmp_source.specs.Output.{Takes}
use Rattle.mdmp_source.proofs.Sending.{SendsSome}
use Rattle.mdmp_source.proofs.output.send.Given as goal

abbrev pub invariant-loop-sent : goal.invariant-loop-sent
invariant-loop-sent g l =
    let state = g.O.Out.state in
    record {
      within : l.sent ≤ length l.bytes;
      took : Takes (state l.fn.out).taken (take l.sent l.bytes) (state l.out).taken;
      steady : (state l.out).failures ≡ (state l.fn.out).failures;
      calls : SendsSome g.O.AskedOut.may_take l.fn.out l.bytes l.sent l.out;
    }

abbrev pub decreases-loop-sent : goal.decreases-loop-sent
decreases-loop-sent g l = length l.bytes - l.sent
