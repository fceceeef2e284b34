use Rattle.std.proofs.Common.{◌≡◌, ◌≤◌, ◌-◌, length, take}
use Rattle.mdmp_writer.specs.Gather.{gathered, Gathers}
use Rattle.mdmp_writer.proofs.gather.Gather.write.Given as goal

abbrev pub invariant-loop-at : goal.invariant-loop-at
invariant-loop-at g l =
    let state = g.O.Out.state in
    record {
      within : l.at ≤ length l.bytes;
      puts : Gathers (gathered (state l.fn.out) l.fn.self) (take l.at l.bytes) (gathered (state l.out) l.self);
      steady : (state l.out).failures ≡ (state l.fn.out).failures;
    }

abbrev pub decreases-loop-at : goal.decreases-loop-at
decreases-loop-at g l = length l.bytes - l.at
