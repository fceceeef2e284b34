use Rattle.std.proofs.Common.{◌≡◌, ◌≤◌, ◌+◌, ◌-◌, ◌^◌, map, drop}
use Rattle.mdmp_dump.specs.Shape.{all_taken, told}
use Rattle.mdmp_dump.proofs.given.all_taken.Given as goal

abbrev pub invariant-loop-record : goal.invariant-loop-record
invariant-loop-record g l = record {
  bound : l.total ≤ 2 ^ 64 - 1;
  sum : told (l.total + all_taken l.is_far (map g.T.Given.see (drop l.record-index l.records))) ≡ told (all_taken l.is_far (map g.T.Given.see l.records));
}
