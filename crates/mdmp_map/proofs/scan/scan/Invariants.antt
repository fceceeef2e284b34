use Rattle.std.proofs.Common.{◌≡◌, ◌+◌, drop, length, take}
use Rattle.mdmp_map.specs.Ranges.{ranges_before}
use Rattle.mdmp_map.specs.Search.{HasSeen}
use Rattle.mdmp_map.proofs.scan.scan.Given as goal

abbrev pub invariant-loop-number : goal.invariant-loop-number
invariant-loop-number g l = record {
  seen : HasSeen (take l.number l.ranges) l.search;
  address : l.search.address ≡ l.address;
  counted : length (ranges_before l.ranges l.address) ≡ l.number + length (ranges_before (drop l.number l.ranges) l.address);
  steps : l.steps ≡ l.initial.steps + l.number;
}
