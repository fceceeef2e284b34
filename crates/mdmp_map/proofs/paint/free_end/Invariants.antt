use Rattle.std.proofs.Common.{◌≡◌, ◌≤◌, ◌<◌, ◌-◌, ℕ, false}
use Rattle.mdmp_map.specs.Painting.{is_marked}
use Rattle.mdmp_map.proofs.paint.free_end.Given as goal

abbrev pub invariant-loop-end : goal.invariant-loop-end
invariant-loop-end l = record {
  some : l.first < l.end;
  within : l.end ≤ l.high;
  free : (k : ℕ) → l.first ≤ k → k < l.end → is_marked l.next k ≡ false;
}

abbrev pub decreases-loop-end : goal.decreases-loop-end
decreases-loop-end l = l.high - l.end
