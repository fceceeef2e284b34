use Rattle.std.proofs.Common.{◌≡◌, ◌≤◌, ◌<◌, ◌-◌, ℕ, length, true}
use Rattle.mdmp_map.specs.Painting.{Skips, is_marked}
use Rattle.mdmp_map.proofs.paint.free_from.Given as goal

abbrev pub invariant-loop-place : goal.invariant-loop-place
invariant-loop-place l = record {
  skips : Skips l.next;
  order : l.from ≤ l.place;
  within : l.place < length l.next;
  passed : (k : ℕ) → l.from ≤ k → k < l.place → is_marked l.initial.next k ≡ true;
  same : (k : ℕ) → is_marked l.next k ≡ is_marked l.initial.next k;
}

abbrev pub decreases-loop-place : goal.decreases-loop-place
decreases-loop-place l = length l.next - l.place
