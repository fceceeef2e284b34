use Rattle.std.proofs.Common.{◌≡◌, ◌≤◌, ◌<◌, ℕ}
use Rattle.std.specs.Prelude.{slice_index}
use Rattle.mdmp_map.proofs.paint.mark.Given as goal

abbrev pub invariant-loop-place : goal.invariant-loop-place
invariant-loop-place l = record {
  marked : (k : ℕ) → l.first ≤ k → k < l.place → slice_index l.next k ≡ l.end;
  below : (k : ℕ) → k < l.first → slice_index l.next k ≡ slice_index l.initial.next k;
  behind : (k : ℕ) → l.place ≤ k → slice_index l.next k ≡ slice_index l.initial.next k;
}
