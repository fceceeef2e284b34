use Rattle.std.proofs.Common.{◌≡◌, ◌≤◌, ◌<◌, ◌+◌, ◌-◌, ℕ, get_or, false, true}
use Rattle.std.specs.Prelude.{slice_index}
use Rattle.mdmp_index.specs.Reading.{IsSameAt}
use Rattle.mdmp_index.proofs.reading.copy.Given as goal

abbrev pub invariant-loop-place : goal.invariant-loop-place
invariant-loop-place l = record {
  known : (k : ℕ) → l.first ≤ k → k < l.place → get_or l.known k false ≡ true;
  bytes : (k : ℕ) → l.first ≤ k → k < l.place → slice_index l.out k ≡ slice_index l.file (l.offset + (k - l.first));
  below : (k : ℕ) → k < l.first → IsSameAt l.initial.out l.out l.initial.known l.known k;
  behind : (k : ℕ) → l.place ≤ k → IsSameAt l.initial.out l.out l.initial.known l.known k;
}
