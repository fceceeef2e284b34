-- How often five ranges are looked at.
use Rattle.std.proofs.Common.{◌≤◌, ℕ, ◌+◌, ◌*◌, ◌^◌, arith, inl, inr}
use Rattle.std.proofs.Math.Pow.{pow_mono}
use Rattle.std.proofs.lemmas.Bool.{cases_lt}

-- 2^5 is past one more than twice five
pub at_most_four : (k : ℕ) → 2 ^ k ≤ 2 * 5 + 1 → k ≤ 4
at_most_four k few = elim (cases_lt k 5) [
  | inl below ↦ omega (arith, below)
  | inr past ↦ let more : 2 ^ 5 ≤ 2 ^ k = pow_mono past in omega (arith, few, more)
]
