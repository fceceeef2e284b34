-- How often ranges are looked at.
use Rattle.std.proofs.Common.{◌≤◌, ◌<◌, ℕ, suc, ◌+◌, ◌-◌, ◌*◌, ◌^◌, List, arith, inl, inr, length}
use Rattle.std.proofs.Math.Nat.{mul-add, mul-le-mul_left, pow-succ'}
use Rattle.std.proofs.Math.Pow.{pow_mono}
use Rattle.std.proofs.lemmas.Bool.{cases_lt}
use Rattle.mdmp_map.specs.declared.range.Range.{Range}
use Rattle.mdmp_map.specs.Finding.{LooksAt}
use Rattle.mdmp_map.specs.Ranges.{AreSorted}
use Rattle.mdmp_lister.specs.Addressing.{HalvesAtMost}

-- fewer than 2^k ranges are halved at most k times
halvings : (n k steps : ℕ) → n < 2 ^ k → 2 ^ steps ≤ 2 * n + 1 → steps ≤ k
halvings n k steps few most = elim (cases_lt k steps) [
  | inl more ↦
      let grown : 2 ^ suc k ≤ 2 ^ steps = pow_mono more in
      absurd (omega (arith, few, most, grown, pow-succ' 2 k))
  | inr within ↦ within
]

-- one address is looked up
pub looks_up_one : (ranges : List Range) (address old new : ℕ) → LooksAt ranges address old new → AreSorted ranges → HalvesAtMost (length ranges) 1 old new
looks_up_one ranges address old new looks sorted = record {
  most = λ k few.
      let halved = looks.by_halves sorted in
      omega (arith, halved.more, halvings (length ranges) k (new - old) few halved.most);
}

-- some are, and then others
pub looks_up_then : (n count more old between new : ℕ) → HalvesAtMost n count old between → HalvesAtMost n more between new
    → HalvesAtMost n (count + more) old new
looks_up_then n count more old between new first then = record {
  most = λ k few. omega (arith, first.most k few, then.most k few, mul-add k count more);
}

-- what holds of some holds of more
pub looks_up_more : (n count more old new : ℕ) → count ≤ more → HalvesAtMost n count old new → HalvesAtMost n more old new
looks_up_more n count more old new within looks = record {
  most = λ k few. omega (arith, looks.most k few, mul-le-mul_left k within);
}
