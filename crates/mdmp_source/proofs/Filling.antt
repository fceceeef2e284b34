-- What a loop that fills a slice from a store keeps.
use Rattle.std.proofs.Common.{◌≡◌, ◌≤◌, ◌<◌, ◌+◌, ◌-◌, ◌*◌, ℕ, List, arith, length, min, take}
use Rattle.std.proofs.Math.Nat.{add-mul}
use Rattle.std.proofs.lemmas.Nat.{mul-le}
use Rattle.std.specs.Prelude.{IfSome}
use Rattle.mdmp_source.specs.Range.{bytes_at}
use Rattle.mdmp_source.specs.Source.{CallsFew}
use Rattle.mdmp_source.specs.Store.{StoreState}

pub record Filled (before now : StoreState) (at filled : ℕ) (out : List ℕ) : Type 0 where
  pub in_range : filled ≤ length out
  pub bytes : IfSome before.content (λ file. take filled out ≡ bytes_at file at filled)
  pub same_content : now.content ≡ before.content
  pub same_reliable : now.is_reliable ≡ before.is_reliable
  pub same_failures : now.counts.failures ≡ before.counts.failures
  pub same_empties : now.counts.empties ≡ before.counts.empties
  pub same_size : now.size ≡ before.size
  pub few_calls : now.counts.calls ≤ before.counts.calls + filled
  pub more_calls : before.counts.calls ≤ now.counts.calls
  pub same_least : now.least ≡ before.least
  -- each call so far gave as many bytes as a call gives at least, unless all are given
  pub least_calls : filled < length out → (now.counts.calls - before.counts.calls) * before.least ≤ filled
  pub before_last : CallsFew (length out) before now

-- ---- calls of which each but the last gives at least so many bytes; from b they rose to n, and then to m

-- none so far
pub least_none : (n least filled : ℕ) → (n - n) * least ≤ filled
least_none n least filled =
    let none : (n - n) * least ≤ 0 * least = mul-le (n - n) least 0 least (omega arith) (omega arith) in
    omega (arith, none)

-- one more that is not the last
pub least_more : (b n m least filled count total there : ℕ) → m ≤ n + 1 → (n - b) * least ≤ filled → total - filled ≤ there
    → min least (min (total - filled) there) ≤ count → filled + count < total → (m - b) * least ≤ filled + count
least_more b n m least filled count total there once so_far fits gave left =
    let some : least ≤ count = omega (arith, fits, gave, left) in
    let more : (m - b) * least ≤ (n - b + 1) * least = mul-le (m - b) least (n - b + 1) least (omega (arith, once)) (omega arith) in
    let split : (n - b + 1) * least ≡ (n - b) * least + 1 * least = add-mul (n - b) 1 least in
    let one : 1 * least ≡ least = omega arith in
    omega (arith, more, split, one, so_far, some)

-- one more that may be
pub least_last : (b n m least filled total : ℕ) → m ≤ n + 1 → (n - b) * least ≤ filled → filled < total → (m - b - 1) * least < total
least_last b n m least filled total once so_far left =
    let fewer : (m - b - 1) * least ≤ (n - b) * least = mul-le (m - b - 1) least (n - b) least (omega (arith, once)) (omega arith) in
    omega (arith, fewer, so_far, left)
