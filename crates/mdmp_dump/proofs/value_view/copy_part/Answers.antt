use Rattle.std.proofs.Common.{◌≡◌, ◌∙◌, ◌+◌, ◌-◌, ℕ, length, take, drop, ap, arith}
use Rattle.mdmp_dump.proofs.value_view.copy_part.Goals as goal

added_less : (a n : ℕ) → a + n - a ≡ n
added_less a n = omega arith

pub returns : goal.returns
returns c = c.copy_from_slice.ensures.after ∙ ap (λ (n : ℕ). take n (drop c.args.at c.args.bytes.now)) (added_less c.args.at (length c.args.out.now))
