-- How often a number of ranges can be halved.
use Rattle.std.proofs.Common.{◌≡◌, ◌≤◌, ◌<◌, ℕ, suc, ◌+◌, ◌-◌, ◌*◌, ◌^◌, ◌∙◌, ap, arith, subst}
use Rattle.std.proofs.Math.Nat.{mul-le-mul_left, pow-succ'}
use Rattle.mdmp_map.specs.Finding.{IsHalved}

-- the power of two that one more step makes
one_more : (start steps next : ℕ) → start ≤ steps → next ≡ steps + 1 → 2 ^ (next - start) ≡ 2 * 2 ^ (steps - start)
one_more start steps next from is =
    let e : next - start ≡ suc (steps - start) = omega (arith, is, from) in
    ap (λ k. 2 ^ k) e ∙ pow-succ' 2 (steps - start)

-- p times what is left stays below all of them where what is left is halved
halved_again : (p left rest all : ℕ) → 2 * rest ≤ left → p * left ≤ all → 2 * p * rest ≤ all
halved_again p left rest all half within =
    let doubled : p * (2 * rest) ≤ p * left = mul-le-mul_left p half in
    omega (arith, doubled, within)

-- and p stays below twice as many, since something was left
still_few : (p left all : ℕ) → 0 < left → p * left ≤ all → 2 * p ≤ 2 * all + 1
still_few p left all some within =
    let one : p * 1 ≤ p * left = mul-le-mul_left p some in
    omega (arith, one, within)

-- p times two more than what is left stays above all of them
still_enough : (p left rest all : ℕ) → left + 2 ≤ 2 * (rest + 2) → all + 2 ≤ p * (left + 2) → all + 2 ≤ 2 * p * (rest + 2)
still_enough p left rest all half above =
    let doubled : p * (left + 2) ≤ p * (2 * (rest + 2)) = mul-le-mul_left p half in
    omega (arith, doubled, above)

-- so many of them all are left after these steps
pub record IsHalvedTo (all left start steps : ℕ) : Type 0 where
  pub more : start ≤ steps
  pub halved : 2 ^ (steps - start) * left ≤ all
  pub few : 2 ^ (steps - start) ≤ 2 * all + 1
  pub enough : all + 2 ≤ 2 ^ (steps - start) * (left + 2)

pub one_step : (all left rest start steps next : ℕ) → 0 < left → 2 * rest ≤ left → left + 2 ≤ 2 * (rest + 2) → next ≡ steps + 1
    → IsHalvedTo all left start steps → IsHalvedTo all rest start next
one_step all left rest start steps next some at_most at_least is before =
    let double = one_more start steps next before.more is in
    record {
      more = omega (arith, before.more, is);
      halved = rw double (halved_again (2 ^ (steps - start)) left rest all at_most before.halved);
      few = rw double (still_few (2 ^ (steps - start)) left all some before.halved);
      enough = rw double (still_enough (2 ^ (steps - start)) left rest all at_least before.enough);
    }

-- and none, in the end
pub all_halved : (all left start steps : ℕ) → left ≡ 0 → IsHalvedTo all left start steps → IsHalved all start steps
all_halved all left start steps none count =
    let enough : all + 2 ≤ 2 ^ (steps - start) * (0 + 2) = subst (λ n. all + 2 ≤ 2 ^ (steps - start) * (n + 2)) none count.enough in
    record { more = count.more; least = omega (arith, enough); most = count.few }
