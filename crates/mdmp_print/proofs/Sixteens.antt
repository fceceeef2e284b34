-- The hexadecimal digits of a number, the last one first.
use Rattle.std.proofs.Common.{◌≡◌, ◌∙◌, ◌∷◌, ◌+◌, ◌-◌, ◌/◌, ◌%◌, ◌^◌, ◌<◌, ◌≤◌, ℕ, zero, suc, Bool, cond, List, ap, arith, div-lt_iff_lt-mul, eq-eqb, ne_eqb, pow-suc, subst}
use Rattle.std.specs.Fmt.{digit_glyph, digits_onto}

-- a number with more than one has room for more
pub more-places : (first left : ℕ) → left < 16 ^ (first + 1) → 16 ≤ left → 0 < first
more-places zero left room many = absurd (omega (arith, room, many))
more-places (suc first) left room many = omega arith

-- without its last one it has room in a place less
pub less-places : (first left : ℕ) → 0 < first → left < 16 ^ (first + 1) → left / 16 < 16 ^ (first - 1 + 1)
less-places zero left some room = absurd (omega (arith, some))
less-places (suc k) left some room =
    let e : suc k + 1 ≡ suc (suc k - 1 + 1) = omega arith in
    (div-lt_iff_lt-mul {k = 16} {x = left} {y = 16 ^ (suc k - 1 + 1)} (omega arith)).1
    (subst (λ (p : ℕ). left < p) (ap (λ (n : ℕ). 16 ^ n) e ∙ pow-suc 16 (suc k - 1 + 1)) room)

-- the last digit stands before those behind it
pub onto-more : (rest : ℕ) (upper : Bool) (first left : ℕ) (behind : List ℕ) → 0 < first → 16 ≤ left
    → digits_onto (first + suc rest) 16 upper left behind ≡ digits_onto (first - 1 + suc rest) 16 upper (left / 16) (digit_glyph upper (left % 16) ∷ behind)
onto-more rest upper first left behind some many =
    let e : first + suc rest ≡ suc (first - 1 + suc rest) = omega (arith, some) in
    ap (λ (k : ℕ). digits_onto k 16 upper left behind) e
    ∙ ap (λ (b : Bool). cond b (digit_glyph upper (left % 16) ∷ behind) (digits_onto (first - 1 + suc rest) 16 upper (left / 16) (digit_glyph upper (left % 16) ∷ behind)))
    (ne_eqb (left / 16) 0 (λ none. omega (arith, none, many)))

-- and the first one before them all
pub onto-last : (rest : ℕ) (upper : Bool) (first left : ℕ) (behind : List ℕ) → left < 16
    → digits_onto (first + suc rest) 16 upper left behind ≡ digit_glyph upper left ∷ behind
onto-last rest upper first left behind few =
    let e : first + suc rest ≡ suc (first + rest) = omega arith in
    let same : left % 16 ≡ left = omega (arith, few) in
    ap (λ (k : ℕ). digits_onto k 16 upper left behind) e
    ∙ ap (λ (b : Bool). cond b (digit_glyph upper (left % 16) ∷ behind) (digits_onto (first + rest) 16 upper (left / 16) (digit_glyph upper (left % 16) ∷ behind)))
    (eq-eqb (left / 16) 0 (omega (arith, few)))
    ∙ ap (λ (d : ℕ). digit_glyph upper d ∷ behind) same
