-- Pieces one behind the other.
use Rattle.std.proofs.Common.{◌≡◌, ◌∙◌, ℕ, ◌+◌, ◌≤◌, List, ◌++◌, ap, take, append_assoc, arith}
use Rattle.mdmp_print.specs.Buffer.{IsPutBehind}

-- a piece behind a piece
pub IsPutBehind-then : {a b c p q : List ℕ} {i j k m n : ℕ} → IsPutBehind a i p m b j → IsPutBehind b j q n c k → IsPutBehind a i (p ++ q) (m + n) c k
IsPutBehind-then {a = a} {p = p} {q = q} {i = i} f g = record {
  text = g.text ∙ ap (λ (x : List ℕ). x ++ q) f.text ∙ append_assoc (take i a) p q;
  within = omega arith;
  same = g.same ∙ f.same;
}

-- the same piece in other words, and more room for it
pub IsPutBehind-as : {a b p q : List ℕ} {i j m n : ℕ} → p ≡ q → m ≤ n → IsPutBehind a i p m b j → IsPutBehind a i q n b j
IsPutBehind-as {a = a} {i = i} e le f = record {
  text = f.text ∙ ap (λ (x : List ℕ). take i a ++ x) e;
  within = omega arith;
  same = f.same;
}
