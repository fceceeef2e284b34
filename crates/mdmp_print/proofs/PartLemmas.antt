-- Parts of a text in a buffer.
use Rattle.std.proofs.Common.{◌≡◌, ◌∙◌, ℕ, ◌+◌, ◌≤◌, List, [], ◌++◌, ap, sym, refl, take, append_assoc, append-nil, arith}
use Rattle.mdmp_print.specs.Buffer.{IsPutBehind}
use Rattle.mdmp_print.specs.Parts.{IsPartPut}

-- nothing of it
pub IsPartPut-none : (a : List ℕ) (len : ℕ) (text : List ℕ) (most : ℕ) → IsPartPut a len text text most a len
IsPartPut-none a len text most = record {
  part = [];
  whole = refl;
  put = record { text = sym (append-nil (take len a)); within = omega arith; same = refl };
}

-- a piece more
pub IsPartPut-more : {a b c piece : List ℕ} {i j k m n : ℕ} (text left rest : List ℕ) → IsPartPut a i text left m b j → IsPutBehind b j piece n c k
    → left ≡ piece ++ rest → k ≤ i + m → IsPartPut a i text rest m c k
IsPartPut-more {a = a} {piece = piece} {i = i} text left rest had more split within = record {
  part = had.part ++ piece;
  whole = had.whole ∙ ap (λ (x : List ℕ). had.part ++ x) split ∙ sym (append_assoc had.part piece rest);
  put = record {
    text = more.text ∙ ap (λ (x : List ℕ). x ++ piece) had.put.text ∙ append_assoc (take i a) had.part piece;
    within = within;
    same = more.same ∙ had.put.same;
  };
}
