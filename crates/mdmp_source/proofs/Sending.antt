-- A text that goes out by calls which are each handed all that is left of it.
use Rattle.std.proofs.Common.{◌≡◌, ◌≤◌, ◌<◌, ◌+◌, ◌-◌, ◌∙◌, ℕ, List, [], ◌∷◌, Result, Ok, take, drop, length, sym, subst, refl, arith}
use Rattle.std.proofs.lemmas.List.{take_rest}
use Rattle.std.proofs.lemmas.List.Sums.{sum_by-cons}
use Rattle.std.specs.Prelude.{IfOk, sum}
use Rattle.mdmp_source.specs.declared.output.OutFailed.{OutFailed}
use Rattle.mdmp_source.specs.Calls.{Hands, Sends}

module _ {O : Type 0} (may_take : O → List ℕ → Result ℕ OutFailed → O → Type 0) where
  -- so many bytes of a text went out, by calls that were each handed all that was left
  pub record SendsSome (before : O) (text : List ℕ) (sent : ℕ) (after : O) : Type 0 where
    pub counts : List ℕ
    pub total : sum counts ≡ sent
    pub handed : Hands may_take counts before text after

  -- none so far
  pub sends_none : (out : O) (text : List ℕ) → SendsSome out text 0 out
  sends_none out text = record { counts = []; total = refl; handed = refl }

  -- one more call, which was handed all behind the first n bytes
  pub sends_more : (a b c : O) (text : List ℕ) (n k : ℕ) → SendsSome a text n b → 0 < k
      → may_take b (take (length text - n) (drop n text)) (Ok k) c → SendsSome a text (n + k) c
  sends_more a b c text n k so_far some took = record {
    counts = k ∷ so_far.counts;
    total = sum_by-cons (λ x. x) k so_far.counts ∙ omega (arith, so_far.total);
    handed = (b, so_far.handed, some, subst (λ m. may_take b (drop m text) (Ok k) c) (sym so_far.total) (rw take_rest at took));
  }

  -- no more calls, since all went out
  pub sends_all : (a b : O) (text : List ℕ) (n : ℕ) → length text ≤ n → SendsSome a text n b → Sends may_take a text n b
  sends_all a b text n all so_far = record {
    counts = so_far.counts;
    total = so_far.total;
    last = b;
    handed = so_far.handed;
    whole = λ _. refl;
    refused = λ less. absurd (omega (arith, all, less));
  }

  -- or since a call took none
  pub sends_part : (a b c : O) (text : List ℕ) (n : ℕ) (answer : Result ℕ OutFailed) → n < length text → SendsSome a text n b
      → IfOk answer (λ k. k ≡ 0) → may_take b (take (length text - n) (drop n text)) answer c → Sends may_take a text n c
  sends_part a b c text n answer left so_far none took = record {
    counts = so_far.counts;
    total = so_far.total;
    last = b;
    handed = so_far.handed;
    whole = λ all. absurd (omega (arith, left, all));
    refused = λ _. (answer, none, rw take_rest at took);
  }
