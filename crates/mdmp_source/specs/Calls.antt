-- The calls of an output, one behind the other. `may_take` says which answer a call may have: of the output before the call,
-- of the bytes that it is handed, of its answer, and of the output behind the call.
use Rattle.std.specs.Prelude.{◌≡◌, ◌<◌, ℕ, List, [], ◌∷◌, Result, Ok, IfOk, MatchResult, drop, length, sum}
use Rattle.mdmp_source.specs.declared.output.OutFailed.{OutFailed}

module _ {O : Type 0} (may_take : O → List ℕ → Result ℕ OutFailed → O → Type 0) where
  -- a text was handed to an output by calls that took so many bytes each, the last one first: each call was handed all that
  -- those before it had left
  abbrev pub Hands : List ℕ → O → List ℕ → O → Type 0
  Hands [] before text after = after ≡ before
  Hands (k ∷ earlier) before text after = (between : O) × Hands earlier before text between × (0 < k)
      × may_take between (drop (sum earlier) text) (Ok k) after

  -- a call took none of a text
  abbrev pub TakesNone : O → List ℕ → O → Type 0
  TakesNone before text after = (answer : Result ℕ OutFailed) × IfOk answer (λ k. k ≡ 0) × may_take before text answer after

  -- so many bytes of a text went out, by calls that were each handed all that was left of it: all of the text, or as much as
  -- went before a call that took none, behind which there was no other
  pub record Sends (before : O) (text : List ℕ) (sent : ℕ) (after : O) : Type 0 where
    pub counts : List ℕ
    pub total : sum counts ≡ sent
    pub last : O
    pub handed : Hands counts before text last
    pub whole : sent ≡ length text → after ≡ last
    pub refused : sent < length text → TakesNone last (drop sent text) after

  -- a call that sends a text: all of it, or an error because a part was left
  abbrev pub SendsAll : {T E : Type 0} → Result T E → O → List ℕ → O → Type 0
  SendsAll result before text after = MatchResult result (λ _. Sends before text (length text) after)
      (λ _. (sent : ℕ) × (sent < length text) × Sends before text sent after)
