use Rattle.std.proofs.Common.{◌≡◌, ℕ, Bool, true, false, not, List, Result, Ok, Err, MatchResult, IsUtf8, is_err, ap, refl, sym, ◌∙◌}
use Rattle.std.specs.Str.{is_utf8}
use Rattle.std.proofs.lemmas.Str.{IsUtf8-from_is_utf8, is_utf8-from_IsUtf8}
use Rattle.mdmp_print.proofs.json_text.is_no_text.Goals as goal

unless_true : (b : Bool) → (b ≡ true → ⊥) → b ≡ false
unless_true true apart = absurd (apart refl)
unless_true false apart = refl

told : {T E : Type 0} (P : T → Type 0) (Q : E → Type 0) (bytes : List ℕ) (r : Result T E)
    → MatchResult r (λ s. P s × IsUtf8 bytes) (λ e. (IsUtf8 bytes → ⊥) × Q e) → is_err r ≡ not (is_utf8 bytes)
told P Q bytes (Ok s) is = sym (ap not (is_utf8-from_IsUtf8 bytes is.1))
told P Q bytes (Err e) is = sym (ap not (unless_true _ (λ text. is.0 (IsUtf8-from_is_utf8 bytes text))))

pub returns : goal.returns
returns c = c.is_err.ensures.value ∙ told _ _ c.args.bytes.now _ c.from_utf8.ensures.cases
