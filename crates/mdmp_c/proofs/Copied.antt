-- What the call tells that gives a copy.
use Rattle.std.proofs.Common.{◌≡◌, ℕ, List, [], Option, Some, length, subst}
use Rattle.std.specs.Prelude.{Result}
use Rattle.mdmp_source.specs.Output.{OutState}
use Rattle.mdmp_engines.specs.declared.fault.ToolFault.{ToolFault}
use Rattle.mdmp_engines.specs.Causes.{IsNoSourceFault}
use Rattle.mdmp_lister.specs.declared.limits.Limits.{Limits}
use Rattle.mdmp_engines.specs.Copying.{Copies, TellsCopyBudget, TellsCopyMemory}
use Rattle.mdmp_c.specs.declared.fault.PlainFault.{PlainFault}
use Rattle.mdmp_c.specs.declared.limits.PlainLimits.{PlainLimits}
use Rattle.mdmp_c.specs.Limits.{AreGiven}
use Rattle.mdmp_c.specs.Copies.{IsCopyTold}
use Rattle.mdmp_c.specs.ToolFault.{copy_answer}

pub IsCopyTold-of : (Z : Type 0) (F : List ℕ) (size : ℕ) (types given : List ℕ) (plain : PlainLimits) (limits : Limits) (content : Option (List ℕ)) (before after : OutState) (bytes : List ℕ)
    (answer : Result ℕ ToolFault) (told : PlainFault) → content ≡ Some F → size ≡ length F → given ≡ types → AreGiven plain limits → before.taken ≡ Some [] → after.taken ≡ Some bytes
    → IsNoSourceFault answer → told ≡ copy_answer answer → Copies Z content size given limits.name before answer after
    → TellsCopyBudget Z given limits.budget limits.window content answer → TellsCopyMemory limits content answer → IsCopyTold Z F types plain told bytes
IsCopyTold-of Z F size types given plain limits content before after bytes answer told known sized same fits none wrote good is copies budget memory = record {
  limits = limits;
  given = fits;
  answer = answer;
  told_is = is;
  before = before;
  none = none;
  after = after;
  wrote = wrote;
  copies =
      subst (λ n. Copies Z (Some F) (length F) types n before answer after) fits.name
      (subst (λ (ts : List ℕ). Copies Z (Some F) (length F) ts limits.name before answer after) same
      (subst (λ z. Copies Z (Some F) z given limits.name before answer after) sized
      (subst (λ (c : Option (List ℕ)). Copies Z c size given limits.name before answer after) known copies)));
  good = good;
  budget =
      subst (λ (ts : List ℕ). TellsCopyBudget Z ts limits.budget limits.window (Some F) answer) same
      (subst (λ (c : Option (List ℕ)). TellsCopyBudget Z given limits.budget limits.window c answer) known budget);
  memory = subst (λ (c : Option (List ℕ)). TellsCopyMemory limits c answer) known memory;
}
