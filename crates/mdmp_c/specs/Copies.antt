-- What the call tells that gives a copy.
use Rattle.std.specs.Prelude.{◌≡◌, ◌≤◌, ℕ, List, [], length, Some, Result}
use Rattle.mdmp_source.specs.Output.{OutState}
use Rattle.mdmp_engines.specs.Causes.{IsNoSourceFault}
use Rattle.mdmp_lister.specs.declared.limits.Limits.{Limits}
use Rattle.mdmp_engines.specs.Copying.{Copies, TellsCopyBudget, TellsCopyMemory}
use Rattle.mdmp_engines.specs.declared.fault.ToolFault.{ToolFault}
use Rattle.mdmp_c.specs.declared.fault.PlainFault.{PlainFault}
use Rattle.mdmp_c.specs.declared.limits.PlainLimits.{PlainLimits}
use Rattle.mdmp_c.specs.Limits.{AreGiven}
use Rattle.mdmp_c.specs.ToolFault.{copy_answer}

-- 1 to 16 types of streams
abbrev pub AreTypes : List ℕ → Type 0
AreTypes types = (1 ≤ length types) × (length types ≤ 16)

-- what a copy of the streams of these types out of F told, within some limits, and the bytes that it wrote to an output that had
-- taken none
pub record IsCopyTold (Z : Type 0) (F : List ℕ) (types : List ℕ) (plain : PlainLimits) (told : PlainFault) (bytes : List ℕ) : Type 0 where
  pub limits : Limits
  pub given : AreGiven plain limits
  pub answer : Result ℕ ToolFault
  pub told_is : told ≡ copy_answer answer
  pub before : OutState
  pub none : before.taken ≡ Some []
  pub after : OutState
  pub wrote : after.taken ≡ Some bytes
  pub copies : Copies Z (Some F) (length F) types plain.name before answer after
  -- a limit is told only if there is one, and it was reached: the budget of what it has no room for, or of how much a copy needs
  pub budget : TellsCopyBudget Z types limits.budget limits.window (Some F) answer
  pub memory : TellsCopyMemory limits (Some F) answer
  -- the store is memory, which does not fail
  pub good : IsNoSourceFault answer
