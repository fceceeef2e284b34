-- What a step of a writer does to its view and to its output, and why it stops.
use Rattle.std.specs.Prelude.{◌≡◌, ◌≤◌, ◌+◌, ℕ, Result}
use Rattle.mdmp_source.specs.Output.{OutState}
use Rattle.mdmp_dump.specs.Shape.{Spent, ViewShape}
use Rattle.mdmp_writer.specs.declared.fault.WriteFault.{WriteFault}
use Rattle.mdmp_writer.specs.Cause.{HasCause, IsToldBy}

-- the shape of a view and what was spent of it, and an output
pub record Used : Type 0 where
  pub shape : ViewShape
  pub spent : Spent
  pub out : OutState

abbrev pub used : ViewShape → Spent → OutState → Used
used shape spent out = record { shape = shape; spent = spent; out = out }

-- the view keeps its shape, and of it at most so many costs of passes and bytes are spent; where the step stops, the output
-- refused or the view answered a fault, which is then the one that it answered last
pub record Uses {T : Type 0} (result : Result T WriteFault) (before : Used) (passes asks : ℕ) (after : Used) : Type 0 where
  pub shape : after.shape ≡ before.shape
  pub cause : HasCause before.shape.is_reliable result before.out after.out
  pub passed : after.spent.passed ≤ before.spent.passed + passes
  pub asked : after.spent.asked ≤ before.spent.asked + asks
  pub told : IsToldBy result after.spent.fault
