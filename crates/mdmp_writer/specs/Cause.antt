-- Why a writer stops.
use Rattle.std.specs.Prelude.{◌≡◌, Option, Some, Result, Ok, Err, Bool, IsFalse}
use Rattle.mdmp_source.specs.Output.{OutState, refused_once}
use Rattle.mdmp_dump.specs.declared.view.ViewFault.{ViewFault}
use Rattle.mdmp_writer.specs.declared.fault.WriteFault.{WriteFault}
use Rattle.mdmp_writer.specs.declared.fault.WriteFault.TheVariants.{Layout, Out, View}

-- why a writer stopped: the output refused, and was not asked again, or the view answered a fault, which a reliable one does not. Where it did not
-- stop, nothing was refused.
abbrev pub HasCause : {T : Type 0} → Bool → Result T WriteFault → OutState → OutState → Type 0
HasCause reliable (Ok x) before after = after.failures ≡ before.failures
HasCause reliable (Err Out) before after = after.failures ≡ refused_once before.failures
HasCause reliable (Err (View fault)) before after = IsFalse reliable × (after.failures ≡ before.failures)
HasCause reliable (Err (Layout fault)) before after = ⊥

-- a fault of a view is the one that it answered last
abbrev pub IsToldBy : {T : Type 0} → Result T WriteFault → Option ViewFault → Type 0
IsToldBy (Ok x) last = Unit {0}
IsToldBy (Err Out) last = Unit {0}
IsToldBy (Err (View fault)) last = last ≡ Some fault
IsToldBy (Err (Layout fault)) last = Unit {0}

-- a step that asks nothing of a view stops only where the output refuses, and at the first refusal
abbrev pub StopsAtOutput : {T : Type 0} → Result T WriteFault → OutState → OutState → Type 0
StopsAtOutput (Ok x) before after = after.failures ≡ before.failures
StopsAtOutput (Err Out) before after = after.failures ≡ refused_once before.failures
StopsAtOutput (Err fault) before after = ⊥
