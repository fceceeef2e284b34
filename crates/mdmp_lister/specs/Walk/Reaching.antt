-- How many names were reached for what is given.
use Rattle.std.specs.Prelude.{◌≡◌, ◌≤◌, ◌+◌, ℕ, Option, Some, None}
use Rattle.mdmp_source.specs.Count.{raised}
use Rattle.mdmp_lister.specs.declared.fetching.NameRead.{NameRead}
use Rattle.mdmp_lister.specs.declared.fetching.NameRead.TheVariants as read
use Rattle.mdmp_lister.specs.declared.step.Step.{Step}
use Rattle.mdmp_lister.specs.declared.step.Step.TheVariants as step
use Rattle.mdmp_lister.specs.declared.fault.FaultKind.{FaultKind}
use Rattle.mdmp_lister.specs.Format.Numbers.{faulty_name, maybe_name}
use Rattle.mdmp_lister.specs.Meter.{MeterState}

-- 1 for a name that was read, long or not
abbrev pub read_once : NameRead → ℕ
read_once read.None = 0
read_once _ = 1

-- and for a step with such a name
abbrev pub told_once : Step → ℕ
told_once (step.Stream x) = 0
told_once (step.Record r) = read_once r.name

abbrev pub given_once : Option Step → ℕ
given_once (Some s) = told_once s
given_once None = 0

-- so many names more were reached
abbrev pub Reaches : ℕ → MeterState → MeterState → Type 0
Reaches n old new = new.names ≡ raised old.names n

-- one more was reached where this fault is that of a name, maybe one where bytes were not obtained, else none
abbrev pub ReachesAtFault : FaultKind → MeterState → MeterState → Type 0
ReachesAtFault kind old new = (raised old.names (faulty_name kind) ≤ new.names) × (new.names ≤ old.names + maybe_name kind)
