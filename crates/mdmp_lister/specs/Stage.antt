-- How far a walk has listed the current entry, and what it answers from then on.
use Rattle.std.specs.Prelude.{◌≡◌, ◌≤◌, ◌<◌, ◌+◌, ◌-◌, ◌^◌, ℕ, Bool, true, false, Option, None, Some, IfSome, Result, Ok, Err}
use Rattle.mdmp_lister.specs.Fault.{IsOfStore, TellsNoChange}
use Rattle.mdmp_lister.specs.Meter.{IsUnmade, MeterState, counts_of}
use Rattle.mdmp_lister.specs.Following.{Standing, begun, through, within}
use Rattle.mdmp_lister.specs.declared.fault.FaultKind.{FaultKind}
use Rattle.mdmp_lister.specs.declared.fault.FaultKind.TheVariants.{Source, Budget}
use Rattle.mdmp_lister.specs.declared.fault.ListFault.{ListFault}
use Rattle.mdmp_lister.specs.declared.sink.RunFault.{RunFault}
use Rattle.mdmp_lister.specs.declared.sink.RunFault.TheVariants as run
use Rattle.mdmp_lister.specs.declared.stage.Stage.{Stage}
use Rattle.mdmp_lister.specs.declared.stage.Stage.TheVariants.{Between, Head, Records, Bad, Failed, Ended}

-- the stage behind a fault: one of bytes that were not obtained, by the store or the budget, stays for good
abbrev pub stage_by : FaultKind → ListFault → Stage
stage_by (Source fault) f = Failed f
stage_by Budget f = Failed f
stage_by kind f = Bad f

abbrev pub fault_stage : ListFault → Stage
fault_stage f = stage_by f.kind f

-- the fault of bytes that were not obtained, which every call answers
abbrev pub failure_of : Stage → Option ListFault
failure_of (Failed f) = Some f
failure_of stage = None

-- it is not one of the store
abbrev pub IsNoStoreFault : Stage → Type 0
IsNoStoreFault stage = IfSome (failure_of stage) (λ f. IsOfStore f.kind → ⊥)

-- where it tells the budget, it is of a fetch of at most so many bytes that was not made
abbrev pub IsOverAt : ℕ → Stage → MeterState → Type 0
IsOverAt most stage m = IfSome (failure_of stage) (λ f. IsUnmade most f.kind f.offset f.size (counts_of m) m.source.size)

-- that fault does not tell that the store has changed
abbrev pub StaysUnchanged : Stage → Type 0
StaysUnchanged (Failed f) = TellsNoChange f.kind
StaysUnchanged stage = Unit {0}

-- what every request for an item is answered with, the end or a fault, where there is such an answer
abbrev pub stop_of : Stage → Option (Option ListFault)
stop_of (Failed f) = Some (Some f)
stop_of (Bad f) = Some (Some f)
stop_of Ended = Some None
stop_of stage = None

abbrev pub stop_given : {X : Type 0} → Option X → Option (Option ListFault)
stop_given (Some x) = None
stop_given None = Some None

-- what requests are answered with behind this answer
abbrev pub stop_after : {X : Type 0} → Result (Option X) ListFault → Option (Option ListFault)
stop_after (Ok given) = stop_given given
stop_after (Err f) = Some (Some f)

-- nothing leads on from a stage
abbrev pub ends : Stage → Bool
ends (Failed f) = true
ends Ended = true
ends stage = false

-- how many records of the current entry are left behind those that were given: 0 where its head is not read, and
-- behind a fault
abbrev pub records_left_in : Stage → ℕ
records_left_in (Records kind shape index offset) = shape.count - index
records_left_in stage = 0

-- how far the current entry was given
abbrev pub standing_of : Stage → Standing
standing_of Head = begun
standing_of (Records kind shape index offset) = within index (shape.count - index) offset
standing_of stage = through

-- the stage tells what a request was answered
abbrev pub IsStageAfter : {X : Type 0} → Result (Option X) ListFault → Stage → Type 0
IsStageAfter (Ok given) stage = stop_of stage ≡ stop_given given
IsStageAfter (Err f) stage = stage ≡ fault_stage f

-- no record of an entry was given, whose records are counted so: once its head was read, its stage tells their count
abbrev pub IsCounted : Result ℕ ListFault → Stage → Type 0
IsCounted told Between = told ≡ Ok 0
IsCounted told (Records kind shape index offset) = (told ≡ Ok shape.count) × (index ≡ 0)
IsCounted told (Bad f) = told ≡ Err f
IsCounted told stage = Unit {0}

-- an entry was begun, and the end was not reached
abbrev pub IsUnended : Stage → Type 0
IsUnended Ended = ⊥
IsUnended stage = Unit {0}

-- what requests are answered with behind a run
abbrev pub stop_after_run : Result (Unit {0}) RunFault → Option (Option ListFault)
stop_after_run (Ok done) = Some None
stop_after_run (Err (run.At f)) = Some (Some f)
stop_after_run (Err run.Stopped) = None

-- the stage behind the record that is next, which tells so many bytes of a 64-bit memory list
abbrev pub stage_behind : ℕ → Stage → Stage
stage_behind bytes (Records kind shape index offset) = Records kind shape (index + 1) (offset + bytes)
stage_behind bytes stage = stage

-- its numbers fit in their types then
abbrev pub MayPass : Stage → Type 0
MayPass (Records kind shape index offset) = (index < 2 ^ 64 - 1) × (offset + 2 ^ 64 ≤ 2 ^ 128 - 1)
MayPass stage = Unit {0}
