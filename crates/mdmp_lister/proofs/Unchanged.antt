-- A walk does not tell of itself that its store has changed.
use Rattle.std.proofs.Common.{◌≡◌, ℕ, Option, Result, Ok, Err, refl, subst}
use Rattle.std.specs.Prelude.{IfErr}
use Rattle.mdmp_lister.specs.declared.fault.FaultKind.{FaultKind}
use Rattle.mdmp_lister.specs.declared.fault.FaultKind.TheVariants.{Source, Budget}
use Rattle.mdmp_lister.specs.declared.fault.ListFault.{ListFault}
use Rattle.mdmp_lister.specs.declared.stage.Stage.{Stage}
use Rattle.mdmp_lister.specs.Fault.{TellsNoChange}
use Rattle.mdmp_lister.specs.Stage.{IsStageAfter, StaysUnchanged, fault_stage, stage_by}
use Rattle.mdmp_lister.specs.Walk.{IsStageCounted}

stage_by-unchanged : (kind : FaultKind) (f : ListFault) → TellsNoChange f.kind → StaysUnchanged (stage_by kind f)
stage_by-unchanged (Source fault) f told = told
stage_by-unchanged Budget f told = told
stage_by-unchanged _ f told = tt

-- a walk that stays at such a fault
pub fault_stage-unchanged : (f : ListFault) → TellsNoChange f.kind → StaysUnchanged (fault_stage f)
fault_stage-unchanged f told = stage_by-unchanged f.kind f told

told_by-stage : (kind : FaultKind) (f : ListFault) → f.kind ≡ kind → StaysUnchanged (stage_by kind f) → TellsNoChange kind
told_by-stage (Source fault) f is stays = subst TellsNoChange is stays
told_by-stage _ f is stays = tt

-- what a walk answered
pub answer-unchanged : {X : Type 0} (r : Result (Option X) ListFault) (at : Stage) → IsStageAfter r at → StaysUnchanged at → IfErr r (λ f. TellsNoChange f.kind)
answer-unchanged (Ok given) at is stays = tt
answer-unchanged (Err f) at is stays = told_by-stage f.kind f refl (subst StaysUnchanged is stays)

pub count-unchanged : (r : Result ℕ ListFault) (at : Stage) → IsStageCounted r at → StaysUnchanged at → IfErr r (λ f. TellsNoChange f.kind)
count-unchanged (Ok count) at is stays = tt
count-unchanged (Err f) at is stays = told_by-stage f.kind f refl (subst StaysUnchanged is stays)
