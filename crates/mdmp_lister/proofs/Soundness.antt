-- A walk stays sound where its lists stay and its new stage is.
use Rattle.std.proofs.Common.{◌≡◌, ◌≤◌, ◌<◌, ◌∙◌, ℕ, arith, List, Option, Some, IsTrue, sym, subst, refl, vec_len, max}
use Rattle.mdmp_source.specs.Source.{SourceState, FetchesAtMost}
use Rattle.mdmp_source.specs.Store.{IsGood}
use Rattle.mdmp_source.specs.Window.{WindowState}
use Rattle.mdmp_wire.specs.declared.entry.Entry.{Entry}
use Rattle.mdmp_lister.specs.declared.fault.FaultKind.{FaultKind}
use Rattle.mdmp_lister.specs.declared.fault.FaultKind.TheVariants.{Source, Budget}
use Rattle.mdmp_lister.specs.declared.fault.ListFault.{ListFault}
use Rattle.mdmp_lister.specs.declared.stage.Stage.TheVariants.{Ended}
use Rattle.mdmp_lister.specs.declared.walk.Walk.{Walk}
use Rattle.mdmp_lister.specs.Fault.{IsOfStore, IsUnobtained}
use Rattle.mdmp_lister.specs.Stage.{IsNoStoreFault, IsOverAt, fault_stage, stage_by}
use Rattle.mdmp_lister.specs.Walk.{IsSound, IsStaged, IsHeaded, IsWindowed, SameEntry}

-- a store is good if it was before some fetches, and was if it is
pub IsGood-before : (n : ℕ) (old new : SourceState) (file : List ℕ) → FetchesAtMost n old new → IsGood new.store file → IsGood old.store file
IsGood-before n old new file fetches good = record {
  known = sym fetches.same_content ∙ good.known;
  reliable = subst IsTrue fetches.same_reliable good.reliable;
}

pub IsGood-after : (n : ℕ) (old new : SourceState) (file : List ℕ) → FetchesAtMost n old new → IsGood old.store file → IsGood new.store file
IsGood-after n old new file fetches good = record {
  known = fetches.same_content ∙ good.known;
  reliable = subst IsTrue (sym fetches.same_reliable) good.reliable;
}

module _ {S A : Type 0} (n : ℕ) (old new : Walk S A) where
  pub IsSound-after : IsSound old → FetchesAtMost n old.meter.source new.meter.source → SameEntry old new
      → IsStaged old.meter.source.size old.next old.current new.stage
      → IsWindowed old.meter.source.store.content old.current new.window new.stage
      → ((file : List ℕ) → old.meter.source.store.content ≡ Some file → IsHeaded file old.current new.stage)
      → (new.stage ≡ Ended → old.next ≡ vec_len old.entries)
      → ((file : List ℕ) → IsGood old.meter.source.store file → IsNoStoreFault new.stage)
      → IsOverAt (max old.window.room old.name.limit) new.stage new.meter
      → old.meter.fetched ≤ new.meter.fetched
      → IsSound new
  IsSound-after sound fetches same staged windowed headed ended unfailed refused more = record {
    sized = rw (fetches.same_content, fetches.same_size) sound.sized;
    window = rw same.room.window sound.window;
    small = rw same.room.name sound.small;
    few = rw same.room.entries sound.few;
    whole = rw (same.room.entries, same.room.header_is) sound.whole;
    listed = rw (same.room.listed, same.room.choice, same.room.entries, fetches.same_size) sound.listed;
    placed = rw (same.room.entries, same.next) sound.placed;
    staged = rw (fetches.same_size, same.next, same.current) staged;
    holding = rw (fetches.same_content, same.current) windowed;
    headed = λ file known. rw same.current (headed file (sym fetches.same_content ∙ known));
    ended = λ end. rw (same.room.entries, same.next) (ended end);
    directory = λ file known. rw same.room.entries (sound.directory file (sym fetches.same_content ∙ known));
    header_is = λ file known. same.room.header_is ∙ sound.header_is file (sym fetches.same_content ∙ known);
    unfailed = λ file good. unfailed file (IsGood-before n old.meter.source new.meter.source file fetches good);
    refused = rw (same.room.window, same.room.name) refused;
    opened = rw same.room.entries (omega (arith, sound.opened, more));
  }

-- ---- the stage behind a fault

stage_by-staged : (size next : ℕ) (e : Entry) (f : ListFault) (kind : FaultKind) → 0 < next → kind ≡ f.kind → IsStaged size next e (stage_by kind f)
stage_by-staged size next e f (Source fault) begun same = subst IsUnobtained same tt
stage_by-staged size next e f Budget begun same = subst IsUnobtained same tt
stage_by-staged size next e f _ begun same = (begun, λ of. subst IsUnobtained (sym same) of)

pub fault_stage-staged : (size next : ℕ) (e : Entry) (f : ListFault) → 0 < next → IsStaged size next e (fault_stage f)
fault_stage-staged size next e f begun = stage_by-staged size next e f f.kind begun refl

stage_by-windowed : (content : Option (List ℕ)) (e : Entry) (w : WindowState) (f : ListFault) (kind : FaultKind) → IsWindowed content e w (stage_by kind f)
stage_by-windowed content e w f (Source fault) = tt
stage_by-windowed content e w f _ = tt

pub fault_stage-windowed : (content : Option (List ℕ)) (e : Entry) (w : WindowState) (f : ListFault) → IsWindowed content e w (fault_stage f)
fault_stage-windowed content e w f = stage_by-windowed content e w f f.kind

stage_by-headed : (file : List ℕ) (e : Entry) (f : ListFault) (kind : FaultKind) → IsHeaded file e (stage_by kind f)
stage_by-headed file e f (Source fault) = tt
stage_by-headed file e f _ = tt

pub fault_stage-headed : (file : List ℕ) (e : Entry) (f : ListFault) → IsHeaded file e (fault_stage f)
fault_stage-headed file e f = stage_by-headed file e f f.kind

stage_by-going : (f : ListFault) (kind : FaultKind) → stage_by kind f ≡ Ended → ⊥
stage_by-going f (Source fault) end = cc
stage_by-going f _ end = cc

pub fault_stage-going : (f : ListFault) → fault_stage f ≡ Ended → ⊥
fault_stage-going f end = stage_by-going f f.kind end

stage_by-unfailed : (f : ListFault) (kind : FaultKind) → (IsOfStore f.kind → ⊥) → IsNoStoreFault (stage_by kind f)
stage_by-unfailed f (Source fault) not = not
stage_by-unfailed f Budget not = not
stage_by-unfailed f _ not = tt

pub fault_stage-unfailed : (f : ListFault) → (IsOfStore f.kind → ⊥) → IsNoStoreFault (fault_stage f)
fault_stage-unfailed f not = stage_by-unfailed f f.kind not
