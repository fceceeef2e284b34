-- A region that a walk passes over: it is found as it was read, for it has no name and no parts.
use Rattle.std.proofs.Common.{◌≡◌, ◌∙◌, ◌<◌, ◌^◌, ◌∷◌, ℕ, zero, suc, Bool, [], List, Option, Some, None, Result, Ok, Err, ap, arith, get_or, refl, sym}
use Rattle.std.specs.Prelude.{IfErr, IfOk, IfSome}
use Rattle.mdmp_source.specs.Store.{IsGood, IsOfBytes, IsSizeOf}
use Rattle.mdmp_wire.specs.AnyRecord.{slots_of}
use Rattle.mdmp_wire.specs.declared.any_record.AnyRecord.{AnyRecord}
use Rattle.mdmp_wire.specs.declared.any_record.AnyRecord.TheVariants as any
use Rattle.mdmp_wire.specs.declared.entry.Entry.{Entry}
use Rattle.mdmp_wire.specs.declared.slot.Slot.TheVariants.{Empty}
use Rattle.mdmp_lister.specs.declared.fault.ListFault.{ListFault}
use Rattle.mdmp_lister.specs.Fault.{IsOfStore}
use Rattle.mdmp_lister.specs.declared.kind.StreamKind.TheVariants.{MemoryInfo}
use Rattle.mdmp_lister.specs.declared.step.RecordRead.{RecordRead}
use Rattle.mdmp_lister.specs.declared.step.Step.{Step}
use Rattle.mdmp_lister.specs.declared.step.Step.TheVariants as step
use Rattle.mdmp_lister.specs.Format.Item.{kind_told}
use Rattle.mdmp_lister.specs.Format.Kind.{kind_of}
use Rattle.mdmp_lister.specs.Step.{IsStepOf}
use Rattle.mdmp_lister.specs.Walker.{PassesStep, StepLeaves, WalkerState, passed_of}
use Rattle.mdmp_dump.specs.declared.fault.ReadFault.{ReadFault}
use Rattle.mdmp_dump.specs.declared.fault.ReadFault.TheVariants as faults
use Rattle.mdmp_dump.specs.declared.found_record.FoundRecord.{FoundRecord}
use Rattle.mdmp_dump.specs.EntryWalk.{GivesNext, PassesNext, TakesNothing, WalkState, dropped}
use Rattle.mdmp_dump.specs.FileView.{WalksRecord}
use Rattle.mdmp_dump.specs.FoundRecord.{IsPartIn, no_part}
use Rattle.mdmp_dump.specs.Walking.{IsKept, records_to_give, state_of}
use Rattle.mdmp_dump.proofs.Founding.{found_bare}
use Rattle.mdmp_dump.proofs.RecordsFound.{never_none, never_stream, refused_kept, step_gives, step_kept, step_refused, step_stays}

-- ---- a record without slots

no_slots : (w : AnyRecord) → kind_told w ≡ MemoryInfo → slots_of w ≡ Empty ∷ Empty ∷ Empty ∷ []
no_slots (any.MemoryInfo region) is = refl
no_slots w is = absurd (cc is)

abbrev as_read : RecordRead → FoundRecord
as_read r = record { wire = r.fields; parts = no_part ∷ no_part ∷ no_part ∷ [] }

nothing_taken : (r : RecordRead) → slots_of r.fields ≡ Empty ∷ Empty ∷ Empty ∷ [] → TakesNothing (as_read r)
nothing_taken r none = record { room = rw none refl; far = rw none refl; bytes = refl }

nothing_inside : (size k : ℕ) → IsPartIn size (get_or (no_part ∷ no_part ∷ no_part ∷ []) k no_part).size (get_or (no_part ∷ no_part ∷ no_part ∷ []) k no_part).at
nothing_inside size zero some = absurd (omega (arith, some))
nothing_inside size (suc zero) some = absurd (omega (arith, some))
nothing_inside size (suc (suc zero)) some = absurd (omega (arith, some))
nothing_inside size (suc (suc (suc k))) some = absurd (omega (arith, some))

-- ---- the next record is passed over

module _ (old new : WalkerState) (kept : IsKept old) (left : 0 < records_to_give old.list) where
  pub pass_kept : (answer : Result Bool ListFault) → PassesStep old answer new → IsKept new
  pass_kept answer passes = by passes.given passes.leaves where
    by : (given : Result (Option Step) ListFault) → StepLeaves old given new → IsKept new
    by (Ok (Some s)) leaves = step_kept old new kept left s leaves
    by (Ok None) leaves = absurd (never_none old new kept left leaves)
    by (Err f) leaves = refused_kept old new kept left f leaves

  pub pass_refused : (f : ListFault) → PassesStep old (Err f) new → PassesNext (state_of old) (Err (faults.List f)) (state_of new)
  pass_refused f passes = by passes.given passes.passed passes.leaves passes.good where
    by : (given : Result (Option Step) ListFault) → Err f ≡ passed_of given → StepLeaves old given new → ((file : List ℕ) → IsGood old.list.source.store file → IfErr given (λ fault. IsOfStore fault.kind → ⊥)) → PassesNext (state_of old) (Err (faults.List f)) (state_of new)
    by (Ok (Some s)) is leaves good = absurd (cc is)
    by (Ok None) is leaves good = absurd (cc is)
    by (Err g) is leaves good = record {
      given = Err (faults.List g);
      passed = ap (λ (h : ListFault). Err (faults.List h)) (cc is);
      gives = λ limit. step_refused old new kept left g leaves good limit;
      nothing = tt;
    }

  module _ (regions : kind_of old.list.current.stream_type ≡ Some MemoryInfo) (size : ℕ) (size_is : size ≡ old.list.source.size) (sized : IsSizeOf old.list.source.store.content size) (bytes : IsOfBytes old.list.source.store.content) where
    region_passes : (r : RecordRead) → StepLeaves old (Ok (Some (step.Record r))) new → IsStepOf (kind_of new.list.current.stream_type) (step.Record r) → PassesNext (state_of old) (Ok tt) (state_of new)
    region_passes r leaves of =
        let stays = step_stays old new kept left (step.Record r) leaves in
        let known : Some (kind_told r.fields) ≡ Some MemoryInfo = sym of.0 ∙ ap (λ (e : Entry). kind_of e.stream_type) stays.current ∙ regions in
        let none = no_slots r.fields (cc known) in
        record {
          given = Ok (as_read r);
          passed = refl;
          gives = λ limit.
              step_gives old new kept left r leaves of limit size size_is sized bytes (Ok (as_read r))
              (λ F long are name told is. (let found = found_bare F limit r none name told is in (found.0, (found.1.0, (found.1.1, tt)))))
              (refl, omega arith) (refl, nothing_inside size);
          nothing = nothing_taken r none;
        }

    pub pass_passes : (b : Bool) → PassesStep old (Ok b) new → PassesNext (state_of old) (Ok tt) (state_of new)
    pass_passes b passes = by passes.given passes.passed passes.leaves passes.kind where
      by : (given : Result (Option Step) ListFault) → Ok b ≡ passed_of given → StepLeaves old given new → IfOk given (λ s. IfSome s (IsStepOf (kind_of new.list.current.stream_type))) → PassesNext (state_of old) (Ok tt) (state_of new)
      by (Ok (Some (step.Record r))) is leaves of = region_passes r leaves of
      by (Ok (Some (step.Stream x))) is leaves of = absurd (never_stream old new kept left x leaves)
      by (Ok None) is leaves of = absurd (never_none old new kept left leaves)
      by (Err g) is leaves of = absurd (cc is)

-- ---- and walked over

module _ (old : WalkState) (limit room : ℕ) (new : WalkState) where
  pub region_taken : room < 2 ^ 64 → PassesNext old (Ok tt) new → WalksRecord old limit room (Ok (record { room = room; bytes = 0 })) new
  region_taken small passes = by passes.given passes.passed (passes.gives limit) passes.nothing where
    by : (given : Result FoundRecord ReadFault) → Ok tt ≡ dropped given → GivesNext old limit given new → IfOk given TakesNothing → WalksRecord old limit room (Ok (record { room = room; bytes = 0 })) new
    by (Ok f) is gives none = record {
      given = Ok f;
      gives = gives;
      taken = (
        (let here = none.room in let far = none.far in omega (arith, here, far, small)),
        sym none.bytes,
        omega arith,
      );
    }
    by (Err fault) is gives none = absurd (cc is)

  pub region_refused : (fault : ReadFault) → PassesNext old (Err fault) new → WalksRecord old limit room (Err fault) new
  region_refused fault passes = by passes.given passes.passed (passes.gives limit) where
    by : (given : Result FoundRecord ReadFault) → Err fault ≡ dropped given → GivesNext old limit given new → WalksRecord old limit room (Err fault) new
    by (Ok f) is gives = absurd (cc is)
    by (Err told) is gives = record { given = Err told; gives = gives; taken = cc is }
