-- How many records an entry has, told by its stage.
use Rattle.std.proofs.Common.{◌≡◌, ◌∙◌, ℕ, List, None, Some, Result, Ok, Err, ap, length, refl, sym}
use Rattle.mdmp_wire.specs.declared.entry.Entry.{Entry}
use Rattle.mdmp_lister.specs.declared.fault.Fault.{Fault}
use Rattle.mdmp_lister.specs.declared.fault.FaultKind.{FaultKind}
use Rattle.mdmp_lister.specs.declared.fault.FaultKind.TheVariants.{Source, Budget}
use Rattle.mdmp_lister.specs.declared.fault.ListFault.{ListFault}
use Rattle.mdmp_lister.specs.declared.kind.StreamKind.{StreamKind}
use Rattle.mdmp_lister.specs.declared.shape.Shape.{Shape}
use Rattle.mdmp_lister.specs.Fault.{IsListFaultOf, IsUnobtained}
use Rattle.mdmp_lister.specs.Format.Kind.{kind_of}
use Rattle.mdmp_lister.specs.Format.Listing.{count_listed, records_told}
use Rattle.mdmp_lister.specs.Format.Shape.{location_fault, record_count, records_in, shape_of}
use Rattle.mdmp_lister.specs.Stage.{IsCounted, fault_stage, stage_by}

module _ (F : List ℕ) (e : Entry) where
  count-outside : (f : Fault) → location_fault (length F) e ≡ Some f → record_count F e ≡ Err f
  count-outside f out = rw out refl

  count-opaque : location_fault (length F) e ≡ None → kind_of e.stream_type ≡ None → record_count F e ≡ Ok 0
  count-opaque whole none = rw (whole, none) refl

  count-shaped : (kind : StreamKind) (shape : Result Shape Fault) → location_fault (length F) e ≡ None → kind_of e.stream_type ≡ Some kind
      → shape_of F e.location.rva e.location.size kind ≡ shape → record_count F e ≡ records_in shape
  count-shaped kind shape whole known shaped = rw (whole, known, shaped) refl

-- ---- faults

stage_by-counted : (told : Result ℕ ListFault) (f : ListFault) (kind : FaultKind) → ((IsUnobtained kind → ⊥) → told ≡ Err f) → IsCounted told (stage_by kind f)
stage_by-counted told f (Source fault) is = tt
stage_by-counted told f Budget is = tt
stage_by-counted told f _ is = is (λ of. of)

counted-fault : (F : List ℕ) (number : ℕ) (e : Entry) (fault : Fault) (f : ListFault) → IsListFaultOf number None fault f → ((IsUnobtained fault.kind → ⊥) → record_count F e ≡ Err fault)
    → IsCounted (records_told F (record { number = number; entry = e })) (fault_stage f)
counted-fault F number e fault f told is =
    stage_by-counted (records_told F (record { number = number; entry = e })) f f.kind
    (λ not. let other : IsUnobtained fault.kind → ⊥ = λ of. not (rw told.kind of) in
    ap (count_listed number) (is other) ∙ ap Err (sym (told.of_file other)))

module _ (F : List ℕ) (number : ℕ) (e : Entry) where
  pub counted_outside : (fault : Fault) (f : ListFault) → location_fault (length F) e ≡ Some fault → IsListFaultOf number None fault f
      → IsCounted (records_told F (record { number = number; entry = e })) (fault_stage f)
  counted_outside fault f out told = counted-fault F number e fault f told (λ _. count-outside F e fault out)

  pub counted_bad : (kind : StreamKind) (fault : Fault) (f : ListFault) → location_fault (length F) e ≡ None → kind_of e.stream_type ≡ Some kind
      → ((IsUnobtained fault.kind → ⊥) → shape_of F e.location.rva e.location.size kind ≡ Err fault) → IsListFaultOf number None fault f
      → IsCounted (records_told F (record { number = number; entry = e })) (fault_stage f)
  counted_bad kind fault f whole known shape told = counted-fault F number e fault f told (λ other. count-shaped F e kind (Err fault) whole known (shape other))

  pub counted_none : location_fault (length F) e ≡ None → kind_of e.stream_type ≡ None → records_told F (record { number = number; entry = e }) ≡ Ok 0
  counted_none whole none = ap (count_listed number) (count-opaque F e whole none)

  pub counted_shaped : (kind : StreamKind) (shape : Shape) → location_fault (length F) e ≡ None → kind_of e.stream_type ≡ Some kind
      → shape_of F e.location.rva e.location.size kind ≡ Ok shape → records_told F (record { number = number; entry = e }) ≡ Ok shape.count
  counted_shaped kind shape whole known shaped = ap (count_listed number) (count-shaped F e kind (Ok shape) whole known shaped)
