-- What is told where the memory of a file is not read.
use Rattle.std.proofs.Common.{◌≡◌, ◌∙◌, ◌⊎◌, ℕ, Bool, List, Some, None, ap, inl, inr, length, refl, subst, sym}
use Rattle.std.proofs.lemmas.Option.{none-some}
use Rattle.mdmp_lister.specs.declared.choice.Choice.{Choice}
use Rattle.mdmp_lister.specs.declared.fault.FaultKind.{FaultKind}
use Rattle.mdmp_lister.specs.declared.fault.FaultKind.TheVariants as kinds
use Rattle.mdmp_lister.specs.declared.fault.ListFault.{ListFault}
use Rattle.mdmp_lister.specs.declared.fault.OpenFault.{OpenFault}
use Rattle.mdmp_lister.specs.declared.fault.OpenFault.TheVariants as opening
use Rattle.mdmp_lister.specs.Opening.{IsRefusalOf, IsUnread}
use Rattle.mdmp_lister.specs.Fault.{IsOfStore, IsUnobtained}
use Rattle.mdmp_lister.specs.Format.Listing.{listing, memory_lists}
use Rattle.mdmp_lister.specs.Format.Refusal.{opening_fault}
use Rattle.mdmp_c.specs.declared.fault.PlainFault.{PlainFault}
use Rattle.mdmp_c.specs.declared.limits.PlainLimits.{PlainLimits}
use Rattle.mdmp_c.specs.Limits.{AreGiven, AreLimits, EndsListing, KeepsListing}
use Rattle.mdmp_lister.specs.declared.limits.Limits.{Limits}
use Rattle.mdmp_lister.specs.Memory.{IsRefusalWithin, opening_fault_within}
use Rattle.mdmp_c.specs.Fault.{budget_fault, open_fault, plain_by_kind, plain_list_fault, no_fault, status_of, wide_fault}
use Rattle.mdmp_c.specs.Memory.{ReadsMemory, faulty, memory_told, stops, wants}
use Rattle.mdmp_c.proofs.Ending.{keeps_memory, keeps_unlisted, plain_budget}
use Rattle.mdmp_c.proofs.Stopping.{IsLimitTold, of_budget}

-- a fault of a listing that is the file's has status 1
pub status-file : (kind : FaultKind) (f : ListFault) → (IsUnobtained kind → ⊥) → status_of (plain_by_kind kind f) ≡ 1
status-file kinds.StreamOutside f of_file = refl
status-file kinds.ShortStream f of_file = refl
status-file kinds.BadHeaderSize f of_file = refl
status-file kinds.BadEntrySize f of_file = refl
status-file kinds.BadCount f of_file = refl
status-file kinds.NameLengthOutside f of_file = refl
status-file kinds.NameOdd f of_file = refl
status-file kinds.NameUnitsOutside f of_file = refl
status-file (kinds.Source fault) f of_file = absurd (of_file tt)
status-file kinds.Budget f of_file = absurd (of_file tt)

-- the first fault of the memory lists of a file that can be opened is told
pub memory_told-fault : (F : List ℕ) (limit n : ℕ) (choice : Choice) (f : ListFault) → choice ≡ memory_lists → n ≡ limit → opening_fault F choice ≡ None
    → (listing F choice n).fault ≡ Some f → memory_told F limit ≡ plain_list_fault f
memory_told-fault F limit n choice f is same opened fault =
    let opened_too : opening_fault F memory_lists ≡ None = subst (λ (c : Choice). opening_fault F c ≡ None) is opened in
    let first : (listing F memory_lists n).fault ≡ Some f = subst (λ (c : Choice). (listing F c n).fault ≡ Some f) is fault in
    let last : (listing F memory_lists limit).fault ≡ Some f = subst (λ m. (listing F memory_lists m).fault ≡ Some f) same first in
    rw (opened_too, last) refl

-- what has status 1 is a fault
pub some_fault : (told : PlainFault) → status_of told ≡ 1 → told ≡ no_fault → ⊥
some_fault told status none = let wrong : status_of no_fault ≡ 1 = subst (λ (f : PlainFault). status_of f ≡ 1) none status in absurd (cc)

-- the memory lists of a file that can be opened end with a fault: it is the file's, or the budget was reached
pub ReadsMemory-fault : (F : List ℕ) (limits : PlainLimits) (name : ℕ) (choice : Choice) (f : ListFault) (address status : ℕ) (fault : PlainFault) (out : List ℕ) (known : List Bool)
    → AreLimits limits → ((IsUnobtained f.kind → ⊥) → KeepsListing limits F memory_lists) → length out ≡ length known → choice ≡ memory_lists → name ≡ limits.name → opening_fault F choice ≡ None → (IsOfStore f.kind → ⊥)
    → ((IsUnobtained f.kind → ⊥) → (listing F choice name).fault ≡ Some f) → (f.kind ≡ kinds.Budget → EndsListing limits F memory_lists (budget_fault f.offset f.size))
    → status ≡ status_of (plain_list_fault f) → fault ≡ plain_list_fault f → ReadsMemory F limits address status fault out out known known
ReadsMemory-fault F limits name choice f address status fault out known valid keeps same is named opened good lists can ends tells = by (of_budget f.kind good) where
  by : (f.kind ≡ kinds.Budget) ⊎ (IsUnobtained f.kind → ⊥) → ReadsMemory F limits address status fault out out known known
  by (inl budget) =
      let plain = plain_budget f budget in
      stops valid (budget_fault f.offset f.size) (can budget) same
      record { status_is = ends ∙ ap status_of plain; fault_is = tells ∙ plain; out = refl; known = refl }
  by (inr of_file) =
      let told = memory_told-fault F limits.name name choice f is named opened (lists of_file) in
      faulty valid (keeps of_file) same (some_fault _ (ap status_of told ∙ status-file f.kind f of_file))
      record { status_is = ends ∙ status-file f.kind f of_file; fault_is = tells ∙ sym told; out = refl; known = refl }

-- the file was refused: for what is in it, since memory was wanting, or since the budget was reached
module _ (F : List ℕ) (limits : PlainLimits) (choice : Choice) (address : ℕ) (out : List ℕ) (known : List Bool) (valid : AreLimits limits) (same : length out ≡ length known)
    (is : choice ≡ memory_lists) (within_of : Limits) (given : AreGiven limits within_of) where
  refused_for : (fault : OpenFault) (status : ℕ) (told : PlainFault) → opening_fault F choice ≡ Some fault → opening_fault_within within_of F choice ≡ Some fault → status_of (open_fault fault) ≡ 1
      → status ≡ status_of (open_fault fault) → told ≡ open_fault fault → ReadsMemory F limits address status told out out known known
  refused_for fault status told refused within one ends tells =
      let first : opening_fault F memory_lists ≡ Some fault = subst (λ (c : Choice). opening_fault F c ≡ Some fault) is refused in
      let all : memory_told F limits.name ≡ open_fault fault = rw first refl in
      let keeps : KeepsListing limits F memory_lists = subst (KeepsListing limits F) is
      (keeps_unlisted limits F choice fault refused (keeps_memory limits within_of F choice (Some fault) given within refused (λ none. absurd (none-some fault (sym none))))) in
      faulty valid keeps same (some_fault _ (ap status_of all ∙ one))
      record { status_is = ends ∙ one; fault_is = tells ∙ sym all; out = refl; known = refl }

  pub ReadsMemory-refused : (fault : OpenFault) (status : ℕ) (told : PlainFault) → (IsLimitTold fault → EndsListing limits F memory_lists (open_fault fault))
      → IsRefusalOf F choice fault → IsRefusalWithin within_of F choice fault → (IsUnread fault → ⊥) → status ≡ status_of (open_fault fault) → told ≡ open_fault fault
      → ReadsMemory F limits address status told out out known known
  ReadsMemory-refused (opening.Source fault) status told can of within read ends tells = absurd (read tt)
  ReadsMemory-refused (opening.Budget offset size) status told can of within read ends tells =
      stops valid (budget_fault offset size) (can tt) same record { status_is = ends; fault_is = tells; out = refl; known = refl }
  ReadsMemory-refused (opening.MemoryLimit held) status told can of within read ends tells =
      stops valid (wide_fault 72 held) (can tt) same record { status_is = ends; fault_is = tells; out = refl; known = refl }
  ReadsMemory-refused opening.Memory status told can of within read ends tells = wants valid same record { status_is = ends; fault_is = tells; out = refl; known = refl }
  ReadsMemory-refused (opening.TooShort size) status told can of within read ends tells = refused_for (opening.TooShort size) status told of within refl ends tells
  ReadsMemory-refused opening.BadSignature status told can of within read ends tells = refused_for opening.BadSignature status told of within refl ends tells
  ReadsMemory-refused (opening.BadVersion low) status told can of within read ends tells = refused_for (opening.BadVersion low) status told of within refl ends tells
  ReadsMemory-refused (opening.DirectoryOutside offset size) status told can of within read ends tells = refused_for (opening.DirectoryOutside offset size) status told of within refl ends tells
  ReadsMemory-refused (opening.TooManyRanges n) status told can of within read ends tells = refused_for (opening.TooManyRanges n) status told of within refl ends tells
