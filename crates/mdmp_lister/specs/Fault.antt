-- Faults of bytes that were not obtained, by the store or the budget, and what is told of them.
use Rattle.std.specs.Prelude.{◌≡◌, ℕ, List, Option, Some, None, Result, Ok, Err, IfErr, IfSome, IsTrue, Bool, true, false}
use Rattle.mdmp_source.specs.Fault.{fault_at}
use Rattle.mdmp_source.specs.Source.{SourceState, FailsOnce, IsTold}
use Rattle.mdmp_source.specs.Store.{IsGood}
use Rattle.mdmp_source.specs.declared.fault.SourceFault.{SourceFault}
use Rattle.mdmp_source.specs.declared.fault.SourceFault.TheVariants.{Changed}
use Rattle.mdmp_wire.specs.declared.entry.Entry.{Entry}
use Rattle.mdmp_lister.specs.declared.kind.StreamKind.{StreamKind}
use Rattle.mdmp_lister.specs.Format.Kind.{kind_of, lists_ranges}
use Rattle.mdmp_lister.specs.Format.Listing.{list_fault}
use Rattle.mdmp_lister.specs.declared.fault.Fault.{Fault}
use Rattle.mdmp_lister.specs.declared.fault.FaultKind.{FaultKind}
use Rattle.mdmp_lister.specs.declared.fault.ListFault.{ListFault}
use Rattle.mdmp_lister.specs.declared.fault.FaultKind.TheVariants.{Source, Budget}
use Rattle.mdmp_lister.specs.declared.fault.FetchFault.{FetchFault}
use Rattle.mdmp_lister.specs.declared.fault.FetchFault.TheVariants as fetch

-- ---- bytes that were not obtained

-- bytes that are needed were not obtained, or don't agree with what was read before
abbrev pub is_unobtained : FaultKind → Bool
is_unobtained (Source fault) = true
is_unobtained Budget = true
is_unobtained kind = false

abbrev pub IsUnobtained : FaultKind → Type 0
IsUnobtained (Source fault) = Unit {0}
IsUnobtained Budget = Unit {0}
IsUnobtained kind = ⊥

-- by the store
abbrev pub IsOfStore : FaultKind → Type 0
IsOfStore (Source fault) = Unit {0}
IsOfStore kind = ⊥

-- the fault of bytes that were not obtained
abbrev pub fault_of_fetch : FetchFault → Fault
fault_of_fetch (fetch.Source fault) = record { kind = Source fault; offset = fault_at fault; size = 0 }
fault_of_fetch (fetch.Budget offset size) = record { kind = Budget; offset = offset; size = size }

-- no call of the store failed or gave nothing in some fetches
abbrev pub IsSteady : SourceState → SourceState → Type 0
IsSteady old new = (new.store.counts.failures ≡ old.store.counts.failures) × (new.store.counts.empties ≡ old.store.counts.empties)

-- but one, where a fault of the store is told
abbrev pub FailsBy : Option SourceFault → SourceState → SourceState → Type 0
FailsBy None old new = IsSteady old new
FailsBy (Some fault) old new = FailsOnce {T = Unit {0}} (Err fault) old.store.counts new.store.counts

-- some fetches end with this fault, or with none: it is what the last of them told, no other was at fault, and over a
-- good store there is none
pub record IsCaused (fault : Option SourceFault) (old new : SourceState) : Type 0 where
  pub once : FailsBy fault old new
  pub told : IfSome fault (λ f. IsTold f old new)
  pub good : (file : List ℕ) → IsGood old.store file → fault ≡ None

-- the fault of the store that a fault of a listing is
abbrev pub source_of : FaultKind → Option SourceFault
source_of (Source fault) = Some fault
source_of kind = None

-- and that of an answer
abbrev pub source_of_answer : {T : Type 0} → Result T Fault → Option SourceFault
source_of_answer (Ok x) = None
source_of_answer (Err fault) = source_of fault.kind

-- a fault of the store names the place where the store is at fault, and no size
abbrev pub IsPlacedAt : FaultKind → ℕ → ℕ → Type 0
IsPlacedAt (Source fault) offset size = (offset ≡ fault_at fault) × (size ≡ 0)
IsPlacedAt kind offset size = Unit {0}

-- some fetches end with this answer, of which a fault of the store is caused by them and placed
pub record IsCausedAt {T : Type 0} (result : Result T Fault) (old new : SourceState) : Type 0 where
  pub caused : IsCaused (source_of_answer result) old new
  pub placed : IfErr result (λ fault. IsPlacedAt fault.kind fault.offset fault.size)

-- an answer is the wanted one, or bytes were not obtained
abbrev pub Answers : {X Y : Type 0} → Result X Fault → (Y → X) → Result Y Fault → Type 0
Answers wanted value (Ok y) = wanted ≡ Ok (value y)
Answers wanted value (Err fault) = (IsUnobtained fault.kind → ⊥) → wanted ≡ Err fault

-- the same of an answer of a listing
abbrev pub IsAnsweredFor : {X : Type 0} → Result X ListFault → Result X ListFault → Type 0
IsAnsweredFor wanted (Ok x) = wanted ≡ Ok x
IsAnsweredFor wanted (Err f) = (IsUnobtained f.kind → ⊥) → wanted ≡ Err f

-- a memory list
abbrev pub IsRanged : Option StreamKind → Type 0
IsRanged (Some kind) = IsTrue (lists_ranges kind)
IsRanged None = ⊥

-- a fault of the store, of no item of this entry: what the last fetch of these told, or that the store has changed,
-- which one of known content does not, and which the head of a memory list tells, at its RVA
abbrev pub IsToldByFetch : Entry → FaultKind → SourceState → SourceState → Type 0
IsToldByFetch e (Source (Changed at)) old new = (old.store.content ≡ None) × ((at ≡ e.location.rva) × IsRanged (kind_of e.stream_type))
IsToldByFetch e (Source fault) old new = IsTold fault old new
IsToldByFetch e kind old new = Unit {0}

-- and it names the place at which the store is at fault, no size and no item; nor does one of the budget name an item
abbrev pub NamesPlace : FaultKind → ListFault → Type 0
NamesPlace (Source fault) f = (f.offset ≡ fault_at fault) × ((f.size ≡ 0) × (f.index ≡ None))
NamesPlace Budget f = f.index ≡ None
NamesPlace kind f = Unit {0}

pub record IsToldIn (e : Entry) (f : ListFault) (old new : SourceState) : Type 0 where
  pub by : IsToldByFetch e f.kind old new
  pub placed : NamesPlace f.kind f

-- it does not tell that the store has changed
abbrev pub TellsNoChange : FaultKind → Type 0
TellsNoChange (Source (Changed at)) = ⊥
TellsNoChange kind = Unit {0}

-- a listing tells a fault so, of an item of the entry with this number or of all of it; that of bytes which were not
-- obtained is that of no item
pub record IsListFaultOf (number : ℕ) (index : Option ℕ) (fault : Fault) (f : ListFault) : Type 0 where
  pub of_file : (IsUnobtained fault.kind → ⊥) → f ≡ list_fault number index fault
  pub kind : f.kind ≡ fault.kind
  pub entry : f.entry ≡ number
  pub place : (f.offset ≡ fault.offset) × (f.size ≡ fault.size)
  pub of_all : IsUnobtained fault.kind → f.index ≡ None
