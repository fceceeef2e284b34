-- A pass over all entries, whose items are shown to a visitor that may read bytes of the file after each.
use Rattle.std.specs.Prelude.{◌≡◌, ◌≤◌, ◌+◌, ◌++◌, ◌⊎◌, ℕ, List, [], ◌∷◌, Option, None, Some, Result, Ok, Err, sum_by}
use Rattle.mdmp_source.specs.Source.{IsTold, SourceState}
use Rattle.mdmp_lister.specs.declared.item.Item.{Item}
use Rattle.mdmp_lister.specs.declared.kind.StreamKind.{StreamKind}
use Rattle.mdmp_lister.specs.declared.meter.Amount.{Amount}
use Rattle.mdmp_lister.specs.declared.sink.Stopped.{Stopped}
use Rattle.mdmp_lister.specs.Fault.{IsOfStore, IsUnobtained}
use Rattle.mdmp_lister.specs.Format.Listing.{Run}
use Rattle.mdmp_lister.specs.Format.Summary.{summary_kind, summary_of}
use Rattle.mdmp_lister.specs.Lister.{ListerState}
use Rattle.mdmp_lister.specs.NamesFetched.{FetchesNames}
use Rattle.mdmp_lister.specs.Sink.{give_all}
use Rattle.mdmp_summary.specs.BadEntries.{all_items}
use Rattle.mdmp_summary.specs.Walking.{IsLookFault, IsPassFault, IsSameListing}
use Rattle.mdmp_summary.specs.declared.visiting.VisitEnd.{VisitEnd}
use Rattle.mdmp_summary.specs.declared.visiting.VisitEnd.TheVariants as ends
use Rattle.mdmp_summary.specs.declared.visiting.VisitFault.{VisitFault}
use Rattle.mdmp_summary.specs.declared.visiting.VisitFault.TheVariants as faults

-- ---- why it ends

-- the store failed since
abbrev pub IsEndTold : SourceState → SourceState → VisitEnd → Type 0
IsEndTold old new ends.Stopped = Unit {0}
IsEndTold old new (ends.Source fault) = IsTold fault old new

-- it is the store that failed
abbrev pub IsUnreadEnd : VisitEnd → Type 0
IsUnreadEnd ends.Stopped = ⊥
IsUnreadEnd (ends.Source fault) = Unit {0}

abbrev pub IsUnreadVisit : VisitFault → Type 0
IsUnreadVisit (faults.List fault) = IsOfStore fault.kind
IsUnreadVisit (faults.Ended end) = IsUnreadEnd end

-- the error of a look, which may be one of the file
abbrev pub IsRestFault : ListerState → ListerState → VisitFault → Type 0
IsRestFault old new (faults.List fault) = IsLookFault old new fault
IsRestFault old new (faults.Ended end) = IsEndTold old.source new.source end

-- the error of a pass: bytes were not read, or the visitor stopped. It has its cause in this call
abbrev pub IsVisitFault : ListerState → ListerState → VisitFault → Type 0
IsVisitFault old new (faults.List fault) = IsPassFault old new fault
IsVisitFault old new (faults.Ended end) = IsEndTold old.source new.source end

-- ---- what a visitor was shown

module _ {K : Type 0} (taken : K → Item → Result (Unit {0}) Stopped → K → Type 0) (looked : K → Result (Unit {0}) VisitEnd → K → Type 0) where
  -- an item was taken, and what it asks for was read
  abbrev pub Visited : K → Item → K → Type 0
  Visited k x l = (m : K) × (taken k x (Ok tt) m × looked m (Ok tt) l)

  -- it ended at an item, as this was taken or as its bytes were read
  abbrev pub EndedAt : K → Item → VisitEnd → K → Type 0
  EndedAt k x ends.Stopped l = taken k x (Err (record {})) l ⊎ ((m : K) × (taken k x (Ok tt) m × looked m (Err ends.Stopped) l))
  EndedAt k x (ends.Source fault) l = (m : K) × (taken k x (Ok tt) m × looked m (Err (ends.Source fault)) l)

  -- all of these were visited
  abbrev pub VisitedAll : K → List Item → K → Type 0
  VisitedAll k [] l = l ≡ k
  VisitedAll k (x ∷ xs) l = (m : K) × (Visited k x m × VisitedAll m xs l)

  -- all of these, and at the last it ended
  pub record EndedAmong (end : VisitEnd) (k : K) (xs : List Item) (l : K) : Type 0 where
    pub before : List Item
    pub last : Item
    pub is : xs ≡ before ++ last ∷ []
    pub mid : K
    pub visited : VisitedAll k before mid
    pub ended : EndedAt mid last end l

  abbrev pub VisitedTo : {T : Type 0} → K → List Item → Result T VisitFault → K → Type 0
  VisitedTo k xs (Ok done) l = VisitedAll k xs l
  VisitedTo k xs (Err (faults.List fault)) l = VisitedAll k xs l
  VisitedTo k xs (Err (faults.Ended end)) l = EndedAmong end k xs l

-- ---- records that it has no use for

-- the item is a record of this kind; a range is one of either kind of memory list
abbrev pub IsOfKind : StreamKind → Item → Type 0
IsOfKind kind x = (summary_of x).kind ≡ Some (summary_kind kind)

-- a visitor that visits a record of this kind is then as it was before, whatever the file
abbrev pub HasNoUse : {K : Type 0} → (K → Item → Result (Unit {0}) Stopped → K → Type 0) → (Option (List ℕ) → ℕ → K → Result (Unit {0}) VisitEnd → K → Type 0) → K → StreamKind → Type 0
HasNoUse taken looked k kind = (content : Option (List ℕ)) (limit : ℕ) (x : Item) → IsOfKind kind x → Visited taken (looked content limit) k x k

-- ---- what it reads outside the listing

abbrev pub nothing_read : Amount
nothing_read = record { bytes = 0; calls = 0 }

-- no more bytes, in no more calls
pub record IsAtMost (less more : Amount) : Type 0 where
  pub bytes : less.bytes ≤ more.bytes
  pub calls : less.calls ≤ more.calls

-- each of these items adds as much as there is room for, or less
pub record RisesOutside (room : Item → Amount) (items : List Item) (old new : Amount) : Type 0 where
  pub bytes : new.bytes ≤ old.bytes + sum_by (λ x. (room x).bytes) items
  pub calls : new.calls ≤ old.calls + sum_by (λ x. (room x).calls) items

-- ---- a visitor that takes every item, and reads nothing

abbrev pub TakesBy : {K : Type 0} → (K → Item → K) → K → Item → Result (Unit {0}) Stopped → K → Type 0
TakesBy next old x result new = (result ≡ Ok tt) × (new ≡ next old x)

abbrev pub ReadsNothing : {K : Type 0} → Option (List ℕ) → ℕ → K → Result (Unit {0}) VisitEnd → K → Type 0
ReadsNothing content limit old result new = (result ≡ Ok tt) × (new ≡ old)

-- ---- a look

-- what was left is these items and then the end or this error, unless bytes were not read or the visitor ended it; then they
-- are the first of what was left
abbrev pub ShowsOf : Run → List Item → Result (Unit {0}) VisitFault → Type 0
ShowsOf left items (Ok done) = left ≡ record { items = items; fault = None }
ShowsOf left items (Err (faults.List f)) = ((rest : Run) × (left ≡ give_all items rest)) × ((IsUnobtained f.kind → ⊥) → left ≡ record { items = items; fault = Some f })
ShowsOf left items (Err (faults.Ended end)) = (rest : Run) × (left ≡ give_all items rest)

pub record Shows {K : Type 0} (taken : K → Item → Result (Unit {0}) Stopped → K → Type 0) (looked : Option (List ℕ) → ℕ → K → Result (Unit {0}) VisitEnd → K → Type 0)
    (room : Item → Amount) (old : ListerState) (k : K) (result : Result (Unit {0}) VisitFault) (new : ListerState) (l : K) : Type 0 where
  pub items : List Item
  pub visited : VisitedTo taken (looked old.source.store.content old.limit) k items result l
  pub all : (left : Run) → old.left ≡ Some left → ShowsOf left items result
  pub outside : RisesOutside room items old.counts.aside new.counts.aside
  pub named : FetchesNames 1 items old.counts.fetched new.counts.fetched

-- the end or an error of the listing stays
abbrev pub StopsAt : Result (Unit {0}) VisitFault → ListerState → Type 0
StopsAt (Ok done) new = new.stop ≡ Some None
StopsAt (Err (faults.List f)) new = (new.stop ≡ Some (Some f)) × (f.entry + 1 ≡ new.passed)
StopsAt (Err (faults.Ended end)) new = Unit {0}

-- what it leaves: the same listing of the same file
pub record EndsShow (old : ListerState) (result : Result (Unit {0}) VisitFault) (new : ListerState) : Type 0 where
  pub same : IsSameListing old new
  pub stops : StopsAt result new

-- ---- a pass

-- these are all items of a file, or the first of them
abbrev pub AreShown : {T : Type 0} → List Item → List Item → Result T VisitFault → Type 0
AreShown all items (Ok done) = all ≡ items
AreShown all items (Err fault) = (rest : List Item) × (all ≡ items ++ rest)

pub record Visits {K T : Type 0} (taken : K → Item → Result (Unit {0}) Stopped → K → Type 0) (looked : Option (List ℕ) → ℕ → K → Result (Unit {0}) VisitEnd → K → Type 0)
    (room : Item → Amount) (old : ListerState) (k : K) (result : Result T VisitFault) (new : ListerState) (l : K) : Type 0 where
  pub items : List Item
  pub visited : VisitedTo taken (looked old.source.store.content old.limit) k items result l
  pub all : (file : List ℕ) → old.source.store.content ≡ Some file → AreShown (all_items file old.limit) items result
  pub outside : RisesOutside room items old.counts.aside new.counts.aside
  pub named : FetchesNames 1 items old.counts.fetched new.counts.fetched
