-- A stream whose records are not read, since a visitor has no use for them and none can have an error.
use Rattle.std.specs.Prelude.{◌≡◌, ◌≤◌, ◌-◌, ◌⊎◌, ℕ, List, Option, None, Some, Result, Err, IsTrue}
use Rattle.std.specs.Option.{option_map}
use Rattle.mdmp_lister.specs.declared.fault.ListFault.{ListFault}
use Rattle.mdmp_lister.specs.declared.item.Item.{Item}
use Rattle.mdmp_lister.specs.declared.item.StreamItem.{StreamItem}
use Rattle.mdmp_lister.specs.declared.kind.StreamKind.{StreamKind}
use Rattle.mdmp_lister.specs.declared.sink.Stopped.{Stopped}
use Rattle.mdmp_lister.specs.Fault.{IsUnobtained}
use Rattle.mdmp_lister.specs.Format.Kind.{kind_of}
use Rattle.mdmp_lister.specs.Format.Listing.{Run, entry_body, joined, listing_from, only_fault}
use Rattle.mdmp_lister.specs.Format.Summary.{summary_of}
use Rattle.mdmp_lister.specs.Lister.{ListerState, listing_behind}
use Rattle.mdmp_lister.specs.Sink.{give_all}
use Rattle.mdmp_lister.specs.Walker.{CountsRecords, WalkerState, is_begun, is_sought}
use Rattle.mdmp_summary.specs.Spending.{next_number}
use Rattle.mdmp_lister.specs.NamesFetched.{FetchesNames}
use Rattle.mdmp_summary.specs.Visiting.{VisitedAll}
use Rattle.mdmp_summary.specs.Walking.{IsSameListing}
use Rattle.mdmp_summary.specs.declared.visiting.VisitEnd.{VisitEnd}

-- the number of the first entry that is not begun
abbrev pub next_in : WalkerState → ℕ
next_in w = next_number w.position w.list.passed

-- nothing is left of an entry: what is left are the entries that are not begun
abbrev pub IsBetween : WalkerState → Type 0
IsBetween w = w.list.left ≡ listing_behind w.list (next_in w)

-- the kind of the records of the stream which an item begins, if they are known
abbrev pub kind_begun : Option StreamItem → Option StreamKind
kind_begun (Some x) = kind_of x.stream_type
kind_begun None = None

abbrev pub begun_kind : Item → Option StreamKind
begun_kind x = kind_begun (summary_of x).stream

-- the records of the entry that was begun last, or its error, and then the entries after it
abbrev pub left_begun : ListerState → List ℕ → Run
left_begun v file = joined (entry_body file v.limit (record { number = v.passed - 1; entry = v.current })) (listing_from file v.choice v.limit v.passed)

-- a stream of this kind was begun, and nothing of it was given
pub record HasBegun (w : WalkerState) (kind : StreamKind) : Type 0 where
  pub begun : IsTrue (is_begun w)
  pub kind_is : kind_of w.list.current.stream_type ≡ Some kind
  pub left : w.list.left ≡ option_map (left_begun w.list) w.list.source.store.content

-- the listing stands in the same entry, and no error follows what was counted since that began
pub record StaysInEntry (old new : WalkerState) : Type 0 where
  pub same : IsSameListing old.list new.list
  pub going : new.list.stop ≡ None
  pub current : new.list.current ≡ old.list.current
  pub next : next_in new ≡ next_in old
  pub sought : is_sought new ≡ is_sought old
  pub mark : new.mark ≡ old.mark
  pub aside : new.list.counts.aside ≡ old.list.counts.aside
  pub names : new.list.counts.names ≡ old.list.counts.names
  pub rests : new.list.work ≤ old.list.work

-- the first items that were left were passed over: if a visitor had visited them it would be as it is
pub record PassesOver {K : Type 0} (taken : K → Item → Result (Unit {0}) Stopped → K → Type 0) (looked : Option (List ℕ) → ℕ → K → Result (Unit {0}) VisitEnd → K → Type 0)
    (k : K) (old new : WalkerState) : Type 0 where
  pub items : List Item
  pub unused : (content : Option (List ℕ)) (limit : ℕ) → VisitedAll taken (looked content limit) k items k
  -- they have no names
  pub named : FetchesNames 1 items old.list.counts.fetched new.list.counts.fetched
  pub left : (left : Run) → old.list.left ≡ Some left → (rest : Run) × ((new.list.left ≡ Some rest) × (left ≡ give_all items rest))
  -- none, or all of the entry
  pub follows : (new.list.left ≡ old.list.left) ⊎ IsBetween new
  pub stays : StaysInEntry old new

-- the head of the stream has an error, which is then all that was left, or was not read
pub record MeetsHead (old : WalkerState) (f : ListFault) (new : WalkerState) : Type 0 where
  pub left : (left : Run) → old.list.left ≡ Some left → (IsUnobtained f.kind → ⊥) → left ≡ only_fault f
  pub counted : CountsRecords old (Err f) new
