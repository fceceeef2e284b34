-- Requests for the next item, one after the other, each within the budget.
use Rattle.std.specs.Prelude.{◌≡◌, ℕ, List, [], ◌∷◌, Option, None, Some, Result, Ok, Err}
use Rattle.mdmp_source.specs.Source.{FetchesAtMost, SourceState}
use Rattle.mdmp_lister.specs.declared.choice.Choice.{Choice}
use Rattle.mdmp_lister.specs.declared.fault.ListFault.{ListFault}
use Rattle.mdmp_lister.specs.declared.item.Item.{Item}
use Rattle.mdmp_lister.specs.declared.limits.Limits.{Limits}
use Rattle.mdmp_lister.specs.declared.sink.RunFault.{RunFault}
use Rattle.mdmp_lister.specs.declared.sink.RunFault.TheVariants as run
use Rattle.mdmp_lister.specs.Format.Item.{plain}
use Rattle.mdmp_lister.specs.Format.Listing.{Run, listing}
use Rattle.mdmp_lister.specs.Lister.{Gives, IsNewLister, ListerLeaves, ListerState}
use Rattle.mdmp_lister.specs.Meter.{SpendsAside}

-- nothing was asked for in between, and at most so much was read aside
pub record OnlyReadsAside (old new : ListerState) : Type 0 where
  pub calls : ℕ
  pub bytes : ℕ
  pub same : new ≡ record old { source = new.source; counts = new.counts }
  pub aside : SpendsAside calls bytes old.counts new.counts
  pub fetches : FetchesAtMost bytes old.source new.source

-- a request was answered so: what was fetched for it is just what an item costs, it is within the budget, and over a known file the
-- answer is the first of what was left
pub record AnswersRequest (old : ListerState) (answer : Result (Option Item) ListFault) (new : ListerState) : Type 0 where
  pub leaves : ListerLeaves old answer new
  pub gives : (left : Run) → old.left ≡ Some left → Gives left answer

-- with this item, wherever its name was lent from
pub record IsRequested (old : ListerState) (x : Item) (new : ListerState) : Type 0 where
  pub given : Item
  pub is : x ≡ plain given
  pub answers : AnswersRequest old (Ok (Some given)) new

-- these items were given by requests for the next one, one after the other
abbrev pub AreRequested : ListerState → List Item → ListerState → Type 0
AreRequested u [] v = OnlyReadsAside u v
AreRequested u (x ∷ xs) v = (b : ListerState) × (OnlyReadsAside u b × ((m : ListerState) × (IsRequested b x m × AreRequested m xs v)))

-- an answer that is no item: the end, or a fault
abbrev pub TellsNoItem : Result (Option Item) ListFault → Type 0
TellsNoItem (Ok (Some x)) = ⊥
TellsNoItem answer = Unit {0}

-- no more was asked for behind some requests, or one more, which was answered with the end or a fault
pub data EndsRequests (u v : ListerState) : Type 0 where
  stops_asking : v ≡ u → EndsRequests u v
  asks_in_vain : (answer : Result (Option Item) ListFault) → TellsNoItem answer → AnswersRequest u answer v → EndsRequests u v

-- a run ended so by its last request, which a sink that stops does not make
abbrev pub EndsRunBy : ListerState → Result (Unit {0}) RunFault → ListerState → Type 0
EndsRunBy u (Ok done) v = AnswersRequest u (Ok None) v
EndsRunBy u (Err (run.At f)) v = AnswersRequest u (Err f) v
EndsRunBy u (Err run.Stopped) v = v ≡ u

-- a run gave these items by requests, and its last one ended it so
pub record RunRequests (old : ListerState) (items : List Item) (result : Result (Unit {0}) RunFault) (new : ListerState) : Type 0 where
  pub behind : ListerState
  pub requested : AreRequested old items behind
  pub ended : EndsRunBy behind result new

-- some items were given by requests, behind the last of which maybe one was made in vain; then it may have read aside
pub record GivesByRequests (old : ListerState) (items : List Item) (new : ListerState) : Type 0 where
  pub behind : ListerState
  pub stopped : ListerState
  pub requested : AreRequested old items behind
  pub ended : EndsRequests behind stopped
  pub aside : OnlyReadsAside stopped new

-- a lister that was opened over this file by these limits gave the items of the listing by requests, each within the budget
pub record IsListedWithin (limits : Limits) (F : List ℕ) (choice : Choice) : Type 0 where
  pub source : SourceState
  pub known : source.store.content ≡ Some F
  pub opened : ListerState
  pub is_new : IsNewLister source choice limits opened
  pub last : ListerState
  pub given : GivesByRequests opened (listing F choice limits.name).items last
