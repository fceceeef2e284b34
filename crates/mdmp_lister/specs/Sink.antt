-- What a run hands to a sink.
use Rattle.std.specs.Prelude.{◌≡◌, ◌≤◌, ◌<◌, ◌+◌, ◌-◌, ◌⊎◌, sum_by, ℕ, List, [], ◌∷◌, ◌++◌, None, Some, Result, Ok, Err}
use Rattle.mdmp_source.specs.Source.{FetchesAtMost}
use Rattle.mdmp_wire.specs.declared.entry.Entry.{Entry}
use Rattle.mdmp_lister.specs.declared.choice.Choice.{Choice}
use Rattle.mdmp_lister.specs.declared.fault.ListFault.{ListFault}
use Rattle.mdmp_lister.specs.declared.item.Item.{Item}
use Rattle.mdmp_lister.specs.declared.step.Step.{Step}
use Rattle.mdmp_lister.specs.declared.sink.RunFault.{RunFault}
use Rattle.mdmp_lister.specs.declared.sink.RunFault.TheVariants as run
use Rattle.mdmp_lister.specs.declared.sink.Stopped.{Stopped}
use Rattle.mdmp_lister.specs.Format.Classes.{IsClassed}
use Rattle.mdmp_lister.specs.Costs.{end_cost, items_cost}
use Rattle.mdmp_lister.specs.Format.Numbers.{faulty_name, maybe_name, names_of}
use Rattle.mdmp_lister.specs.Lister.{ListerState, current_after, cursor_in, passed_after, standpoint_in}
use Rattle.mdmp_lister.specs.Format.Listing.{Run, nothing, only_fault}
use Rattle.mdmp_lister.specs.Format.Ranges.{ranges_of}
use Rattle.mdmp_lister.specs.Fault.{IsUnobtained}
use Rattle.mdmp_lister.specs.Following.{Cursor, Follows}
use Rattle.mdmp_lister.specs.NextFetch.{TellsSomeFetch}
use Rattle.mdmp_lister.specs.Requested.{RunRequests}
use Rattle.mdmp_lister.specs.Step.{TellsItem}

-- these items, and then a run
abbrev pub give_all : List Item → Run → Run
give_all xs left = record { items = xs ++ left.items; fault = left.fault }

-- xs were given of what was left, and the rest is left: nothing at the end of the listing, and at a fault that fault
-- alone, which was next unless it is one of bytes that were not obtained, which can stand anywhere
abbrev pub GivesAll : Run → List Item → Result (Unit {0}) RunFault → Run → Type 0
GivesAll old xs (Ok done) new = (old ≡ give_all xs nothing) × (new ≡ nothing)
GivesAll old xs (Err run.Stopped) new = old ≡ give_all xs new
GivesAll old xs (Err (run.At f)) new =
    ((rest : Run) × (old ≡ give_all xs rest)) × (((IsUnobtained f.kind → ⊥) → old ≡ give_all xs (only_fault f)) × (new ≡ only_fault f))

-- the number of the first entry behind the current one, once these items were given
abbrev pub passed_behind : List Item → ℕ → ℕ
passed_behind [] next = next
passed_behind (x ∷ xs) next = passed_behind xs (passed_after x next)

-- the same behind a run; nothing is said of its end, behind which no entry is skipped
abbrev pub PassesAll : List Item → Result (Unit {0}) RunFault → ℕ → ℕ → Type 0
PassesAll xs (Ok done) old new = Unit {0}
PassesAll xs (Err fault) old new = new ≡ passed_behind xs old

-- the entry whose Stream item was given last, once these items were given
abbrev pub current_behind : List Item → Entry → Entry
current_behind [] e = e
current_behind (x ∷ xs) e = current_behind xs (current_after x e)

-- what these items name is classed, of each in the entry that it stands in, in a file of z bytes
abbrev pub AllClassed : ℕ → Entry → List Item → Type 0
AllClassed z e [] = Unit {0}
AllClassed z e (x ∷ xs) = IsClassed z (current_after x e) x × AllClassed z (current_after x e) xs

-- how many names some items have
abbrev pub names_of_all : List Item → ℕ
names_of_all xs = sum_by names_of xs

-- those names were reached, and at a fault maybe one more
abbrev pub NamesAll : List Item → Result (Unit {0}) RunFault → ℕ → ℕ → Type 0
NamesAll xs (Err (run.At f)) old new = (old + names_of_all xs ≤ new) × (new ≤ old + names_of_all xs + 1)
NamesAll xs result old new = new ≡ old + names_of_all xs

-- and at a fault that is first answered that of a name, or maybe one where bytes were not obtained
abbrev pub NamesAtEnd : List Item → Result (Unit {0}) RunFault → ℕ → ℕ → Type 0
NamesAtEnd xs (Err (run.At f)) old new = (old + names_of_all xs + faulty_name f.kind ≤ new) × (new ≤ old + names_of_all xs + maybe_name f.kind)
NamesAtEnd xs result old new = Unit {0}

module _ (choice : Choice) (entries : List Entry) (z limit : ℕ) where
  -- an item may come next, as it was read, whatever the file holds
  pub record ComesNext (c : Cursor) (x : Item) (d : Cursor) : Type 0 where
    pub read : Step
    pub told : TellsItem z read x
    pub follows : Follows choice entries z limit c (Ok (Some read)) d

  -- these items may come one after the other
  abbrev pub ComeNext : Cursor → List Item → Cursor → Type 0
  ComeNext c [] d = d ≡ c
  ComeNext c (x ∷ xs) d = (m : Cursor) × (ComesNext c x m × ComeNext m xs d)

  -- a run may end so
  abbrev pub EndsNext : Cursor → Result (Unit {0}) RunFault → Cursor → Type 0
  EndsNext c (Ok done) d = Follows choice entries z limit c (Ok None) d
  EndsNext c (Err (run.At f)) d = Follows choice entries z limit c (Err f) d
  EndsNext c (Err run.Stopped) d = d ≡ c

  -- these items may be given, and then a run end so, whatever the file holds
  pub record RunFollows (c : Cursor) (xs : List Item) (result : Result (Unit {0}) RunFault) (d : Cursor) : Type 0 where
    pub behind : Cursor
    pub come : ComeNext c xs behind
    pub ends : EndsNext behind result d

module _ {K X : Type 0} (step : K → X → Result (Unit {0}) Stopped → K → Type 0) where
  -- the sink took all of xs
  abbrev pub Taken : K → List X → K → Type 0
  Taken k [] new = new ≡ k
  Taken k (x ∷ xs) new = (m : K) × (step k x (Ok tt) m × Taken m xs new)

  -- the sink took all of xs, and at the last it stopped
  abbrev pub TakenToStop : K → List X → K → Type 0
  TakenToStop k [] new = ⊥
  TakenToStop k (x ∷ xs) new = (xs ≡ [] × step k x (Err (record {})) new) ⊎ ((m : K) × (step k x (Ok tt) m × TakenToStop m xs new))

  -- the sink was handed xs
  abbrev pub Handed : K → List X → Result (Unit {0}) RunFault → K → Type 0
  Handed k xs (Ok done) new = Taken k xs new
  Handed k xs (Err (run.At f)) new = Taken k xs new
  Handed k xs (Err run.Stopped) new = TakenToStop k xs new

-- a run that ends by its budget tells a fetch that came next in the entry that is the current one then
abbrev pub TellsRunFetch : Result (Unit {0}) RunFault → ListerState → Type 0
TellsRunFetch (Err (run.At f)) new = TellsSomeFetch (standpoint_in new) f.kind f.offset f.size new.counts.fetched
TellsRunFetch result new = Unit {0}

-- what a run leaves: a sink was handed some items, and the lister has given them
pub record RunLeaves {K : Type 0} (step : K → Item → Result (Unit {0}) Stopped → K → Type 0) (old : ListerState) (k : K) (result : Result (Unit {0}) RunFault) (new : ListerState) (l : K) : Type 0 where
  pub items : List Item
  pub handed : Handed step k items result l
  pub passed : PassesAll items result old.passed new.passed
  pub current : new.current ≡ current_behind items old.current
  pub classed : AllClassed old.source.size old.current items
  pub ranges : new.ranges ≡ old.ranges ++ ranges_of items
  pub left : (left : Run) → old.left ≡ Some left → (rest : Run) × ((new.left ≡ Some rest) × GivesAll left items result rest)
  pub names : NamesAll items result old.counts.names new.counts.names
  pub names_at_end : old.stop ≡ None → NamesAtEnd items result old.counts.names new.counts.names
  -- what came off the unread bytes of streams, and names
  pub fetches : FetchesAtMost (old.unread + items_cost old.source.size items + end_cost old.limit result - new.unread) old.source new.source
  pub unread : new.unread ≤ old.unread + items_cost old.source.size items
  pub follows : old.stop ≡ None → RunFollows old.choice old.entries old.source.size old.limit (cursor_in old) items result (cursor_in new)
  pub next : old.stop ≡ None → TellsRunFetch result new
  -- each item was given by a request, within the budget
  pub requests : RunRequests old items result new

-- a run leaves no more to do than was, and less where it gave an item and the sink then stopped
pub record WorkFalls (result : Result (Unit {0}) RunFault) (old new : ListerState) : Type 0 where
  pub rests : new.work ≤ old.work
  pub falls : result ≡ Err run.Stopped → new.work < old.work

-- ---- a run for the ranges alone

abbrev pub run_answer : Result (Unit {0}) ListFault → Result (Unit {0}) RunFault
run_answer (Ok done) = Ok done
run_answer (Err f) = Err (run.At f)

-- some items may be given, whatever the file holds, and then the run end so; their ranges inside the file were kept, and a
-- fault that tells the budget is of the fetch that came next
pub record RangesFollow (old : ListerState) (result : Result (Unit {0}) ListFault) (new : ListerState) : Type 0 where
  pub items : List Item
  pub ranges : new.ranges ≡ old.ranges ++ ranges_of items
  pub follows : RunFollows old.choice old.entries old.source.size old.limit (cursor_in old) items (run_answer result) (cursor_in new)
  pub next : TellsRunFetch (run_answer result) new
  pub requests : RunRequests old items (run_answer result) new
