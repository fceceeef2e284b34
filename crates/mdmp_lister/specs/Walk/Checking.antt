-- What a check reads of a walk, entry by entry.
use Rattle.std.specs.Prelude.{◌≡◌, ◌≤◌, ◌<◌, ◌+◌, ◌-◌, ℕ, List, [], ◌∷◌, ◌++◌, map, Bool, true, false, Option, None, Some, Result, Ok, Err, All, IfErr, IfOk, slice_get}
use Rattle.mdmp_source.specs.Source.{FetchesAtMost}
use Rattle.mdmp_source.specs.Store.{IsGood}
use Rattle.mdmp_map.specs.Map.{MapState}
use Rattle.mdmp_lister.specs.declared.fault.FaultKind.{FaultKind}
use Rattle.mdmp_lister.specs.declared.fault.FaultKind.TheVariants.{Source, Budget}
use Rattle.mdmp_lister.specs.declared.fault.ListFault.{ListFault}
use Rattle.mdmp_lister.specs.declared.item.Item.{Item}
use Rattle.mdmp_lister.specs.declared.sink.RunFault.{RunFault}
use Rattle.mdmp_lister.specs.declared.sink.RunFault.TheVariants as run
use Rattle.mdmp_lister.specs.declared.sink.Stopped.{Stopped}
use Rattle.mdmp_lister.specs.declared.stage.Stage.{Stage}
use Rattle.mdmp_lister.specs.declared.stage.Stage.TheVariants.{Between, Ended, Head}
use Rattle.mdmp_lister.specs.declared.step.Step.{Step}
use Rattle.mdmp_lister.specs.declared.verdict.Verdict.{Verdict}
use Rattle.mdmp_lister.specs.declared.walk.Walk.{Walk}
use Rattle.mdmp_lister.specs.Check.{AreNextVerdicts, EndsBefore, EndsBehind, IsVerdict, MayBeJudged, PassesJudged, behind_judged, check_cost, fault_cost, items_of, names_at, names_at_end, names_judged}
use Rattle.mdmp_wire.specs.declared.entry.Entry.{Entry}
use Rattle.mdmp_lister.specs.declared.choice.Choice.{Choice}
use Rattle.mdmp_lister.specs.Costs.{HasCost, bad_name_cost, end_cost, items_cost}
use Rattle.mdmp_lister.specs.Fault.{IsOfStore, IsToldIn, IsUnobtained}
use Rattle.mdmp_lister.specs.Following.{Cursor, IsChosenBehind, IsReadOn, NoneChosenBehind}
use Rattle.mdmp_lister.specs.Format.Listing.{Numbered, Run, chosen_from, entry_listing, with_item}
use Rattle.mdmp_lister.specs.Format.Numbers.{maybe_name}
use Rattle.mdmp_lister.specs.Format.Ranges.{ranges_of}
use Rattle.mdmp_lister.specs.Meter.{Moves, counts_of}
use Rattle.mdmp_lister.specs.NamesFetched.{FetchesNames}
use Rattle.mdmp_lister.specs.NextFetch.{TellsSomeFetch}
use Rattle.mdmp_lister.specs.Sink.{ComeNext, Handed, give_all, names_of_all}
use Rattle.mdmp_lister.specs.Stage.{ends, fault_stage}
use Rattle.mdmp_lister.specs.Step.{step_item}
use Rattle.mdmp_lister.specs.Walk.{IsListing, IsThrough, SameEntry, SameRoom, current_of, cursor_of, work_of}
use Rattle.mdmp_lister.specs.Walk.Mapping.{IsMapped}
use Rattle.mdmp_lister.specs.Walk.Paying.{unread_bytes}
use Rattle.mdmp_lister.specs.Walk.Requests.{Answered, StepTaken, standpoint_of}

-- these items may come next, and then the head of the stream is read, or nothing is
pub record MayCome (choice : Choice) (entries : List Entry) (z limit : ℕ) (c : Cursor) (xs : List Item) (d : Cursor) : Type 0 where
  pub behind : Cursor
  pub come : ComeNext choice entries z limit c xs behind
  pub reads : IsReadOn z behind d

-- the verdict on an entry
abbrev pub verdict_on : List ℕ → ℕ → Numbered → Verdict
verdict_on F limit x = record { entry = x.number; fault = (entry_listing F limit x).fault }

-- a fault of the file is what an entry is judged to have; one of bytes that were not obtained ends a check
abbrev pub judged_by : FaultKind → ListFault → Result (Option ListFault) ListFault
judged_by (Source fault) f = Err f
judged_by Budget f = Err f
judged_by kind f = Ok (Some f)

-- what is left of an entry begins with these items, and its fault is this one or none, unless bytes were not obtained
abbrev pub IsJudged : Run → List Item → Result (Option ListFault) ListFault → Type 0
IsJudged left items (Ok fault) = left ≡ record { items = items; fault = fault }
IsJudged left items (Err f) = (more : List Item) × (left.items ≡ items ++ more)

-- the names that the fault of an entry reached at least, and at most
abbrev pub least_names : Result (Option ListFault) ListFault → ℕ
least_names (Ok fault) = names_at fault
least_names (Err f) = 0

abbrev pub most_names : Result (Option ListFault) ListFault → ℕ
most_names (Ok fault) = names_at fault
most_names (Err f) = maybe_name f.kind

-- and at most the bytes of its name
abbrev pub judged_cost : ℕ → Result (Option ListFault) ListFault → ℕ
judged_cost limit (Ok fault) = fault_cost limit fault
judged_cost limit (Err f) = bad_name_cost limit f.kind

-- the stage behind a check
abbrev pub IsStageChecked : Result (Unit {0}) RunFault → Stage → Type 0
IsStageChecked (Ok done) stage = stage ≡ Ended
IsStageChecked (Err run.Stopped) stage = stage ≡ Between
IsStageChecked (Err (run.At f)) stage = stage ≡ fault_stage f

-- the first of these entries were judged so, and these items were read
pub record JudgesFirst (F : List ℕ) (limit : ℕ) (entries : List Numbered) (verdicts : List Verdict) (items : List Item) (result : Result (Unit {0}) RunFault) : Type 0 where
  pub judged : List Numbered
  pub left : List Numbered
  pub in_order : entries ≡ judged ++ left
  pub verdicts_are : verdicts ≡ map (verdict_on F limit) judged
  pub begun : List Item
  pub items_are : items ≡ items_of F limit judged ++ begun
  pub ends : EndsBefore F limit left begun result

module _ {S A : Type 0} where
  -- ---- entries and records

  -- the next chosen entry was begun
  pub record EntryBegun (old new : Walk S A) : Type 0 where
    pub stage : new.stage ≡ Head
    pub meter : new.meter ≡ old.meter
    pub entry : slice_get new.entries.items (new.next - 1) ≡ Some new.current
    pub chosen : IsChosenBehind old.choice old.entries.items old.next (new.next - 1) new.current
    pub first : (file : List ℕ) → old.meter.source.store.content ≡ Some file
        → chosen_from file old.choice old.next ≡ record { number = new.next - 1; entry = new.current } ∷ chosen_from file old.choice new.next

  -- or there is none
  pub record NoneLeft (old new : Walk S A) : Type 0 where
    pub stage : new.stage ≡ Ended
    pub meter : new.meter ≡ old.meter
    pub none_chosen : NoneChosenBehind old.choice old.entries.items old.next
    pub none : (file : List ℕ) → old.meter.source.store.content ≡ Some file → chosen_from file old.choice old.next ≡ []

  -- a record of the current entry was given, and the rest of the entry is left
  pub record RecordGiven (old : Walk S A) (step : Step) (new : Walk S A) : Type 0 where
    pub same : SameEntry old new
    pub stage : IsListing new.stage
    pub left : (file : List ℕ) → old.meter.source.store.content ≡ Some file
        → current_of old file ≡ with_item (step_item old.meter.source.size new.name.items step) (current_of new file)

  -- a record was read, or a fault stands in its place
  abbrev pub RecordWasRead : Walk S A → Result Step ListFault → Walk S A → Type 0
  RecordWasRead old (Ok step) new = StepTaken old (Ok (Some step)) new × RecordGiven old step new
  RecordWasRead old (Err f) new = StepTaken old (Err f) new

  -- the next record of the current entry was read, or none is left
  abbrev pub RecordTaken : Walk S A → Result (Option Step) ListFault → Walk S A → Type 0
  RecordTaken old (Ok None) new = (new ≡ old) × IsThrough old.stage
  RecordTaken old (Ok (Some step)) new = RecordWasRead old (Ok step) new
  RecordTaken old (Err f) new = RecordWasRead old (Err f) new

  -- ---- what is read of the current entry, beside the map

  -- these items were read
  pub record ItemsRead (items : List Item) (old : Walk S A) (m : MapState) (new : Walk S A) (n : MapState) : Type 0 where
    pub mapped : IsMapped new n
    pub same : SameEntry old new
    pub ranges : n ≡ record m { ranges = m.ranges ++ ranges_of items }
    pub left : (file : List ℕ) → old.meter.source.store.content ≡ Some file → current_of old file ≡ give_all items (current_of new file)
    pub counts : Moves (names_of_all items) (counts_of old.meter) (counts_of new.meter)
    pub names : old.meter.names + names_of_all items ≤ new.meter.names
    pub named : FetchesNames 1 items old.meter.fetched new.meter.fetched
    pub cost : HasCost (unread_bytes old) old.meter.source items (unread_bytes new) new.meter.source
    pub rests : work_of new ≤ work_of old
    pub may : MayCome old.choice old.entries.items old.meter.source.size old.name.limit (cursor_of old) items (cursor_of new)

  -- a fault was met, and nothing was read
  pub record FaultRead (old : Walk S A) (m : MapState) (f : ListFault) (new : Walk S A) (n : MapState) : Type 0 where
    pub answered : Answered old (Err f) new
    pub mapped : IsMapped new m
    pub same : n ≡ m

  -- one item was read, or none is left, or a fault was met
  pub record OneRead (old : Walk S A) (m : MapState) (new : Walk S A) (n : MapState) : Type 0 where
    pub item : Item
    pub read : ItemsRead (item ∷ []) old m new n
    pub stage : IsListing new.stage
    pub falls : work_of new < work_of old

  abbrev pub NextRead : Walk S A → MapState → Result Bool ListFault → Walk S A → MapState → Type 0
  NextRead old m (Ok true) new n = OneRead old m new n
  NextRead old m (Ok false) new n = (new ≡ old) × ((n ≡ m) × IsThrough old.stage)
  NextRead old m (Err f) new n = FaultRead old m f new n

  -- ---- entries judged

  -- bytes were not obtained in the current entry
  pub record FailedIn (old : Walk S A) (f : ListFault) (new : Walk S A) : Type 0 where
    pub of : IsUnobtained f.kind
    pub stage : new.stage ≡ fault_stage f
    pub told : IsToldIn new.current f old.meter.source new.meter.source
    pub number : f.entry + 1 ≡ new.next
    -- one that tells the budget is of a fetch that came next in it
    pub next : TellsSomeFetch (standpoint_of new) f.kind f.offset f.size new.meter.fetched
    pub unreliable : (file : List ℕ) → IsGood old.meter.source.store file → IsOfStore f.kind → ⊥

  abbrev pub JudgeEnds : Walk S A → Result (Option ListFault) ListFault → Walk S A → Type 0
  JudgeEnds old (Ok fault) new = (ends new.stage ≡ false) × IsVerdict (record { entry = new.next - 1; fault = fault })
  JudgeEnds old (Err f) new = FailedIn old f new

  -- the current entry was read to its end or to its fault, or bytes were not obtained
  pub record EntryJudged (old : Walk S A) (m : MapState) (result : Result (Option ListFault) ListFault) (new : Walk S A) (n : MapState) : Type 0 where
    pub items : List Item
    pub mapped : IsMapped new n
    pub same : SameEntry old new
    pub ranges : n ≡ record m { ranges = m.ranges ++ ranges_of items }
    pub left : (file : List ℕ) → old.meter.source.store.content ≡ Some file → IsJudged (current_of old file) items result
    pub counts : Moves (names_of_all items + most_names result) (counts_of old.meter) (counts_of new.meter)
    pub names : old.meter.names + (names_of_all items + least_names result) ≤ new.meter.names
    pub named : FetchesNames 1 items old.meter.fetched new.meter.fetched
    pub fetches : FetchesAtMost (unread_bytes old + items_cost old.meter.source.size items + judged_cost old.name.limit result) old.meter.source new.meter.source
    pub at_end : JudgeEnds old result new
    pub rests : work_of new ≤ work_of old
    -- so it may be judged, whatever the file holds
    pub may : IfOk result (MayBeJudged old.choice old.entries.items old.meter.source.size old.name.limit (cursor_of old))

  -- the entries behind the current one were judged, and the sink was handed the verdicts on them
  pub record EntriesChecked {K : Type 0} (step : K → Verdict → Result (Unit {0}) Stopped → K → Type 0) (old : Walk S A) (m : MapState) (k : K)
      (result : Result (Unit {0}) RunFault) (new : Walk S A) (n : MapState) (l : K) : Type 0 where
    pub verdicts : List Verdict
    pub items : List Item
    pub handed : Handed step k verdicts result l
    pub each : All IsVerdict verdicts
    pub of_file : (file : List ℕ) → old.meter.source.store.content ≡ Some file
        → JudgesFirst file old.name.limit (chosen_from file old.choice old.next) verdicts items result
    pub mapped : IsMapped new n
    pub same : SameRoom old new
    pub ranges : n ≡ record m { ranges = m.ranges ++ ranges_of items }
    pub stage : IsStageChecked result new.stage
    pub passed : PassesJudged verdicts result old.next new.next
    pub current : IfErr result (λ _. slice_get old.entries.items (new.next - 1) ≡ Some new.current)
    pub counts : Moves (names_judged items verdicts + names_at_end result) (counts_of old.meter) (counts_of new.meter)
    pub names : old.meter.names + names_judged items verdicts ≤ new.meter.names
    pub named : FetchesNames 1 items old.meter.fetched new.meter.fetched
    pub fetches : FetchesAtMost (check_cost old.meter.source.size old.name.limit items verdicts + end_cost old.name.limit result) old.meter.source new.meter.source
    pub failed : IfErr result (λ r. (f : ListFault) → r ≡ run.At f → FailedIn old f new)
    pub rests : work_of new ≤ work_of old
    pub follow : AreNextVerdicts old.choice old.entries.items old.meter.source.size old.name.limit old.next verdicts
    pub ends : EndsBehind old.choice old.entries.items old.meter.source.size old.name.limit (behind_judged verdicts old.next) result
