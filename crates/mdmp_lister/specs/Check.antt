-- What a check hands to a sink: the verdicts on the entries, one behind the other.
use Rattle.std.specs.Prelude.{◌≡◌, ◌≤◌, ◌+◌, ◌-◌, sum_by, ℕ, List, [], ◌∷◌, ◌++◌, flat_map, length, Option, None, Some, Result, Ok, Err, All, IfErr, IfSome, slice_get}
use Rattle.std.specs.Option.{option_map}
use Rattle.mdmp_source.specs.Source.{FetchesAtMost}
use Rattle.mdmp_wire.specs.declared.entry.Entry.{Entry}
use Rattle.mdmp_lister.specs.declared.choice.Choice.{Choice}
use Rattle.mdmp_lister.specs.declared.fault.ListFault.{ListFault}
use Rattle.mdmp_lister.specs.declared.item.Item.{Item}
use Rattle.mdmp_lister.specs.declared.sink.RunFault.{RunFault}
use Rattle.mdmp_lister.specs.declared.sink.RunFault.TheVariants as run
use Rattle.mdmp_lister.specs.declared.sink.Stopped.{Stopped}
use Rattle.mdmp_lister.specs.declared.verdict.Verdict.{Verdict}
use Rattle.mdmp_lister.specs.Costs.{bad_name_cost, end_cost, items_cost}
use Rattle.mdmp_lister.specs.Fault.{IsUnobtained}
use Rattle.mdmp_lister.specs.Following.{Cursor, Follows, IsBegun, IsChosenBehind, NoneChosenBehind, Standing, begun, through, within}
use Rattle.mdmp_lister.specs.Format.Listing.{Numbered, Run, chosen, entry_listing, nothing, only_fault, verdicts}
use Rattle.mdmp_lister.specs.Format.Numbers.{faulty_name, maybe_name}
use Rattle.mdmp_lister.specs.Format.Ranges.{ranges_of}
use Rattle.mdmp_lister.specs.Lister.{IsSameLister, ListerState, listing_behind}
use Rattle.mdmp_lister.specs.Meter.{Moves}
use Rattle.mdmp_lister.specs.NamesFetched.{FetchesNames}
use Rattle.mdmp_lister.specs.Sink.{ComeNext, Handed, TellsRunFetch, names_of_all}
use Rattle.mdmp_lister.specs.Stage.{stop_after_run}

-- the items of some entries, of each those before its fault
abbrev pub items_of : List ℕ → ℕ → List Numbered → List Item
items_of F limit xs = flat_map (λ x. (entry_listing F limit x).items) xs

-- ---- what was judged of a known file

-- bytes were not obtained in the first of these entries, behind these of its items
pub record FailsIn (F : List ℕ) (limit : ℕ) (entries : List Numbered) (items : List Item) (f : ListFault) : Type 0 where
  pub next : Numbered
  pub behind : List Numbered
  pub first : entries ≡ next ∷ behind
  pub entry : f.entry ≡ next.number
  pub more : List Item
  pub begun : (entry_listing F limit next).items ≡ items ++ more

-- how a check ended before these entries, and which items it has read of them: none, but where bytes were not obtained
abbrev pub EndsBefore : List ℕ → ℕ → List Numbered → List Item → Result (Unit {0}) RunFault → Type 0
EndsBefore F limit entries items (Ok done) = (entries ≡ []) × (items ≡ [])
EndsBefore F limit entries items (Err run.Stopped) = items ≡ []
EndsBefore F limit entries items (Err (run.At f)) = FailsIn F limit entries items f

-- the items were read of the first n of these entries
pub record ReadsFirst (F : List ℕ) (limit : ℕ) (entries : List Numbered) (n : ℕ) (items : List Item) (result : Result (Unit {0}) RunFault) : Type 0 where
  pub judged : List Numbered
  pub left : List Numbered
  pub in_order : entries ≡ judged ++ left
  pub count : length judged ≡ n
  pub begun : List Item
  pub items_are : items ≡ items_of F limit judged ++ begun
  pub ends : EndsBefore F limit left begun result

-- the fault of a verdict is of its entry, and none of bytes that were not obtained
abbrev pub IsVerdict : Verdict → Type 0
IsVerdict v = IfSome v.fault (λ f. (f.entry ≡ v.entry) × (IsUnobtained f.kind → ⊥))

-- these verdicts are the first of all, and behind the last entry they are all
abbrev pub AreFirstVerdicts : List Verdict → List Verdict → Result (Unit {0}) RunFault → Type 0
AreFirstVerdicts all vs (Ok done) = all ≡ vs
AreFirstVerdicts all vs (Err fault) = (rest : List Verdict) × (all ≡ vs ++ rest)

-- ---- what was judged of any file

-- no record of the current entry is left
abbrev pub IsAtEnd : Standing → Type 0
IsAtEnd through = Unit {0}
IsAtEnd begun = ⊥
IsAtEnd (within given left offset) = left ≡ 0

-- the same where the head of its stream may not be read yet
pub data IsSpent (z : ℕ) (c : Cursor) : Type 0 where
  read : IsAtEnd c.standing → IsSpent z c
  empty : c.standing ≡ begun → (s : Standing) → IsBegun z c.current (Ok s) → IsAtEnd s → IsSpent z c

module _ (choice : Choice) (entries : List Entry) (z limit : ℕ) where
  -- this fault of an entry may stand there, or none where nothing is left of it
  abbrev pub MayEnd : Cursor → Option ListFault → Type 0
  MayEnd c None = IsSpent z c
  MayEnd c (Some f) = (d : Cursor) × Follows choice entries z limit c (Err f) d

  -- what is left of the current entry may be judged so: some items come next, and then its fault or none
  pub record MayBeJudged (c : Cursor) (fault : Option ListFault) : Type 0 where
    pub items : List Item
    pub behind : Cursor
    pub come : ComeNext choice entries z limit c items behind
    pub ends : MayEnd behind fault

  -- a verdict on the next chosen entry behind number `from`
  pub record IsNextVerdict (from : ℕ) (v : Verdict) : Type 0 where
    pub entry : Entry
    pub first : IsChosenBehind choice entries from v.entry entry
    pub judged : MayBeJudged (record { passed = v.entry + 1; current = entry; standing = begun }) v.fault

  -- verdicts on the chosen entries behind number `from`, one behind the other
  abbrev pub AreNextVerdicts : ℕ → List Verdict → Type 0
  AreNextVerdicts from [] = Unit {0}
  AreNextVerdicts from (v ∷ vs) = IsNextVerdict from v × AreNextVerdicts (v.entry + 1) vs

  -- and then a check ends so: with none left, or where bytes were not obtained in the next one
  abbrev pub EndsBehind : ℕ → Result (Unit {0}) RunFault → Type 0
  EndsBehind from (Ok done) = NoneChosenBehind choice entries from
  EndsBehind from (Err run.Stopped) = Unit {0}
  EndsBehind from (Err (run.At f)) = (e : Entry) × IsChosenBehind choice entries from f.entry e

-- ---- what is left

-- nothing behind the last entry, and a fault of bytes that were not obtained for good; behind a sink that wanted no more,
-- what the entries give behind the one that was judged last
abbrev pub left_checked : Result (Unit {0}) RunFault → ListerState → Option Run
left_checked (Ok done) v = option_map (λ _. nothing) v.source.store.content
left_checked (Err (run.At f)) v = option_map (λ _. only_fault f) v.source.store.content
left_checked (Err run.Stopped) v = listing_behind v v.passed

-- the number of the first entry behind the one that was judged last
abbrev pub behind_judged : List Verdict → ℕ → ℕ
behind_judged [] next = next
behind_judged (v ∷ vs) next = behind_judged vs (v.entry + 1)

-- the number of the first entry behind the current one; nothing is said of the end, behind which no entry is skipped
abbrev pub PassesJudged : List Verdict → Result (Unit {0}) RunFault → ℕ → ℕ → Type 0
PassesJudged vs (Ok done) old new = Unit {0}
PassesJudged vs (Err run.Stopped) old new = new ≡ behind_judged vs old
PassesJudged vs (Err (run.At f)) old new = new ≡ f.entry + 1

-- ---- names

-- how many names the fault of an entry has reached, and how many the fault that ends a check may have
abbrev pub names_at : Option ListFault → ℕ
names_at (Some f) = faulty_name f.kind
names_at None = 0

abbrev pub names_at_end : Result (Unit {0}) RunFault → ℕ
names_at_end (Err (run.At f)) = maybe_name f.kind
names_at_end result = 0

-- how many names some items and verdicts have reached
abbrev pub names_judged : List Item → List Verdict → ℕ
names_judged items vs = names_of_all items + sum_by (λ v. names_at v.fault) vs

-- ---- what is fetched

-- at most the bytes of a name with the fault of an entry
abbrev pub fault_cost : ℕ → Option ListFault → ℕ
fault_cost limit (Some f) = bad_name_cost limit f.kind
fault_cost limit None = 0

-- and those of some items and verdicts
abbrev pub check_cost : ℕ → ℕ → List Item → List Verdict → ℕ
check_cost z limit items vs = items_cost z items + sum_by (λ v. fault_cost limit v.fault) vs

-- ---- a check

-- what a check leaves: a sink was handed some verdicts, and some items were read
pub record CheckLeaves {K : Type 0} (step : K → Verdict → Result (Unit {0}) Stopped → K → Type 0) (old : ListerState) (k : K) (result : Result (Unit {0}) RunFault) (new : ListerState) (l : K) : Type 0 where
  pub judged : List Verdict
  pub items : List Item
  pub handed : Handed step k judged result l
  pub each : All IsVerdict judged
  pub of_file : (file : List ℕ) → old.source.store.content ≡ Some file → AreFirstVerdicts (verdicts file old.choice old.limit) judged result
  pub read : (file : List ℕ) → old.source.store.content ≡ Some file → ReadsFirst file old.limit (chosen file old.choice) (length judged) items result
  pub ranges : new.ranges ≡ old.ranges ++ ranges_of items
  pub left : new.left ≡ left_checked result new
  pub stop : new.stop ≡ stop_after_run result
  pub unread : new.unread ≡ 0
  pub passed : PassesJudged judged result old.passed new.passed
  -- the current entry is the one that was judged last, or in which bytes were not obtained
  pub current : IfErr result (λ _. slice_get old.entries (new.passed - 1) ≡ Some new.current)
  pub same : IsSameLister old new
  pub counts : Moves (names_judged items judged + names_at_end result) old.counts new.counts
  pub names : old.counts.names + names_judged items judged ≤ new.counts.names
  pub named : FetchesNames 1 items old.counts.fetched new.counts.fetched
  -- the streams of the entries that were judged, and of the one in which bytes were not obtained, and names
  pub fetches : FetchesAtMost (check_cost old.source.size old.limit items judged + end_cost old.limit result) old.source new.source
  -- of every file: the verdicts are on the chosen entries in their order, and may be those of a file
  pub follow : AreNextVerdicts old.choice old.entries old.source.size old.limit old.passed judged
  pub ends : EndsBehind old.choice old.entries old.source.size old.limit (behind_judged judged old.passed) result
  -- behind a sink that wanted no more nothing is left of the entry that was judged last
  pub standing : result ≡ Err run.Stopped → new.standing ≡ through
  -- a fault that tells the budget is of a fetch that came next in the entry in which the check ended
  pub next : TellsRunFetch result new
