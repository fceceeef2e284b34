-- What a contract sees of a walker.
use Rattle.std.specs.Prelude.{◌≡◌, ◌≤◌, ◌<◌, ◌+◌, ◌-◌, ◌*◌, ◌^◌, ℕ, List, Bool, true, false, Option, None, Some, Result, Ok, Err, IfErr, IfOk, IfSome, IsTrue, slice_get}
use Rattle.std.specs.Option.{option_map}
use Rattle.mdmp_source.specs.Count.{raised}
use Rattle.mdmp_source.specs.Source.{SourceState, FetchesAtMost}
use Rattle.mdmp_source.specs.Store.{IsGood}
use Rattle.mdmp_wire.specs.declared.entry.Entry.{Entry}
use Rattle.mdmp_lister.specs.declared.choice.Choice.{Choice}
use Rattle.mdmp_lister.specs.declared.fault.ListFault.{ListFault}
use Rattle.mdmp_lister.specs.declared.item.Item.{Item}
use Rattle.mdmp_lister.specs.declared.step.Step.{Step}
use Rattle.mdmp_lister.specs.declared.limits.Limits.{Limits}
use Rattle.mdmp_lister.specs.declared.meter.MeterCounts.{MeterCounts}
use Rattle.mdmp_lister.specs.declared.position.Position.{Position}
use Rattle.mdmp_lister.specs.declared.position.Position.TheVariants.{Begun, Sought, Within}
use Rattle.mdmp_lister.specs.Costs.{begun_by}
use Rattle.mdmp_lister.specs.Fault.{is_unobtained, IsOfStore, IsToldIn, TellsNoChange}
use Rattle.mdmp_lister.specs.Following.{Follows, IsBegun, begun, records_by}
use Rattle.mdmp_lister.specs.Format.Item.{plain}
use Rattle.mdmp_lister.specs.Format.Kind.{HasNoNames, kind_of}
use Rattle.mdmp_lister.specs.Format.Listing.{Run, listing_sought, only_fault, records_told, stream_item}
use Rattle.mdmp_lister.specs.Lister.{AnswersNext, Gives, cursor_in, IsNewList, IsSameLister, NextLeaves, ListerState, IsRefusedIn, standpoint_in}
use Rattle.mdmp_lister.specs.Meter.{Moves}
use Rattle.mdmp_lister.specs.NextFetch.{TellsNextFetch}
use Rattle.mdmp_lister.specs.Opening.{KeepsDirectory}
use Rattle.mdmp_lister.specs.Stage.{stop_after}
use Rattle.mdmp_lister.specs.Step.{IsStepOf, TellsAnswer}
use Rattle.mdmp_lister.specs.StreamHead.{directory_bytes}
use Rattle.mdmp_lister.specs.Listed.{entry_cost}
use Rattle.mdmp_lister.specs.Walk.Positions.{mark_by, position_by}

pub record WalkerState : Type 0 where
  -- what it is as a lister that keeps no ranges and has room for none
  pub list : ListerState
  -- whether an entry is sought, and else whether a Stream item was given last
  pub position : Position
  -- what was counted when the Stream item was given last, or before the first one as the file was opened
  pub mark : MeterCounts

abbrev pub begins : Position → Bool
begins Begun = true
begins _ = false

abbrev pub seeks : Position → Bool
seeks (Sought at) = true
seeks _ = false

-- the last call but `records` gave a Stream item
abbrev pub is_begun : WalkerState → Bool
is_begun v = begins v.position

-- an entry was sought, and its Stream item was not given yet
abbrev pub is_sought : WalkerState → Bool
is_sought v = seeks v.position

-- a fault of bytes that were not obtained stays for good
abbrev pub is_failed : Option (Option ListFault) → Bool
is_failed (Some (Some f)) = is_unobtained f.kind
is_failed stop = false

-- a walker that was opened over a source, and has given nothing
pub record IsNewWalker (source : SourceState) (choice : Choice) (limits : Limits) (new : WalkerState) : Type 0 where
  pub list : IsNewList source choice limits new.list
  -- the header was fetched, and the directory
  pub fetches : FetchesAtMost (32 + 12 * new.list.header.number_of_streams) source new.list.source
  pub fetched : new.list.counts.fetched ≡ directory_bytes new.list.entries
  pub opening : (file : List ℕ) → source.store.content ≡ Some file → KeepsDirectory limits.budget file
  pub calls : new.list.source.calls ≤ raised source.calls (1 + new.list.header.number_of_streams)
  pub asked : new.list.counts.asked ≤ 32 + 12 * new.list.header.number_of_streams
  pub range_room : new.list.rooms.ranges ≡ 0
  pub mark : new.mark ≡ new.list.counts
  pub position : new.position ≡ Within
  -- no entry was begun, so that nothing may be fetched before the first Stream item
  pub unbegun : entry_cost new.list.source.size new.list.current ≡ 0

-- since the Stream item before them, requests have asked for no more than the stream of its entry has, where it is listed,
-- and for each name reached its length and as much as the limit; once the count of names is at its greatest nothing is said
abbrev pub IsSpentSince : WalkerState → MeterCounts → Type 0
IsSpentSince old counts = counts.names + 1 < 2 ^ 128
    → counts.asked + old.mark.names * (old.list.limit + 4) ≤ old.mark.asked + entry_cost old.list.source.size old.list.current + counts.names * (old.list.limit + 4)

-- and they have fetched no more than that, with a budget and without one
abbrev pub IsFetchedSince : WalkerState → MeterCounts → Type 0
IsFetchedSince old counts = counts.names + 1 < 2 ^ 128
    → counts.fetched + old.mark.names * (old.list.limit + 4) ≤ old.mark.fetched + entry_cost old.list.source.size old.list.current + counts.names * (old.list.limit + 4)

-- what a request for the next item leaves
pub record WalkerLeaves (old : WalkerState) (result : Result (Option Item) ListFault) (new : WalkerState) : Type 0 where
  pub list : NextLeaves old.list result new.list
  pub position : new.position ≡ position_by (begun_by result)
  pub mark : new.mark ≡ mark_by (begun_by result) new.list.counts old.mark
  pub spent : IsSpentSince old new.list.counts
  pub fetched : IsFetchedSince old new.list.counts
  -- it keeps no ranges, so it never tells that the store has changed
  pub unchanged : IfErr result (λ f. TellsNoChange f.kind)
  -- no name is reached in an entry whose records have none
  pub nameless : HasNoNames (kind_of old.list.current.stream_type) → new.list.counts.names ≡ old.list.counts.names
  -- what comes next, whatever the file holds, where no entry is sought
  pub follows : old.list.stop ≡ None → is_sought old ≡ false → AnswersNext old.list result new.list
  -- behind a Stream item, of an entry that was sought too, the entry has begun
  pub begins : IfSome (begun_by result) (λ _. new.list.standing ≡ begun)

-- ---- entries that are sought

-- the Stream item of the entry with this number was given
abbrev pub GivesEntry : ℕ → List Entry → Result (Option Item) ListFault → Type 0
GivesEntry number entries (Ok (Some item)) = (e : Entry) × ((slice_get entries number ≡ Some e) × (plain item ≡ stream_item (record { number = number; entry = e })))
GivesEntry number entries answer = ⊥

-- the entry with this number is sought: all of it is left, and what the chosen ones behind it give
pub record IsSoughtAt (number : ℕ) (old new : WalkerState) : Type 0 where
  pub position : new.position ≡ Sought number
  pub left : new.list.left ≡ option_map (λ file. listing_sought file old.list.choice old.list.limit number) old.list.source.store.content
  pub stop : new.list.stop ≡ None
  pub unread : new.list.unread ≡ 0

pub record IsSought (number : ℕ) (old new : WalkerState) : Type 0 where
  pub goes : is_failed old.list.stop ≡ false → IsSoughtAt number old new
  pub stays : IsTrue (is_failed old.list.stop) → new ≡ old
  -- nothing is fetched or counted, and all else stays
  pub same : new.list ≡ record old.list { left = new.list.left; stop = new.list.stop; unread = new.list.unread; standing = new.list.standing; records = new.list.records; work = new.list.work }
  pub mark : new.mark ≡ old.mark

-- ---- an item as it was read

-- a request for the next item as it was read leaves what `next` does, whose answer it tells
pub record StepLeaves (old : WalkerState) (result : Result (Option Step) ListFault) (new : WalkerState) : Type 0 where
  pub answer : Result (Option Item) ListFault
  pub told : TellsAnswer new.list.source.size result answer
  pub leaves : WalkerLeaves old answer new
  pub gives : (left : Run) → old.list.left ≡ Some left → Gives left answer
  pub sought : (number : ℕ) → old.position ≡ Sought number → GivesEntry number old.list.entries answer

-- what is left of a step that is dropped
abbrev pub passed_of : Result (Option Step) ListFault → Result Bool ListFault
passed_of (Ok None) = Ok false
passed_of (Ok (Some s)) = Ok true
passed_of (Err f) = Err f

-- a step was given and dropped
pub record PassesStep (old : WalkerState) (result : Result Bool ListFault) (new : WalkerState) : Type 0 where
  pub given : Result (Option Step) ListFault
  pub passed : result ≡ passed_of given
  pub leaves : StepLeaves old given new
  pub repeats : (stop : Option ListFault) → old.list.stop ≡ Some stop → stop_after given ≡ Some stop
  pub good : (file : List ℕ) → IsGood old.list.source.store file → IfErr given (λ fault. IsOfStore fault.kind → ⊥)
  pub refused : IfErr given (λ fault. IsRefusedIn fault new.list)
  pub kind : IfOk given (λ s. IfSome s (IsStepOf (kind_of new.list.current.stream_type)))

-- ---- records that are counted

-- how many records the entry has whose Stream item was given last, or the fault in their place
abbrev pub records_answer : List ℕ → WalkerState → Result ℕ ListFault
records_answer file v = records_told file (record { number = v.list.passed - 1; entry = v.list.current })

abbrev pub left_counted : Result ℕ ListFault → Run → Run
left_counted (Ok count) left = left
left_counted (Err f) left = only_fault f

abbrev pub stop_counted : Result ℕ ListFault → Option (Option ListFault)
stop_counted (Ok count) = None
stop_counted (Err f) = Some (Some f)

-- what a count of records leaves
pub record CountsRecords (old : WalkerState) (result : Result ℕ ListFault) (new : WalkerState) : Type 0 where
  pub same : IsSameLister old.list new.list
  pub passed : new.list.passed ≡ old.list.passed
  pub current : new.list.current ≡ old.list.current
  pub left : new.list.left ≡ option_map (left_counted result) old.list.left
  -- a fault is what `next` answers
  pub stop : new.list.stop ≡ stop_counted result
  pub records : IfOk result (λ count. new.list.records ≡ count)
  -- each has bytes of its own, and the size of a stream has 32 bits
  pub few : IfOk result (λ count. count < 2 ^ 32)
  -- what was fetched came off the unread bytes of the stream, and is not fetched again
  pub fetches : FetchesAtMost (old.list.unread - new.list.unread) old.list.source new.list.source
  pub unread : new.list.unread ≤ old.list.unread
  -- no name was reached
  pub counts : Moves 0 old.list.counts new.list.counts
  pub spent : IsSpentSince old new.list.counts
  pub fetched : IsFetchedSince old new.list.counts
  pub told : old.list.stop ≡ None → IfErr result (λ f. IsToldIn old.list.current f old.list.source new.list.source × (f.entry + 1 ≡ old.list.passed))
  -- one of the budget is of the next fetch, and for one of the file no more was fetched than the head
  pub next : old.list.stop ≡ None → IfErr result (λ f. TellsNextFetch (standpoint_in old.list) f.kind f.offset f.size new.list.counts.fetched)
  pub good : (file : List ℕ) → IsGood old.list.source.store file → IfErr result (λ f. IsOfStore f.kind → ⊥)
  pub refused : IfErr result (λ f. IsRefusedIn f new.list)
  pub unchanged : IfErr result (λ f. TellsNoChange f.kind)
  pub repeats : (stop : Option ListFault) → old.list.stop ≡ Some stop → new ≡ old
  pub mark : new.mark ≡ old.mark
  pub position : new.position ≡ old.position
  pub rests : new.list.work ≤ old.list.work
  -- whatever the file holds, that many records of it are left: how far it was given once its head was read, or a fault that
  -- may come next. The head is read once.
  pub stands : IfOk result (λ count. count ≡ records_by new.list.standing)
  pub again : (old.list.standing ≡ begun → ⊥) → new ≡ old
  pub begins : IfOk result (λ _. old.list.standing ≡ begun → IsBegun old.list.source.size old.list.current (Ok new.list.standing))
  pub follows : IfErr result (λ f. old.list.stop ≡ None → Follows old.list.choice old.list.entries old.list.source.size old.list.limit (cursor_in old.list) (Err f) (cursor_in new.list))
