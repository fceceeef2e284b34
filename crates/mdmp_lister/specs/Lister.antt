-- What a contract sees of a lister.
use Rattle.std.specs.Prelude.{◌≡◌, ◌≤◌, ◌<◌, ◌+◌, ◌-◌, ◌*◌, ◌^◌, ℕ, length, List, [], ◌∷◌, ◌++◌, drop, slice_get, Bool, true, false, not, is_some, ◌==◌, ◌&&◌, Option, None, Some, Result, Ok, Err, IfOk, IfErr, IfSome, IsOk, max}
use Rattle.std.specs.Option.{option_map}
use Rattle.mdmp_source.specs.Count.{raised}
use Rattle.mdmp_source.specs.Source.{SourceState, FetchesAtMost, IsTold}
use Rattle.mdmp_source.specs.Store.{IsGood}
use Rattle.mdmp_source.specs.declared.fault.SourceFault.{SourceFault}
use Rattle.mdmp_wire.specs.declared.entry.Entry.{Entry}
use Rattle.mdmp_wire.specs.declared.header.Header.{Header}
use Rattle.mdmp_source.specs.Range.{IsInside}
use Rattle.mdmp_wire.specs.Header.{header_at}
use Rattle.mdmp_wire.specs.HeaderFault.{header_fault_of}
use Rattle.mdmp_lister.specs.Format.Refusal.{most_ranges}
use Rattle.mdmp_lister.specs.declared.choice.Choice.{Choice}
use Rattle.mdmp_lister.specs.declared.fault.ListFault.{ListFault}
use Rattle.mdmp_lister.specs.declared.item.Item.{Item}
use Rattle.mdmp_map.specs.declared.range.Range.{Range}
use Rattle.mdmp_lister.specs.declared.kind.StreamKind.{StreamKind}
use Rattle.mdmp_lister.specs.declared.limits.Limits.{Limits}
use Rattle.mdmp_lister.specs.declared.shape.Shape.{Shape}
use Rattle.mdmp_lister.specs.Format.Bounds.{held_bound}
use Rattle.mdmp_lister.specs.Format.Classes.{IsClassed}
use Rattle.mdmp_lister.specs.Costs.{LeavesUnread, answer_cost, begun_by, stream_begun}
use Rattle.mdmp_lister.specs.declared.step.Step.{Step}
use Rattle.mdmp_lister.specs.Following.{Cursor, Follows, Standing, records_by, through}
use Rattle.mdmp_lister.specs.Format.Numbers.{most_names_in, names_in, range_count}
use Rattle.mdmp_lister.specs.Format.Directory.{IsDirectory}
use Rattle.mdmp_lister.specs.StreamHead.{heads_ahead, opening_bytes}
use Rattle.mdmp_lister.specs.Format.Item.{plain}
use Rattle.mdmp_lister.specs.Format.Kind.{kind_of}
use Rattle.mdmp_lister.specs.Format.Listing.{Run, nothing, only_fault, items_from, joined, listing, listing_from}
use Rattle.mdmp_lister.specs.Format.Shape.{shape_of}
use Rattle.mdmp_lister.specs.Memory.{is_within}
use Rattle.mdmp_lister.specs.Opening.{KeepsOpening}
use Rattle.mdmp_lister.specs.Meter.{IsBegunOver, IsUnmade, KeepsTo, Moves, SpendsAside}
use Rattle.mdmp_lister.specs.NextFetch.{IsGivenPaid, Standpoint, TellsNextFetch}
use Rattle.mdmp_lister.specs.declared.meter.MeterCounts.{MeterCounts}
use Rattle.mdmp_lister.specs.Format.Ranges.{ranges_of}
use Rattle.mdmp_lister.specs.Fault.{is_unobtained, IsUnobtained, IsSteady, IsToldIn}
use Rattle.mdmp_lister.specs.Stage.{stop_after}
use Rattle.mdmp_lister.specs.Step.{TellsAnswer}
use Rattle.mdmp_lister.specs.Format.Summary.{entry_begun, number_behind, summary_of}

-- what a lister has room for: entries of the directory, bytes of its window, and ranges
pub record Rooms : Type 0 where
  pub entries : ℕ
  pub window : ℕ
  pub ranges : ℕ
  -- the bytes that all lists of all its parts have room for, with that of a name
  pub held : ℕ

pub record ListerState : Type 0 where
  -- the file is the source's content, where that is known
  pub source : SourceState
  -- what was fetched since it was opened
  pub counts : MeterCounts
  pub header : Header
  -- the directory, as it was read
  pub entries : List Entry
  pub choice : Choice
  -- names of more bytes are told by their length; it has room for so many
  pub limit : ℕ
  pub rooms : Rooms
  -- the number of the first entry behind the one whose Stream item was given last; behind the end, how many there are
  pub passed : ℕ
  -- the entry whose Stream item was given last
  pub current : Entry
  -- the ranges inside the file that were given, in order
  pub ranges : List Range
  -- the items that are left and the fault behind them or none, where the file is known
  pub left : Option Run
  -- the end or the fault with which each request is answered from now on, where there is one
  pub stop : Option (Option ListFault)
  -- the bytes of the current entry's stream that may still be fetched
  pub unread : ℕ
  -- how far the current entry was given
  pub standing : Standing
  -- how many records of the current entry are left, once its head was read
  pub records : ℕ
  -- a number that falls with each item
  pub work : ℕ

-- what the chosen entries from number i on give, where the file is known
abbrev pub listing_behind : ListerState → ℕ → Option Run
listing_behind v i = option_map (λ file. listing_from file v.choice v.limit i) v.source.store.content

-- n records of the current entry are left in this file: they follow those that were given, up to the count in the head of
-- its stream, and what is left begins with them, up to the first whose name has a fault
pub record HasRecordsLeft (file : List ℕ) (v : ListerState) (n : ℕ) : Type 0 where
  pub kind : StreamKind
  pub shape : Shape
  pub given : ℕ
  pub kind_is : kind_of v.current.stream_type ≡ Some kind
  pub shape_is : shape_of file v.current.location.rva v.current.location.size kind ≡ Ok shape
  pub count : given + n ≡ shape.count
  pub left : v.left ≡ Some (joined (items_from file v.limit (v.passed - 1) v.current.location.rva kind shape n given) (listing_from file v.choice v.limit v.passed))

-- so many are left, and where the file is known they are records of it
pub record IsRecordsLeft (v : ListerState) (n : ℕ) : Type 0 where
  pub value : n ≡ v.records
  pub stands : n ≡ records_by v.standing
  pub of_file : (file : List ℕ) → v.source.store.content ≡ Some file → 0 < n → HasRecordsLeft file v n

-- a run without its first item
abbrev pub tail : Run → Run
tail run = record { items = drop 1 run.items; fault = run.fault }

-- a request was answered with the first of what was left: an item, the end, or the fault where no item stood
-- before it; or bytes were not obtained
abbrev pub Gives : Run → Result (Option Item) ListFault → Type 0
Gives left (Ok None) = left ≡ nothing
Gives left (Ok (Some item)) = slice_get left.items 0 ≡ Some (plain item)
Gives left (Err f) = (IsUnobtained f.kind → ⊥) → left ≡ only_fault f

-- what is left behind an answer; behind a fault it is that fault
abbrev pub left_after : Result (Option Item) ListFault → Run → Run
left_after (Ok None) left = left
left_after (Ok (Some item)) left = tail left
left_after (Err f) left = only_fault f

-- the number of the first entry behind the current one, once an item was given: a Stream item begins an entry
abbrev pub passed_after : Item → ℕ → ℕ
passed_after item next = number_behind (summary_of item).stream next

abbrev pub Passes : Result (Option Item) ListFault → ℕ → ℕ → Type 0
Passes (Ok None) old new = Unit {0}
Passes (Ok (Some item)) old new = new ≡ passed_after item old
Passes (Err f) old new = new ≡ old

-- the current entry, once an item was given
abbrev pub current_after : Item → Entry → Entry
current_after item e = entry_begun (summary_of item).stream e

abbrev pub IsCurrent : Result (Option Item) ListFault → Entry → Entry → Type 0
IsCurrent (Ok (Some item)) old new = new ≡ current_after item old
IsCurrent answer old new = new ≡ old

-- while records of the current entry are left, an item is the next of them
abbrev pub GivesLeftRecord : ℕ → Result (Option Item) ListFault → ℕ → Type 0
GivesLeftRecord old (Ok None) new = old ≡ 0
GivesLeftRecord old (Ok (Some item)) new = 0 < old → ((summary_of item).stream ≡ None) × (old ≡ new + 1)
GivesLeftRecord old (Err f) new = Unit {0}

-- where it stands in its directory
abbrev pub cursor_in : ListerState → Cursor
cursor_in v = record { passed = v.passed; current = v.current; standing = v.standing }

-- where it stands as its next item is asked for
abbrev pub standpoint_in : ListerState → Standpoint
standpoint_in v = record {
  content = v.source.store.content;
  size = v.source.size;
  room = v.rooms.window;
  limit = v.limit;
  entry = v.current;
  standing = v.standing;
  unread = v.unread;
  fetched = v.counts.fetched;
}

-- an answer, whatever place the name of its item is lent from
abbrev pub plain_answer : Result (Option Item) ListFault → Result (Option Item) ListFault
plain_answer (Ok (Some item)) = Ok (Some (plain item))
plain_answer answer = answer

-- a request was answered with what may come next, whatever the file holds, as it was read
pub record AnswersNext (old : ListerState) (result : Result (Option Item) ListFault) (new : ListerState) : Type 0 where
  pub read : Result (Option Step) ListFault
  pub told : TellsAnswer old.source.size read (plain_answer result)
  pub follows : Follows old.choice old.entries old.source.size old.limit (cursor_in old) read (cursor_in new)

-- the ranges inside the file of an answer
abbrev pub ranges_answered : Result (Option Item) ListFault → List Range
ranges_answered (Ok (Some item)) = ranges_of (item ∷ [])
ranges_answered answer = []

-- the end stays for good, and so does a fault of bytes that were not obtained
abbrev pub is_for_good : Option (Option ListFault) → Bool
is_for_good None = false
is_for_good (Some None) = true
is_for_good (Some (Some f)) = is_unobtained f.kind

-- no item, verdict or fault was given yet, nor the end
abbrev pub is_fresh : ListerState → Bool
is_fresh v = v.passed == 0 && not (is_some v.stop)

-- the header and the directory are those of the file, where that is known. Of every file the header is one of a minidump,
-- and the directory lies inside
pub record HasReadDirectory (source : SourceState) (new : ListerState) : Type 0 where
  pub header_is : (file : List ℕ) → source.store.content ≡ Some file → new.header ≡ header_at file 0
  pub directory : (file : List ℕ) → source.store.content ≡ Some file → IsDirectory file new.entries
  pub checked : header_fault_of new.header ≡ None
  pub inside : IsInside new.header.stream_directory_rva (12 * new.header.number_of_streams) source.size
  pub count : length new.entries ≡ new.header.number_of_streams

-- it lists what was asked for, by the limits that were given
pub record IsAskedFor (choice : Choice) (limits : Limits) (new : ListerState) : Type 0 where
  pub choice_is : new.choice ≡ choice
  pub limit_is : new.limit ≡ limits.name
  pub window_room : new.rooms.window ≡ limits.window
  pub entry_room : new.rooms.entries ≡ new.header.number_of_streams

-- nothing was given of it
pub record HasGivenNothing (content : Option (List ℕ)) (choice : Choice) (limits : Limits) (new : ListerState) : Type 0 where
  pub left : new.left ≡ option_map (λ file. listing file choice limits.name) content
  pub stop : new.stop ≡ None
  pub passed : new.passed ≡ 0
  pub standing : new.standing ≡ through
  pub unread : new.unread ≡ 0
  pub ranges : new.ranges ≡ []

-- the bytes that its lists have room for: no listing changes them
abbrev pub room_held : ListerState → ℕ
room_held v = held_bound v.rooms.window v.limit v.rooms.entries v.rooms.ranges

-- a listing that was opened over a source, and has given nothing, whether it keeps ranges or not
pub record IsNewList (source : SourceState) (choice : Choice) (limits : Limits) (new : ListerState) : Type 0 where
  pub same_content : new.source.store.content ≡ source.store.content
  pub steady : IsSteady source new.source
  pub counts : IsBegunOver source limits.budget new.counts
  -- what was fetched is within the budget
  pub kept : KeepsTo limits.budget new.counts.fetched
  pub read : HasReadDirectory source new
  pub asked : IsAskedFor choice limits new
  pub given : HasGivenNothing source.store.content choice limits new
  -- its directory, its window, a name and its ranges are all that it has room for
  pub whole : new.rooms.held ≡ room_held new
  -- what it has room for is within the limit of memory
  pub memory : is_within limits.memory (room_held new) ≡ true

-- a lister that was opened over a source, and has given nothing
pub record IsNewLister (source : SourceState) (choice : Choice) (limits : Limits) (new : ListerState) : Type 0 where
  pub list : IsNewList source choice limits new
  -- the header was fetched, the directory, and the heads of the chosen memory lists
  pub fetches : FetchesAtMost (32 + 12 * new.header.number_of_streams + heads_ahead choice source.size new.entries) source new.source
  pub fetched : new.counts.fetched ≡ opening_bytes choice source.size new.entries
  pub opening : (file : List ℕ) → source.store.content ≡ Some file → KeepsOpening limits.budget file choice
  pub calls : new.source.calls ≤ raised source.calls (1 + 2 * new.header.number_of_streams)
  pub range_room : (file : List ℕ) → source.store.content ≡ Some file → new.rooms.ranges ≡ range_count file choice
  pub few : new.rooms.ranges ≤ most_ranges

-- a fault that tells the budget is of a fetch that was not made, since with it more than the budget would have been fetched:
-- it lies inside the file, and is of no more than the window or a name may have
abbrev pub IsRefusedIn : ListFault → ListerState → Type 0
IsRefusedIn f v = IsUnmade (max v.rooms.window v.limit) f.kind f.offset f.size v.counts v.source.size

-- what no listing changes
pub record IsSameLister (old new : ListerState) : Type 0 where
  pub header_is : new.header ≡ old.header
  pub entries : new.entries ≡ old.entries
  pub choice : new.choice ≡ old.choice
  pub limit : new.limit ≡ old.limit
  pub rooms : new.rooms ≡ old.rooms
  pub aside : new.counts.aside ≡ old.counts.aside
  pub start : new.counts.start ≡ old.counts.start
  pub budget : new.counts.budget ≡ old.counts.budget

-- a call that drops what is left of an entry: what comes next are the chosen entries behind it, and no fault stands
pub record SkipsEntry (old new : ListerState) : Type 0 where
  pub left : new.left ≡ listing_behind old old.passed
  pub stop : new.stop ≡ None
  pub unread : new.unread ≡ 0
  pub standing : new.standing ≡ through

-- and it gives nothing: what was read, counted and given so far stays, and no more is left to do than was
pub record KeepsGiven (old new : ListerState) : Type 0 where
  pub same : IsSameLister old new
  pub source : new.source ≡ old.source
  pub counts : new.counts ≡ old.counts
  pub passed : new.passed ≡ old.passed
  pub current : new.current ≡ old.current
  pub ranges : new.ranges ≡ old.ranges
  pub rests : new.work ≤ old.work

-- what a request for the next item fetches and counts
pub record NextSpends (old : ListerState) (result : Result (Option Item) ListFault) (new : ListerState) : Type 0 where
  -- what came off the unread bytes of the current entry's stream, and the name of the item
  pub fetches : FetchesAtMost (old.unread + stream_begun old.source.size (begun_by result) + answer_cost old.limit result - new.unread) old.source new.source
  -- just what the window took for the record, or for a head, and the bytes of the item's name; just what it left is unread
  -- behind a record
  pub costs : IfOk result (λ given. IsGivenPaid (standpoint_in old) given new.counts.fetched new.unread)
  -- and at most one name was reached
  pub counts : Moves 1 old.counts new.counts
  -- just those that items have, where no fault stands
  pub names : IfOk result (λ given. new.counts.names ≡ raised old.counts.names (names_in (Ok given)))
  -- and at a fault that is first answered that of a name, or maybe one where bytes were not obtained
  pub names_at_fault : old.stop ≡ None → IfErr result (λ f. (raised old.counts.names (names_in (Err f)) ≤ new.counts.names) × (new.counts.names ≤ old.counts.names + most_names_in (Err f)))
  pub refused : IfErr result (λ f. IsRefusedIn f new)
  pub unread : LeavesUnread old.source.size result old.unread new.unread

-- what is left behind it, and what stands
pub record NextStands (old : ListerState) (result : Result (Option Item) ListFault) (new : ListerState) : Type 0 where
  pub left : new.left ≡ option_map (left_after result) old.left
  pub stop : new.stop ≡ stop_after result
  -- an answer that is given again changes nothing
  pub repeats : (stop : Option ListFault) → old.stop ≡ Some stop → new ≡ old
  pub falls : IfOk result (λ given. IfSome given (λ item. new.work < old.work))
  pub rests : new.work ≤ old.work

-- which entry is the current one, and which of its records come next
pub record NextPlaces (old : ListerState) (result : Result (Option Item) ListFault) (new : ListerState) : Type 0 where
  pub passed : Passes result old.passed new.passed
  pub current : IsCurrent result old.current new.current
  pub records : GivesLeftRecord old.records result new.records
  -- what the item names is classed by the file's size
  pub classed : IfOk result (λ given. IfSome given (IsClassed old.source.size new.current))
  -- a fault stands in the entry whose Stream item was given last
  pub entry : old.stop ≡ None → IfErr result (λ f. f.entry + 1 ≡ old.passed)

-- what a request for the next item leaves, whether ranges are kept or not
pub record NextLeaves (old : ListerState) (result : Result (Option Item) ListFault) (new : ListerState) : Type 0 where
  pub same : IsSameLister old new
  pub spends : NextSpends old result new
  pub stands : NextStands old result new
  pub places : NextPlaces old result new
  -- a fault of the store that does not stand yet is told in this call; it and one of the budget are of no item
  pub told : old.stop ≡ None → IfErr result (λ f. IsToldIn old.current f old.source new.source)
  -- one of the budget is of the next fetch, and for one of the file just its bytes were fetched
  pub next : old.stop ≡ None → IfErr result (λ f. TellsNextFetch (standpoint_in old) f.kind f.offset f.size new.counts.fetched)

-- and of a lister, which keeps the ranges that it gives, and whose count of names is never at its greatest
pub record ListerLeaves (old : ListerState) (result : Result (Option Item) ListFault) (new : ListerState) : Type 0 where
  pub list : NextLeaves old result new
  -- what comes next, whatever the file holds
  pub follows : old.stop ≡ None → AnswersNext old result new
  pub ranges : new.ranges ≡ old.ranges ++ ranges_answered result
  pub few_names : new.counts.names + 1 < 2 ^ 128
  -- what was fetched is within the budget
  pub kept : KeepsTo new.counts.budget new.counts.fetched

-- what a call leaves that fetches at most n bytes aside from the listing, in at most so many calls of the source's `fetch`,
-- with this answer: a fault is told in this call, and over a good store there is none
pub record ReadsAside {T : Type 0} (calls n : ℕ) (result : Result T SourceFault) (old new : ListerState) : Type 0 where
  -- but for counts of what was fetched all stays, so each later request answers what it would have
  pub same : new ≡ record old { source = new.source; counts = new.counts }
  pub aside : SpendsAside calls n old.counts new.counts
  pub fetches : FetchesAtMost n old.source new.source
  pub source_calls : new.source.calls ≤ raised old.source.calls calls
  pub told : IfErr result (λ fault. IsTold fault old.source new.source)
  pub good : (file : List ℕ) → IsGood old.source.store file → IsOk result
