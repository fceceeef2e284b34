-- What a listing fetches for what it gives.
use Rattle.std.specs.Prelude.{◌≡◌, ◌≤◌, ◌+◌, ◌-◌, ℕ, List, length, sum_by, Option, Some, None, Result, Ok, Err}
use Rattle.mdmp_source.specs.Source.{FetchesAtMost, SourceState}
use Rattle.mdmp_lister.specs.declared.fault.Fault.{Fault}
use Rattle.mdmp_lister.specs.declared.fault.FaultKind.{FaultKind}
use Rattle.mdmp_lister.specs.declared.fault.FaultKind.TheVariants.{NameOdd, NameUnitsOutside, Source, Budget}
use Rattle.mdmp_lister.specs.declared.fault.ListFault.{ListFault}
use Rattle.mdmp_lister.specs.declared.fetching.NameRead.{NameRead}
use Rattle.mdmp_lister.specs.declared.fetching.NameRead.TheVariants as read
use Rattle.mdmp_lister.specs.declared.item.Item.{Item}
use Rattle.mdmp_lister.specs.declared.item.StreamItem.{StreamItem}
use Rattle.mdmp_lister.specs.declared.name.Name.{Name}
use Rattle.mdmp_lister.specs.declared.name.Name.TheVariants.{Units, Long}
use Rattle.mdmp_lister.specs.declared.name.Name.TheVariants as names
use Rattle.mdmp_lister.specs.declared.sink.RunFault.{RunFault}
use Rattle.mdmp_lister.specs.declared.sink.RunFault.TheVariants as run
use Rattle.mdmp_lister.specs.declared.step.Step.{Step}
use Rattle.mdmp_lister.specs.declared.step.Step.TheVariants as step
use Rattle.mdmp_lister.specs.Step.{stream_told}
use Rattle.mdmp_lister.specs.Listed.{entry_cost}
use Rattle.mdmp_lister.specs.Format.Summary.{summary_of}

-- ---- names

-- the bytes of a name: none of one that is not there, its length alone of a long one
abbrev pub cost_of_name : Name → ℕ
cost_of_name names.None = 0
cost_of_name (Units units) = 4 + length units.bytes.now
cost_of_name (Long bytes) = 4

-- the same of a name that was read
abbrev pub read_cost : NameRead → ℕ
read_cost read.None = 0
read_cost (read.Units bytes) = 4 + bytes
read_cost (read.Long bytes) = 4

-- at most those of a name with a fault: no length that does not lie inside, and no units but where bytes were not obtained
abbrev pub bad_name_cost : ℕ → FaultKind → ℕ
bad_name_cost limit NameOdd = 4
bad_name_cost limit NameUnitsOutside = 4
bad_name_cost limit (Source fault) = 4 + limit
bad_name_cost limit Budget = 4 + limit
bad_name_cost limit kind = 0

abbrev pub name_spent : ℕ → Result NameRead Fault → ℕ
name_spent limit (Ok name) = read_cost name
name_spent limit (Err fault) = bad_name_cost limit fault.kind

-- ---- items

-- the bytes of an item beside those of its stream: its name's
abbrev pub item_cost : Item → ℕ
item_cost item = cost_of_name (summary_of item).name

-- the same of one whose name stands in a buffer
abbrev pub step_cost : Step → ℕ
step_cost (step.Stream x) = 0
step_cost (step.Record r) = read_cost r.name

-- what was fetched for the name of a record
abbrev pub step_spent : ℕ → Result Step Fault → ℕ
step_spent limit (Ok s) = step_cost s
step_spent limit (Err fault) = bad_name_cost limit fault.kind

-- ---- answers

-- the bytes of an answer beside those of a stream: of the name of an item, or at most of a name with a fault
abbrev pub answer_cost : ℕ → Result (Option Item) ListFault → ℕ
answer_cost limit (Ok None) = 0
answer_cost limit (Ok (Some item)) = item_cost item
answer_cost limit (Err f) = bad_name_cost limit f.kind

abbrev pub given_spent : ℕ → Result (Option Step) ListFault → ℕ
given_spent limit (Ok None) = 0
given_spent limit (Ok (Some s)) = step_cost s
given_spent limit (Err f) = bad_name_cost limit f.kind

-- ---- streams that are not read yet, in a file of z bytes

-- the bytes of the stream of the entry which an item begins
abbrev pub stream_begun : ℕ → Option StreamItem → ℕ
stream_begun z (Some x) = entry_cost z (record { stream_type = x.stream_type; location = x.location })
stream_begun z None = 0

-- the entry that an answer begins
abbrev pub begun_by : Result (Option Item) ListFault → Option StreamItem
begun_by (Ok (Some item)) = (summary_of item).stream
begun_by answer = None

-- the same of an answer whose name stands in a buffer
abbrev pub begun_at : Result (Option Step) ListFault → Option StreamItem
begun_at (Ok (Some s)) = stream_told s
begun_at answer = None

-- how many bytes are unread behind an item: all those of a stream that it begins, else no more than before
abbrev pub IsUnreadBy : ℕ → Option StreamItem → ℕ → ℕ → Type 0
IsUnreadBy z (Some x) old new = new ≡ stream_begun z (Some x)
IsUnreadBy z None old new = new ≤ old

-- and behind an answer: none at the end, nor behind a fault
abbrev pub LeavesUnread : ℕ → Result (Option Item) ListFault → ℕ → ℕ → Type 0
LeavesUnread z (Ok (Some item)) old new = IsUnreadBy z (summary_of item).stream old new
LeavesUnread z answer old new = new ≡ 0

-- ---- runs

-- the bytes of some items, each with the stream that it begins
abbrev pub items_cost : ℕ → List Item → ℕ
items_cost z xs = sum_by (λ x. item_cost x + stream_begun z (summary_of x).stream) xs

-- and of the fault that ends a run
abbrev pub end_cost : ℕ → Result (Unit {0}) RunFault → ℕ
end_cost limit (Err (run.At f)) = bad_name_cost limit f.kind
end_cost limit result = 0

-- for these items at most so much was fetched, where before them `unread` bytes of a stream were not read, and behind them `left` are not
pub record HasCost (unread : ℕ) (old : SourceState) (xs : List Item) (left : ℕ) (new : SourceState) : Type 0 where
  pub fetches : FetchesAtMost (unread + items_cost old.size xs - left) old new
  pub within : left ≤ unread + items_cost old.size xs
