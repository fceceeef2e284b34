-- How a walk over the entries of a file stands, by the walker under it.
use Rattle.std.specs.Prelude.{◌≡◌, ◌≤◌, ◌<◌, ◌+◌, ◌-◌, ◌*◌, ◌^◌, ◌==◌, ℕ, false, List, Option, Some, None, Ok, drop, get_or, length, slice_get, if◌then◌else◌}
use Rattle.mdmp_source.specs.declared.fault.SourceFault.{SourceFault}
use Rattle.mdmp_wire.specs.declared.entry.Entry.{Entry}
use Rattle.mdmp_lister.specs.Counts.{numbers_of}
use Rattle.mdmp_lister.specs.declared.choice.Choice.{Choice}
use Rattle.mdmp_lister.specs.declared.fault.ListFault.{ListFault}
use Rattle.mdmp_lister.specs.Format.Listing.{Numbered, only_chosen}
use Rattle.mdmp_lister.specs.Format.Shape.{record_count}
use Rattle.mdmp_lister.specs.Lister.{ListerState}
use Rattle.mdmp_lister.specs.Listed.{entry_cost}
use Rattle.mdmp_lister.specs.Walker.{WalkerState, is_sought}
use Rattle.mdmp_dump.specs.declared.entry_walk.EntryPlace.{EntryPlace}
use Rattle.mdmp_dump.specs.EntryWalk.{WalkState, no_entry, numbered}
use Rattle.mdmp_dump.specs.Left.{left_from}
use Rattle.mdmp_dump.specs.FileRefusal.{IsUnbudgeted}
use Rattle.mdmp_dump.specs.Reading.{store_fault_in}

-- ---- what is seen of it

-- the chosen ones of the entries from this number on
abbrev pub chosen_behind : Choice → List Entry → ℕ → List Numbered
chosen_behind choice entries number = only_chosen choice (numbered number (drop number entries))

abbrev pub chosen_of : ListerState → List Numbered
chosen_of v = only_chosen v.choice (numbered 0 v.entries)

-- the entry that was begun last
abbrev pub current_entry : ListerState → Numbered
current_entry v = record { number = v.passed - 1; entry = v.current }

-- how many of its records are left: none before the first entry, behind the end and behind a fault
abbrev pub left_by : ℕ → Option (Option ListFault) → ℕ → ℕ
left_by passed None records = if passed == 0 then 0 else records
left_by passed (Some stop) records = 0

abbrev pub records_to_give : ListerState → ℕ
records_to_give v = left_by v.passed v.stop v.records

abbrev pub ended_with : Option (Option ListFault) → Option SourceFault
ended_with (Some (Some f)) = store_fault_in f.kind
ended_with stop = None

-- what was fetched before its stream, all of that, and a length for each name since then
abbrev pub bytes_allowed : WalkerState → ℕ
bytes_allowed w = w.mark.asked + entry_cost w.list.source.size w.list.current + 4 * (w.list.counts.names - w.mark.names)

abbrev pub state_of : WalkerState → WalkState
state_of w = record {
  source = w.list.source;
  header = w.list.header;
  choice = w.list.choice;
  chosen = chosen_of w.list;
  held = (numbers_of w.list).held;
  start = w.list.counts.start.bytes;
  fetched = w.list.counts.fetched;
  aside = w.list.counts.aside.bytes;
  names = w.list.counts.names;
  allowed = bytes_allowed w;
  current = current_entry w.list;
  left = records_to_give w.list;
  failed = ended_with w.list.stop;
}

-- ---- what stays so

-- records of a known file are left: those of the current entry from record k on
abbrev pub HasLeft : List ℕ → ListerState → Type 0
HasLeft F v = (k : ℕ) × (xs : List Numbered) × ((v.left ≡ Some (left_from F 0 (current_entry v) k xs)) × (record_count F v.current ≡ Ok (k + records_to_give v)))

-- a walk without a budget does not end by it
abbrev pub NeverByBudget : Option (Option ListFault) → Type 0
NeverByBudget stop = (f : ListFault) → stop ≡ Some (Some f) → IsUnbudgeted f.kind

-- no name is read, it has no budget, and what was fetched is allowed
pub record IsKept (w : WalkerState) : Type 0 where
  pub limit : w.list.limit ≡ 0
  pub budget : w.list.counts.budget ≡ None
  pub unbudgeted : NeverByBudget w.list.stop
  pub within : w.mark.names ≤ w.list.counts.names
  pub spent : w.list.counts.names + 1 < 2 ^ 128 → w.list.counts.asked ≤ bytes_allowed w
  pub of_file : (file : List ℕ) → w.list.source.store.content ≡ Some file → 0 < records_to_give w.list → HasLeft file w.list
  -- while records are left no entry is sought
  pub unsought : 0 < records_to_give w.list → is_sought w ≡ false

-- before this entry stand so many chosen ones
pub record IsPlace (v : ListerState) (place : EntryPlace) : Type 0 where
  pub number : place.number ≤ length v.entries
  pub behind : drop place.stream (chosen_of v) ≡ chosen_behind v.choice v.entries place.number

-- it is the entry of this stream
pub record IsPlaceOf (v : ListerState) (stream : ℕ) (place : EntryPlace) : Type 0 where
  pub is : IsPlace v place
  pub stream_is : place.stream ≡ stream
  pub within : place.number < length v.entries
  pub entry : (e : Entry) → slice_get v.entries place.number ≡ Some e → get_or (chosen_of v) stream no_entry ≡ record { number = place.number; entry = e }

pub record IsStanding (w : WalkerState) (place : EntryPlace) : Type 0 where
  pub kept : IsKept w
  pub stands : IsPlace w.list place
