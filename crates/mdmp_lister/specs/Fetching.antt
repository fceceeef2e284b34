-- What reading promises: some bytes, the head of a stream, a name, a record.
use Rattle.std.specs.Prelude.{◌≡◌, ◌≤◌, ◌<◌, ◌+◌, ◌-◌, ◌/◌, ◌^◌, ◌⊎◌, ℕ, List, None, Some, Result, Ok, Err, IfErr, IfOk, OnOk, length, min, nat_lt, max}
use Rattle.mdmp_source.specs.Count.{raised, raised_if}
use Rattle.mdmp_source.specs.Source.{FetchesAtMost, fault_of}
use Rattle.mdmp_source.specs.Window.{WindowState, behind_of}
use Rattle.mdmp_source.specs.declared.fault.SourceFault.{SourceFault}
use Rattle.mdmp_source.specs.declared.location.Location.{Location}
use Rattle.mdmp_wire.specs.declared.entry.Entry.{Entry}
use Rattle.mdmp_lister.specs.declared.fault.Fault.{Fault}
use Rattle.mdmp_lister.specs.declared.fault.FaultKind.{FaultKind}
use Rattle.mdmp_lister.specs.declared.fault.FaultKind.TheVariants as kinds
use Rattle.mdmp_lister.specs.declared.fetching.NameRead.{NameRead}
use Rattle.mdmp_lister.specs.declared.head.Head.{Head}
use Rattle.mdmp_lister.specs.declared.kind.StreamKind.{StreamKind}
use Rattle.mdmp_lister.specs.declared.kind.StreamKind.TheVariants.{Memory64}
use Rattle.mdmp_lister.specs.declared.shape.Shape.{Shape}
use Rattle.mdmp_lister.specs.declared.step.Step.{Step}
use Rattle.mdmp_lister.specs.Costs.{bad_name_cost, name_spent, read_cost, step_cost, step_spent}
use Rattle.mdmp_lister.specs.Following.{mapped}
use Rattle.mdmp_lister.specs.NextFetch.{IsNameFetch, IsNamedAt, IsWindowFetch, window_leaves, window_takes}
use Rattle.mdmp_lister.specs.StreamHead.{head_spent}
use Rattle.mdmp_lister.specs.Holding.{ComesTo, fills, left_behind, needed, reached, started, unfetched}
use Rattle.mdmp_lister.specs.Meter.{Books, BooksAside, IsUnmade, MeterState, Spends, TellsBudget, TriesFetch, counts_of, store_fault_of}
use Rattle.mdmp_lister.specs.declared.fault.FetchFault.{FetchFault}
use Rattle.mdmp_lister.specs.Walk.Owing.{count_told, ranges_by}
use Rattle.mdmp_lister.specs.Walk.Reaching.{Reaches, ReachesAtFault, read_once, told_once}
use Rattle.mdmp_lister.specs.Fault.{IsCaused, IsCausedAt}
use Rattle.mdmp_lister.specs.Format.Shape.{FitsIn, head_cost}
use Rattle.mdmp_lister.specs.Format.Kind.{form_of, greatest_record, record_size}
use Rattle.mdmp_lister.specs.Step.{IsStepHeld, current_by, passed_by, stream_told}

-- what was read with this answer: an answer of a known file is as it should be, the fetches are booked, a fault of the
-- store is caused by them, and one of the budget is of a fetch that was not made, of at most so many bytes
pub record Reads {T : Type 0} (most : ℕ) (Booked : MeterState → MeterState → Type 0) (Is : List ℕ → T → Type 0) (result : Result T FetchFault) (old new : MeterState) : Type 0 where
  pub of_file : (file : List ℕ) → old.source.store.content ≡ Some file → IfOk result (Is file)
  pub books : Booked old new
  pub caused : IsCaused (store_fault_of result) old.source new.source
  pub refused : TellsBudget most result new

-- the bytes behind those that a window holds were fetched, so that `size` bytes at `at` are held, or the budget is told of
-- them: not all of the `size` bytes are held then
pub record TriesHold (at size : ℕ) (old : WindowState) (result : Result (Unit {0}) FetchFault) (new : WindowState) (was now : MeterState) : Type 0 where
  pub tries : TriesFetch (behind_of (reached at old)) (needed at size old) result was now
  pub behind : OnOk result (behind_of new ≡ behind_of (reached at old) + needed at size old)
  pub lacks : IfErr result (λ _. length (reached at old).held < size)

-- the same beside the listing, in at most so many calls, of at most n bytes, which no budget limits
pub record ReadsBeside {T : Type 0} (calls n : ℕ) (Is : List ℕ → T → Type 0) (result : Result T SourceFault) (old new : MeterState) : Type 0 where
  pub of_file : (file : List ℕ) → old.source.store.content ≡ Some file → IfOk result (Is file)
  pub books : BooksAside calls n old new
  pub caused : IsCaused (fault_of result) old.source new.source

-- what the head of a stream says, of so many bytes and of this kind
pub record IsHeadOf (size : ℕ) (kind : StreamKind) (head : Head) : Type 0 where
  pub fits : FitsIn size kind head.shape
  pub few : head.shape.count < 2 ^ 32
  pub ranges : kind ≡ Memory64 → (head.shape.first ≡ 16) × (head.shape.stride ≡ 16)
  -- the records stand behind it
  pub behind : head_cost (form_of kind) ≤ head.shape.first

-- where the records of a stream stand whose head was read so
abbrev pub shape_told : Result Head Fault → Result Shape Fault
shape_told r = mapped (λ head. head.shape) r

-- the head of a stream of so many bytes and of this kind was read, or is too short
pub record ReadsHead (size : ℕ) (kind : StreamKind) (result : Result Head Fault) (old new : MeterState) : Type 0 where
  pub books : Books 1 (head_spent size kind) old new
  pub caused : IsCausedAt result old.source new.source
  pub at_fault : IfErr result (λ fault. ReachesAtFault fault.kind old new)
  pub over : IfErr result (λ fault. IsUnmade 16 fault.kind fault.offset fault.size (counts_of new) new.source.size)

-- the head of a stream was read through a window that was started over it, or it has a fault: by at most one fetch, of so
-- many bytes; of a stream that is too short nothing is started or fetched
pub record BeginsStream (at : Location) (result : Result Head Fault) (old new : MeterState) (was now : WindowState) : Type 0 where
  pub spent : ℕ
  pub books : Books 1 spent old new
  -- they come off those of the stream
  pub bytes : spent + left_behind result (unfetched now) ≤ at.size
  -- and at most so many fills are left behind it
  pub fills_left : left_behind result (fills greatest_record now) ≤ 1 + at.size / (was.room - 167)
  pub room : now.room ≡ was.room
  pub comes : IfOk result (λ head. ComesTo at.rva old.source.store.content (started at was) now)
  pub caused : IsCausedAt result old.source new.source
  pub at_fault : IfErr result (λ fault. ReachesAtFault fault.kind old new)
  pub over : IfErr result (λ fault. IsUnmade was.room fault.kind fault.offset fault.size (counts_of new) new.source.size)

-- the name at this RVA was read, where names have at most `limit` bytes
pub record ReadsName (limit rva : ℕ) (result : Result NameRead Fault) (old new : MeterState) : Type 0 where
  pub fetches : FetchesAtMost (name_spent limit result) old.source new.source
  pub spends : Spends 0 0 limit old new
  pub cost : IfOk result (λ name. new.asked ≤ old.asked + read_cost name)
  -- one is reached, but at the RVA 0
  pub reached : new.names ≡ raised_if (nat_lt 0 rva) old.names
  pub named : IfOk result (λ name. Reaches (read_once name) old new)
  pub at_fault : IfErr result (λ fault. ReachesAtFault fault.kind old new)
  pub over : IfErr result (λ fault. IsUnmade (max 4 limit) fault.kind fault.offset fault.size (counts_of new) new.source.size)
  pub caused : IsCausedAt result old.source new.source

-- a record was read through a window of this room, by a fetch of so many bytes or by none, and its name where it has one
pub record ReadsRecord (room spent limit : ℕ) (result : Result Step Fault) (old new : MeterState) : Type 0 where
  pub fetches : FetchesAtMost (spent + step_spent limit result) old.source new.source
  pub spends : Spends (min 1 spent) spent limit old new
  pub named : IfOk result (λ step. Reaches (told_once step) old new)
  pub at_fault : IfErr result (λ fault. ReachesAtFault fault.kind old new)
  pub over : IfErr result (λ fault. IsUnmade (max room (max 4 limit)) fault.kind fault.offset fault.size (counts_of new) new.source.size)
  pub caused : IsCausedAt result old.source new.source

-- ---- which fetch a budget is told of

-- of the name at this RVA; where its length has a fault, just its bytes were fetched
abbrev pub IsNameTried : (limit rva : ℕ) → FaultKind → (offset size : ℕ) → MeterState → MeterState → Type 0
IsNameTried limit rva kinds.Budget offset size was now = IsNameFetch was.source.store.content was.source.size limit rva was.fetched now.fetched offset size
IsNameTried limit rva (kinds.Source fault) offset size was now = Unit {0}
IsNameTried limit rva kinds.NameLengthOutside offset size was now = now.fetched ≡ raised was.fetched (bad_name_cost limit kinds.NameLengthOutside)
IsNameTried limit rva kinds.NameOdd offset size was now = now.fetched ≡ raised was.fetched (bad_name_cost limit kinds.NameOdd)
IsNameTried limit rva kinds.NameUnitsOutside offset size was now = now.fetched ≡ raised was.fetched (bad_name_cost limit kinds.NameUnitsOutside)
IsNameTried limit rva kind offset size was now = ⊥

-- for a name that was read just its bytes were
abbrev pub TriesName : (limit rva : ℕ) → Result NameRead Fault → MeterState → MeterState → Type 0
TriesName limit rva (Ok name) was now = now.fetched ≡ raised was.fetched (read_cost name)
TriesName limit rva (Err fault) was now = IsNameTried limit rva fault.kind fault.offset fault.size was now

-- of the bytes of a record, or of its name
pub data IsRecordFetch (limit : ℕ) (kind : StreamKind) (at : ℕ) (was : MeterState) (w : WindowState) (fetched offset size : ℕ) : Type 0 where
  of_bytes : fetched ≡ was.fetched → IsWindowFetch w.room w.end (unfetched w) at (record_size kind) offset size → IsRecordFetch limit kind at was w fetched offset size
  of_name : (rva before : ℕ) → IsNamedAt was.source.store.content kind at rva → before ≡ raised was.fetched (window_takes w.room w.end (unfetched w) at (record_size kind))
      → IsNameFetch was.source.store.content was.source.size limit rva before fetched offset size
      → IsRecordFetch limit kind at was w fetched offset size

-- else what the window took was fetched for a record, and so many bytes for its name
abbrev pub TakesNamed : StreamKind → (at : ℕ) → MeterState → WindowState → (named : ℕ) → MeterState → Type 0
TakesNamed kind at was w named now = now.fetched ≡ raised was.fetched (window_takes w.room w.end (unfetched w) at (record_size kind) + named)

abbrev pub IsRecordTried : (limit : ℕ) → StreamKind → (at : ℕ) → MeterState → WindowState → MeterState → FaultKind → (offset size : ℕ) → Type 0
IsRecordTried limit kind at was w now kinds.Budget offset size = IsRecordFetch limit kind at was w now.fetched offset size
IsRecordTried limit kind at was w now (kinds.Source fault) offset size = Unit {0}
IsRecordTried limit kind at was w now kinds.NameLengthOutside offset size = TakesNamed kind at was w (bad_name_cost limit kinds.NameLengthOutside) now
IsRecordTried limit kind at was w now kinds.NameOdd offset size = TakesNamed kind at was w (bad_name_cost limit kinds.NameOdd) now
IsRecordTried limit kind at was w now kinds.NameUnitsOutside offset size = TakesNamed kind at was w (bad_name_cost limit kinds.NameUnitsOutside) now
IsRecordTried limit kind at was w now fault offset size = ⊥

-- and just the bytes that it left are unread behind a record that was read
abbrev pub TriesRecord : (limit : ℕ) → StreamKind → (at : ℕ) → Result Step Fault → (was now : MeterState) → (old new : WindowState) → Type 0
TriesRecord limit kind at (Ok step) was now old new =
    TakesNamed kind at was old (step_cost step) now × (unfetched new ≡ window_leaves old.room old.end (unfetched old) at (record_size kind))
TriesRecord limit kind at (Err fault) was now old new = IsRecordTried limit kind at was old now fault.kind fault.offset fault.size

-- of the head of a stream; where that has a fault, nothing was fetched, or what the window took of it
abbrev pub IsHeadTried : (room : ℕ) → Location → StreamKind → MeterState → MeterState → FaultKind → (offset size : ℕ) → Type 0
IsHeadTried room at kind was now kinds.Budget offset size =
    (now.fetched ≡ was.fetched) × IsWindowFetch room (at.rva + at.size) at.size at.rva (head_cost (form_of kind)) offset size
IsHeadTried room at kind was now (kinds.Source fault) offset size = Unit {0}
IsHeadTried room at kind was now kinds.NameLengthOutside offset size = ⊥
IsHeadTried room at kind was now kinds.NameOdd offset size = ⊥
IsHeadTried room at kind was now kinds.NameUnitsOutside offset size = ⊥
IsHeadTried room at kind was now fault offset size =
    (now.fetched ≡ was.fetched) ⊎ (now.fetched ≡ raised was.fetched (window_takes room (at.rva + at.size) at.size at.rva (head_cost (form_of kind))))

-- else what the window took of it was fetched, which comes off the bytes of the stream
abbrev pub TriesHead : Location → StreamKind → Result Head Fault → (was now : MeterState) → (old new : WindowState) → Type 0
TriesHead at kind (Ok head) was now old new =
    let taken = window_takes old.room (at.rva + at.size) at.size at.rva (head_cost (form_of kind)) in
    (now.fetched ≡ raised was.fetched taken) × (unfetched new ≡ at.size - taken)
TriesHead at kind (Err fault) was now old new = IsHeadTried old.room at kind was now fault.kind fault.offset fault.size

-- a step tells a record of this kind, its name fits in `room` bytes, and it begins no entry
pub record TellsRecord (room : ℕ) (kind : StreamKind) (s : Step) : Type 0 where
  pub held : IsStepHeld room (Some kind) s
  pub ranges : count_told s ≡ ranges_by kind 1
  pub passed : (next : ℕ) → passed_by s next ≡ next
  pub stays : (e : Entry) → current_by s e ≡ e
  pub begins : stream_told s ≡ None
