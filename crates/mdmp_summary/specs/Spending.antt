-- What a summary fetches: at most the listed streams twice, and for each name that is reached its length and the limit on names.
use Rattle.std.specs.Prelude.{◌≡◌, ◌≤◌, ◌<◌, ◌+◌, ◌*◌, ◌^◌, ℕ, drop, min, false, IfErr, Option, None, Some, Result, Ok, Err}
use Rattle.mdmp_source.specs.Extent.{extent_of}
use Rattle.mdmp_source.specs.Source.{FetchesAtMost}
use Rattle.mdmp_source.specs.declared.location.Extent.{Extent}
use Rattle.mdmp_source.specs.declared.location.Extent.TheVariants.{Empty, Absent, Inside, Outside}
use Rattle.mdmp_source.specs.declared.location.Location.{Location}
use Rattle.mdmp_wire.specs.declared.system.SystemRecord.{SystemRecord}
use Rattle.mdmp_lister.specs.declared.meter.Amount.{Amount}
use Rattle.mdmp_lister.specs.declared.meter.MeterCounts.{MeterCounts}
use Rattle.mdmp_lister.specs.declared.position.Position.{Position}
use Rattle.mdmp_lister.specs.declared.position.Position.TheVariants.{Begun, Sought, Within}
use Rattle.mdmp_lister.specs.Listed.{cost_of, entry_cost}
use Rattle.mdmp_lister.specs.Meter.{SpendsAside}
use Rattle.mdmp_lister.specs.Walker.{WalkerState, is_sought}
use Rattle.mdmp_summary.specs.Summary.{context_room}
use Rattle.mdmp_summary.specs.Visiting.{IsAtMost, nothing_read}

-- a number rose by no more than so many bytes for each name that was reached
abbrev pub RisesByNames : (room old before new after : ℕ) → Type 0
RisesByNames room old before new after = new + before * room ≤ old + after * room

-- a name may cost its length, and as many bytes as the limit
abbrev pub room_for_name : WalkerState → ℕ
room_for_name v = v.list.limit + 4

-- the bytes of the streams that are listed of all entries
abbrev pub all_listed : WalkerState → ℕ
all_listed v = cost_of v.list.choice v.list.source.size v.list.entries

-- the number of the first entry that is not begun
abbrev pub next_number : Position → ℕ → ℕ
next_number (Sought number) passed = number
next_number Begun passed = passed
next_number Within passed = passed

-- the bytes of the streams that are listed of the entries from there on
abbrev pub ahead : WalkerState → ℕ
ahead v = cost_of v.list.choice v.list.source.size (drop (next_number v.position v.list.passed) v.list.entries)

-- nothing is known of that after the end
abbrev pub ahead_after : {E : Type 0} → Result (Unit {0}) E → WalkerState → ℕ
ahead_after (Ok done) v = 0
ahead_after (Err e) v = ahead v

-- counts of bytes: of those that were asked for, or fetched
module _ (count : MeterCounts → ℕ) where
  -- what may be counted once the entry that was begun last is passed over, names left out: what was counted before it, and its
  -- stream
  abbrev pub settled : WalkerState → ℕ
  settled v = count v.mark + entry_cost v.list.source.size v.list.current

  -- no more was counted than that, and names
  abbrev pub KeepsSettled : WalkerState → Type 0
  KeepsSettled v = RisesByNames (room_for_name v) (settled v) v.mark.names (count v.list.counts) v.list.counts.names

  -- a look counts no more than the entry that was begun and those ahead have
  pub record LookPaid {E : Type 0} (old : WalkerState) (result : Result (Unit {0}) E) (new : WalkerState) : Type 0 where
    pub rises : RisesByNames (room_for_name old) (settled old + ahead old) old.mark.names (settled new + ahead_after result new) new.mark.names
    pub kept : KeepsSettled new

  -- so many passes count no more than the entry that was begun, and as often all entries
  pub record PassPaid (passes : ℕ) (old new : WalkerState) : Type 0 where
    pub rises : RisesByNames (room_for_name old) (settled old + passes * all_listed old) old.mark.names (settled new) new.mark.names
    pub kept : KeepsSettled old → KeepsSettled new

-- names are counted up to the greatest u128; nothing is said from there on
abbrev pub CountsNames : WalkerState → Type 0
CountsNames v = v.list.counts.names + 1 < 2 ^ 128

-- at least so much had been read outside the listing when the entry was begun in which the listing stands, unless one is sought
abbrev pub IsBegunAfter : Amount → WalkerState → Type 0
IsBegunAfter least v = is_sought v ≡ false → IsAtMost least v.mark.aside

-- no more was read outside the listing since that entry was begun
abbrev pub ReadsNoneSince : WalkerState → Type 0
ReadsNoneSince v = IsAtMost v.list.counts.aside v.mark.aside

-- what a look fetches for the listing
pub record PaysLook {E : Type 0} (old : WalkerState) (result : Result (Unit {0}) E) (new : WalkerState) : Type 0 where
  pub more_names : old.list.counts.names ≤ new.list.counts.names
  pub asked : CountsNames new → LookPaid (λ c. c.asked) old result new
  pub fetched : CountsNames new → LookPaid (λ c. c.fetched) old result new
  pub outside : IsAtMost old.list.counts.aside new.list.counts.aside
  -- an error is one of the entry in which it began, or of one that it began
  pub begun : (least : Amount) → IsAtMost least old.list.counts.aside → IsBegunAfter least old → IfErr result (λ e. IsAtMost least new.mark.aside)

-- what so many passes over all entries fetch for the listing
pub record PaysPasses (passes : ℕ) (old new : WalkerState) : Type 0 where
  pub more_names : old.list.counts.names ≤ new.list.counts.names
  -- also with the read that was not made, so that no read limit of at least that many bytes ends them
  pub asked : CountsNames new → PassPaid (λ c. c.asked) passes old new
  pub fetched : CountsNames new → PassPaid (λ c. c.fetched) passes old new

-- what so many passes over all entries fetch, and the reading of so many contexts, which is outside the listing
pub record SpendsPasses (passes contexts : ℕ) (old new : WalkerState) : Type 0 where
  pub more_names : old.list.counts.names ≤ new.list.counts.names
  -- also with the read that was not made, so that no read limit of at least that many bytes ends them
  pub asked : CountsNames new → PassPaid (λ c. c.asked) passes old new
  pub fetched : CountsNames new → PassPaid (λ c. c.fetched) passes old new
  pub aside : new.list.counts.aside.bytes ≤ old.list.counts.aside.bytes + contexts * context_room
  pub aside_calls : new.list.counts.aside.calls ≤ old.list.counts.aside.calls + contexts

-- no more was read outside the listing than this, and the listing stays as it was
pub record ReadsOutside (most : Amount) (old new : WalkerState) : Type 0 where
  pub same : new ≡ record old { list = record old.list { source = new.list.source; counts = new.list.counts } }
  pub aside : SpendsAside most.calls most.bytes old.list.counts new.list.counts
  pub fetches : FetchesAtMost most.bytes old.list.source new.list.source

-- what is read of a context at most
abbrev pub context_cost : Amount
context_cost = record { bytes = context_room; calls = 1 }

-- and of the one at a location of this extent: if it lies inside the file and the system is known, as many bytes as it has, or the
-- first 272, by one call. Else nothing is read
abbrev pub context_amount : Option SystemRecord → Location → Extent → Amount
context_amount None at class = nothing_read
context_amount (Some system) at Inside = record { bytes = min at.size context_room; calls = 1 }
context_amount (Some system) at Empty = nothing_read
context_amount (Some system) at Absent = nothing_read
context_amount (Some system) at Outside = nothing_read

-- the registers were read
abbrev pub ReadsContext : Option SystemRecord → Location → WalkerState → WalkerState → Type 0
ReadsContext system at old new = ReadsOutside (context_amount system at (extent_of at old.list.source.size)) old new
