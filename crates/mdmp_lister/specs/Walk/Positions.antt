-- A walk whose next entry may be sought.
use Rattle.std.specs.Prelude.{◌≡◌, ◌<◌, ◌-◌, ◌*◌, ◌^◌, ℕ, List, Option, None, Some, Result, Ok, vec_len}
use Rattle.mdmp_lister.specs.declared.fault.ListFault.{ListFault}
use Rattle.mdmp_lister.specs.declared.item.StreamItem.{StreamItem}
use Rattle.mdmp_lister.specs.declared.meter.MeterCounts.{MeterCounts}
use Rattle.mdmp_lister.specs.declared.position.Position.{Position}
use Rattle.mdmp_lister.specs.declared.position.Position.TheVariants.{Begun, Sought, Within}
use Rattle.mdmp_lister.specs.declared.stage.Stage.{Stage}
use Rattle.mdmp_lister.specs.declared.step.Step.{Step}
use Rattle.mdmp_lister.specs.declared.walk.Walk.{Walk}
use Rattle.mdmp_lister.specs.Following.{Standing, through}
use Rattle.mdmp_lister.specs.Format.Listing.{Run, listing_sought, records_told}
use Rattle.mdmp_lister.specs.Stage.{IsCounted, IsUnended, StaysUnchanged, failure_of, records_left_in, standing_of, stop_of}
use Rattle.mdmp_lister.specs.Walk.{IsSound, left_of, work_of}
use Rattle.mdmp_lister.specs.Walk.Paying.{IsWithinSince, unread_bytes}
use Rattle.mdmp_lister.specs.Listed.{entry_cost}
use Rattle.mdmp_lister.specs.Walk.Requests.{Answered, EntryTaken}

-- ---- what a walker sees: of an entry that is sought nothing was read

abbrev pub stop_in : Position → Stage → Option (Option ListFault)
stop_in (Sought at) stage = None
stop_in _ stage = stop_of stage

abbrev pub records_at_position : Position → Stage → ℕ
records_at_position (Sought at) stage = 0
records_at_position _ stage = records_left_in stage

-- how far the current entry was given; nothing is left of it where another is sought
abbrev pub standing_in : Position → Stage → Standing
standing_in (Sought at) stage = through
standing_in _ stage = standing_of stage

-- ---- answers

-- behind the Stream item of an entry it has begun
abbrev pub position_by : Option StreamItem → Position
position_by (Some x) = Begun
position_by None = Within

-- and what was counted then is kept
abbrev pub mark_by : Option StreamItem → MeterCounts → MeterCounts → MeterCounts
mark_by (Some x) counts mark = counts
mark_by None counts mark = mark

module _ {S A : Type 0} where
  abbrev pub left_in : Position → Walk S A → List ℕ → Run
  left_in (Sought at) w file = listing_sought file w.choice w.name.limit at
  left_in _ w file = left_of w file

  abbrev pub unread_in : Position → Walk S A → ℕ
  unread_in (Sought at) w = 0
  unread_in _ w = unread_bytes w

  abbrev pub work_in : Position → Walk S A → ℕ
  work_in (Sought at) w = (vec_len w.entries - at) * 2 ^ 33
  work_in _ w = work_of w

  -- there is such an entry, and no fault that stays for good; or of the entry that was begun no record was given
  abbrev pub IsPositioned : Position → Walk S A → Type 0
  IsPositioned (Sought at) w = (at < vec_len w.entries) × (failure_of w.stage ≡ None)
  IsPositioned Begun w = IsUnended w.stage × ((file : List ℕ) → w.meter.source.store.content ≡ Some file
      → IsCounted (records_told file (record { number = w.next - 1; entry = w.current })) w.stage)
  IsPositioned Within w = Unit {0}

  -- since the Stream item that was given last no more was asked for or fetched than its stream has, and names
  pub record IsWalked (position : Position) (mark : MeterCounts) (w : Walk S A) : Type 0 where
    pub sound : IsSound w
    pub placed : IsPositioned position w
    -- no fault that stays for good tells that the store has changed
    pub unchanged : StaysUnchanged w.stage
    pub within : IsWithinSince mark.asked mark.fetched mark.names (entry_cost w.meter.source.size w.current) w

  -- the Stream item of the entry that was sought was given
  pub record GivesSought (at : ℕ) (old : Walk S A) (result : Result (Option Step) ListFault) (new : Walk S A) : Type 0 where
    pub step : Step
    pub answer : result ≡ Ok (Some step)
    pub taken : EntryTaken at old step new

  -- a request was answered so
  abbrev pub AnsweredFrom : Position → Walk S A → Result (Option Step) ListFault → Walk S A → Type 0
  AnsweredFrom (Sought at) old result new = GivesSought at old result new
  AnsweredFrom _ old result new = Answered old result new
