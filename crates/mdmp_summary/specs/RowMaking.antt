-- How the rows of a check are handed to a sink.
use Rattle.std.specs.Prelude.{◌≡◌, ◌++◌, ℕ, List, Bool, Option, Result, Ok, Err, map}
use Rattle.mdmp_lister.specs.declared.item.Item.{Item}
use Rattle.mdmp_lister.specs.declared.sink.Stopped.{Stopped}
use Rattle.mdmp_lister.specs.Sink.{Taken, TakenToStop}
use Rattle.mdmp_summary.specs.CheckRows.{entry_after, loses_after, loses_more, rows_told}
use Rattle.mdmp_summary.specs.declared.check_row.CheckRow.{CheckRow}
use Rattle.mdmp_summary.specs.declared.check_row.CheckRow.TheVariants.{Part}
use Rattle.mdmp_summary.specs.declared.part.PartOutside.{PartOutside}

-- the rows of some parts
abbrev pub rows_of_parts : List PartOutside → List CheckRow
rows_of_parts parts = map Part parts

module _ {K : Type 0} (step : K → CheckRow → Result (Unit {0}) Stopped → K → Type 0) where
  -- the sink took the first of some rows, and at the last of those it stopped
  pub record StopsAmong (k : K) (rows : List CheckRow) (l : K) : Type 0 where
    pub told : List CheckRow
    pub rest : List CheckRow
    pub splits : rows ≡ told ++ rest
    pub stopped : TakenToStop step k told l

  -- the sink took all of some rows, or stopped among them
  abbrev pub HandsRows : K → List CheckRow → Result (Unit {0}) Stopped → K → Type 0
  HandsRows k rows (Ok done) l = Taken step k rows l
  HandsRows k rows (Err stop) l = StopsAmong k rows l

  -- an item was taken, and its rows were put
  pub record HasTaken (k : K) (entry : Option ℕ) (loses : Bool) (x : Item) (l : K) (entry_now : Option ℕ) (loses_now : Bool) : Type 0 where
    pub taken : Taken step k (rows_told entry loses x) l
    pub entry_is : entry_now ≡ entry_after entry x
    pub loses_is : loses_now ≡ loses_after loses x

  abbrev pub TakesItem : K → Option ℕ → Bool → Item → Result (Unit {0}) Stopped → K → Option ℕ → Bool → Type 0
  TakesItem k entry loses x (Ok done) l entry_now loses_now = HasTaken k entry loses x l entry_now loses_now
  TakesItem k entry loses x (Err stop) l entry_now loses_now = StopsAmong k (rows_told entry loses x) l

-- once some parts were told it is known whether parts were lost
abbrev pub HasTold : Result (Unit {0}) Stopped → Bool → List PartOutside → Bool → Type 0
HasTold (Ok done) old parts new = new ≡ loses_more old parts
HasTold (Err stop) old parts new = Unit {0}
