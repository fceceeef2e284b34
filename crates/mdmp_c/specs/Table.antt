-- What the calls give that give an array.
use Rattle.std.specs.Prelude.{◌≡◌, ◌≤◌, ◌+◌, ◌-◌, ◌^◌, ◌++◌, ◌∷◌, ℕ, IfSome, IsTrue, List, [], Option, Some, None, filter_map, length, max, min}
use Rattle.mdmp_source.specs.Range.{IsInside}
use Rattle.mdmp_c.specs.declared.fault.PlainFault.{PlainFault}
use Rattle.mdmp_c.specs.Fault.{list_told, told_unless}
use Rattle.mdmp_c.specs.Giving.{put_front, told_count}
use Rattle.mdmp_c.specs.NextRead.{CameNext}
use Rattle.mdmp_lister.specs.declared.choice.Choice.{Choice}
use Rattle.mdmp_lister.specs.declared.fault.FaultKind.TheVariants as kinds
use Rattle.mdmp_lister.specs.declared.fault.ListFault.{ListFault}
use Rattle.mdmp_lister.specs.declared.fault.OpenFault.{OpenFault}
use Rattle.mdmp_lister.specs.declared.item.Item.{Item}
use Rattle.mdmp_lister.specs.Format.Listing.{Run, listing}
use Rattle.mdmp_lister.specs.Format.Refusal.{opening_fault}
use Rattle.mdmp_lister.specs.Lister.{ListerState}
use Rattle.mdmp_lister.specs.Meter.{KeepsTo, is_passed}

-- rows of a file that can be listed: a refused one has none
abbrev pub rows_unless : {T : Type 0} → Option OpenFault → List T → List T
rows_unless (Some fault) rows = []
rows_unless None rows = rows

-- why F can't be opened, or the first fault of the listing of these entries; and the rows of its items up to there
pub record IsTable {T : Type 0} (row : Item → Option T) (F : List ℕ) (choice : Choice) (limit : ℕ) (told : PlainFault) (rows : List T) : Type 0 where
  pub told_is : told ≡ told_unless (opening_fault F choice) (list_told (listing F choice limit).fault)
  pub rows_are : rows ≡ rows_unless (opening_fault F choice) (filter_map row (listing F choice limit).items)

-- the rows of some items were put into an array, as far as it has room
pub record PutsRows {T : Type 0} (row : Item → Option T) (items : List Item) (count : ℕ) (before after : List T) : Type 0 where
  pub count_is : count ≡ told_count (length (filter_map row items))
  pub out : after ≡ put_front (filter_map row items) before

module _ {T : Type 0} where
  -- a row, if there is one, was put behind those that an array has at its front, and counted
  abbrev pub PutsOne : Option T → ℕ → List T → ℕ → List T → Type 0
  PutsOne None count before count_new after = (count_new ≡ count) × (after ≡ before)
  PutsOne (Some row) count before count_new after =
      (count_new ≡ min (count + 1) (2 ^ 64 - 1)) × ((rows start : List T) → before ≡ put_front rows start → count ≡ told_count (length rows) → after ≡ put_front (rows ++ row ∷ []) start)

-- a lister v did not read these bytes, which came next, since with them it would have read more than its budget; without them it has not.
-- With them it would have read at most so many bytes, if that is said
pub record IsEndedAt (v : ListerState) (most : Option ℕ) (offset size : ℕ) : Type 0 where
  pub read : ℕ
  pub kept : KeepsTo v.counts.budget read
  pub passes : IsTrue (is_passed v.counts.budget (read + size))
  pub bound : IfSome most (λ n. read + size ≤ n)
  pub inside : IsInside offset size v.source.size
  pub few : size ≤ max v.rooms.window v.limit
  pub next : CameNext v read offset size

-- the same of a fault of its listing
abbrev pub EndsListAt : ListerState → ℕ → ListFault → Type 0
EndsListAt v most f = IsEndedAt v (Some most) f.offset f.size

-- the first of all that there are were given, and then the budget was reached, at a fault that may be told so
pub record IsCutShort {T : Type 0} (MayEnd : ListFault → Type 0) (all given : List T) (fault : Option ListFault) : Type 0 where
  pub rest : List T
  pub first : all ≡ given ++ rest
  pub told : ListFault
  pub told_is : fault ≡ Some told
  pub kind : told.kind ≡ kinds.Budget
  pub reached : MayEnd told

-- the rows of a run were put there up to its fault or none, and its items were all given so, or those of its first items up to where the
-- budget was reached
pub data Collects {T : Type 0} (row : Item → Option T) (MayEnd : ListFault → Type 0) (AreGivenSo : List Item → Type 0) (run : Run) (count : ℕ) (fault : Option ListFault) (before after : List T) : Type 0 where
  collects_all : fault ≡ run.fault → AreGivenSo run.items → PutsRows row run.items count before after → Collects row MayEnd AreGivenSo run count fault before after
  collects_some : (given : List Item) → IsCutShort MayEnd run.items given fault → PutsRows row given count before after → Collects row MayEnd AreGivenSo run count fault before after
