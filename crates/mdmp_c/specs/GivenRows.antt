-- What a check gives as plain structures.
use Rattle.std.specs.Prelude.{◌≡◌, ◌+◌, ◌-◌, ◌^◌, ◌++◌, ℕ, List, flat_map, length, min, sum_by, Option, Some, None, Result, Ok}
use Rattle.mdmp_source.specs.Count.{raised}
use Rattle.mdmp_lister.specs.declared.choice.Choice.TheVariants.{All}
use Rattle.mdmp_lister.specs.declared.fault.ListFault.{ListFault}
use Rattle.mdmp_lister.specs.declared.sink.Stopped.{Stopped}
use Rattle.mdmp_lister.specs.Format.Refusal.{opening_fault}
use Rattle.mdmp_lister.specs.Lister.{ListerState}
use Rattle.mdmp_lister.specs.Meter.{KeepsTo}
use Rattle.mdmp_lister.specs.NamesFetched.{names_bytes}
use Rattle.mdmp_summary.specs.BadEntries.{all_items}
use Rattle.mdmp_c.specs.declared.given_rows.Judged.{Judged}
use Rattle.mdmp_c.specs.declared.fault.PlainFault.{PlainFault}
use Rattle.mdmp_c.specs.Fault.{plain_list_fault, told_unless}
use Rattle.mdmp_c.specs.Giving.{put_front, told_count}
use Rattle.mdmp_c.specs.Table.{IsCutShort, rows_unless}
use Rattle.mdmp_c.specs.ToolFault.{bad_entries}

-- of each row some structures are given, and a bad entry is counted: why F can't be opened, or how many of its entries are bad; and
-- what is given of all rows
pub record AreChecked {R : Type 0} (rows_of : List ℕ → ℕ → List R) (given : R → List PlainFault) (bad : R → ℕ) (F : List ℕ) (limit : ℕ) (told : PlainFault) (rows : List PlainFault) : Type 0 where
  pub told_is : told ≡ told_unless (opening_fault F All) (bad_entries (sum_by bad (rows_of F limit)))
  pub rows_are : rows ≡ rows_unless (opening_fault F All) (flat_map given (rows_of F limit))

-- what is given of a row was put behind that which an array has at its front, and counted, and so was a bad entry
pub record TakesRow {R : Type 0} (given : R → List PlainFault) (is_bad : R → ℕ) (before : List PlainFault) (count bad : ℕ) (row : R) (result : Result (Unit {0}) Stopped) (after : List PlainFault) (count_new bad_new : ℕ) : Type 0 where
  pub taken : result ≡ Ok tt
  pub put : (front start : List PlainFault) → before ≡ put_front front start → count ≡ told_count (length front) → after ≡ put_front (front ++ given row) start
  pub count_is : count_new ≡ min (count + length (given row)) (2 ^ 64 - 1)
  pub bad_is : bad_new ≡ min (bad + is_bad row) (2 ^ 64 - 1)

-- what is told where a check ends so: how many entries are bad, or the fault at which it ends
abbrev pub ending_told : ℕ → Option ListFault → PlainFault
ending_told bad (Some fault) = plain_list_fault fault
ending_told bad None = bad_entries bad

-- what is given of some rows was put into an array, and counted, as far as 64 bits can, and so were the bad entries
pub record PutsChecked {R : Type 0} (given : R → List PlainFault) (is_bad : R → ℕ) (rows : List R) (judged : Judged) (before after : List PlainFault) : Type 0 where
  pub count_is : judged.count ≡ told_count (length (flat_map given rows))
  pub bad_is : judged.bad ≡ told_count (sum_by is_bad rows)
  pub out : after ≡ put_front (flat_map given rows) before

-- with the names of all items of F a lister keeps to its budget
abbrev pub AreNamesWithin : ListerState → List ℕ → Type 0
AreNamesWithin v F = KeepsTo v.counts.budget (raised v.counts.fetched (names_bytes (all_items F v.limit)))

-- that of all rows was put there, and all was read so, or that of the first of them, up to where the budget was reached
pub data GivesChecked {R : Type 0} (given : R → List PlainFault) (is_bad : R → ℕ) (all : List R) (IsReadSo : Type 0) (MayEnd : ListFault → Type 0) (judged : Judged) (before after : List PlainFault) : Type 0 where
  gives_all : judged.fault ≡ None → IsReadSo → PutsChecked given is_bad all judged before after → GivesChecked given is_bad all IsReadSo MayEnd judged before after
  gives_some : (rows : List R) → IsCutShort MayEnd all rows judged.fault → PutsChecked given is_bad rows judged before after
      → GivesChecked given is_bad all IsReadSo MayEnd judged before after
