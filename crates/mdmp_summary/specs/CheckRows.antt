-- The rows of a check of entries and of their parts.
use Rattle.std.specs.Prelude.{◌≡◌, ◌++◌, ℕ, List, [], ◌∷◌, Bool, true, false, Option, Some, None, Result, Ok, Err, flat_map, map}
use Rattle.mdmp_lister.specs.declared.choice.Choice.TheVariants.{All}
use Rattle.mdmp_lister.specs.declared.fault.ListFault.{ListFault}
use Rattle.mdmp_lister.specs.declared.item.Item.{Item}
use Rattle.mdmp_lister.specs.declared.item.Item.TheVariants as items
use Rattle.mdmp_lister.specs.declared.sink.RunFault.{RunFault}
use Rattle.mdmp_lister.specs.Format.Listing.{Numbered, Run, chosen, entry_listing}
use Rattle.mdmp_summary.specs.Part.{parts_outside}
use Rattle.mdmp_summary.specs.declared.check_row.CheckRow.{CheckRow}
use Rattle.mdmp_summary.specs.declared.check_row.CheckRow.TheVariants.{Part, Entry}
use Rattle.mdmp_summary.specs.declared.part.PartOutside.{PartOutside}

-- ---- of a known file

-- the parts of an entry of F that lie outside, of its records up to its own error
abbrev pub entry_parts : List ℕ → ℕ → Numbered → List PartOutside
entry_parts F limit x = flat_map parts_outside (entry_listing F limit x).items

-- parts were lost before, or there are some
abbrev pub loses_more : Bool → List PartOutside → Bool
loses_more loses [] = loses
loses_more loses (part ∷ parts) = true

-- there are some
abbrev pub are_some : List PartOutside → Bool
are_some parts = loses_more false parts

-- the result of checking entry e
abbrev pub result_row : ℕ → Option ListFault → Bool → CheckRow
result_row e fault loses = Entry (record { verdict = record { entry = e; fault = fault }; loses_parts = loses })

-- the rows of an entry: its parts that lie outside, and then its result
abbrev pub entry_rows : List ℕ → ℕ → Numbered → List CheckRow
entry_rows F limit x = map Part (entry_parts F limit x) ++ result_row x.number (entry_listing F limit x).fault (are_some (entry_parts F limit x)) ∷ []

-- those of all entries, in the order of the directory
abbrev pub check_rows : List ℕ → ℕ → List CheckRow
check_rows F limit = flat_map (entry_rows F limit) (chosen F All)

-- ---- an item at a time

-- the result of an entry that was read to its end
abbrev pub good_row : Option ℕ → Bool → List CheckRow
good_row None loses = []
good_row (Some e) loses = result_row e None loses ∷ []

-- what an item tells: one that begins an entry tells the result of the entry before it, if there is one
abbrev pub rows_told : Option ℕ → Bool → Item → List CheckRow
rows_told entry loses (items.Stream x) = good_row entry loses
rows_told entry loses x = map Part (parts_outside x)

-- the entry that was begun, and whether it has lost a part
abbrev pub entry_after : Option ℕ → Item → Option ℕ
entry_after entry (items.Stream x) = Some x.entry
entry_after entry x = entry

abbrev pub loses_after : Bool → Item → Bool
loses_after loses (items.Stream x) = false
loses_after loses x = loses_more loses (parts_outside x)

-- the same of some items
abbrev pub rows_over : Option ℕ → Bool → List Item → List CheckRow
rows_over entry loses [] = []
rows_over entry loses (x ∷ xs) = rows_told entry loses x ++ rows_over (entry_after entry x) (loses_after loses x) xs

abbrev pub entry_behind : Option ℕ → List Item → Option ℕ
entry_behind entry [] = entry
entry_behind entry (x ∷ xs) = entry_behind (entry_after entry x) xs

abbrev pub loses_behind : Bool → List Item → Bool
loses_behind loses [] = loses
loses_behind loses (x ∷ xs) = loses_behind (loses_after loses x) xs

-- what the end of a run tells, or the error that ends it
abbrev pub end_rows : Option ℕ → Bool → Option ListFault → List CheckRow
end_rows entry loses None = good_row entry loses
end_rows entry loses (Some f) = result_row f.entry (Some f) loses ∷ []

-- all that a run tells
abbrev pub run_rows : Run → List CheckRow
run_rows run = rows_over None false run.items ++ end_rows (entry_behind None run.items) (loses_behind false run.items) run.fault

-- ---- rows that were told

-- these rows are the first of all, and after the last entry they are all
abbrev pub AreFirstRows : List CheckRow → List CheckRow → Result (Unit {0}) RunFault → Type 0
AreFirstRows all rows (Ok done) = all ≡ rows
AreFirstRows all rows (Err fault) = (rest : List CheckRow) × (all ≡ rows ++ rest)
