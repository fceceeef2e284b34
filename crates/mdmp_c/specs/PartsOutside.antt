-- The parts of records that lie outside the file, as plain structures.
use Rattle.std.specs.Prelude.{◌≡◌, ◌∷◌, [], ℕ, List, flat_map, map}
use Rattle.mdmp_lister.specs.declared.choice.Choice.TheVariants.{All}
use Rattle.mdmp_lister.specs.Format.Refusal.{opening_fault}
use Rattle.mdmp_summary.specs.BadEntries.{all_items}
use Rattle.mdmp_summary.specs.CheckRows.{check_rows}
use Rattle.mdmp_summary.specs.Summary.{outside}
use Rattle.mdmp_summary.specs.declared.check_row.CheckRow.{CheckRow}
use Rattle.mdmp_summary.specs.declared.check_row.CheckRow.TheVariants.{Part, Entry}
use Rattle.mdmp_summary.specs.declared.part.PartOutside.{PartOutside}
use Rattle.mdmp_engines.specs.CheckParts.{bad_rows}
use Rattle.mdmp_c.specs.declared.fault.PlainFault.{PlainFault}
use Rattle.mdmp_c.specs.Fault.{told_unless}
use Rattle.mdmp_c.specs.SummaryRows.{outside_fault}
use Rattle.mdmp_c.specs.Table.{rows_unless}
use Rattle.mdmp_c.specs.ToolFault.{bad_entries}

-- why F can't be opened, or how many of its entries have an error or a part outside F; and each of these parts, which are those that
-- a summary counts
pub record ArePartsOutside (F : List ℕ) (limit : ℕ) (told : PlainFault) (rows : List PlainFault) : Type 0 where
  pub told_is : told ≡ told_unless (opening_fault F All) (bad_entries (bad_rows (check_rows F limit)))
  pub rows_are : rows ≡ rows_unless (opening_fault F All) (map outside_fault (outside (all_items F limit)))

-- the part that a row tells
abbrev pub outside_part : CheckRow → List PartOutside
outside_part (Part part) = part ∷ []
outside_part (Entry row) = []

abbrev pub outside_parts : List CheckRow → List PartOutside
outside_parts rows = flat_map outside_part rows

-- what is given of a row
abbrev pub outside_given : CheckRow → List PlainFault
outside_given row = map outside_fault (outside_part row)
