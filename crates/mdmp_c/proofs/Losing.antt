-- The parts outside the file that a check gives.
use Rattle.std.proofs.Common.{◌≡◌, ◌∙◌, ◌++◌, ℕ, List, [], ◌∷◌, ap, map, refl, sym, append-nil}
use Rattle.std.specs.Prelude.{flat_map}
use Rattle.std.proofs.lemmas.List.{map-append}
use Rattle.std.proofs.lemmas.List.Concat.{flat_map-append}
use Rattle.mdmp_lister.specs.declared.choice.Choice.TheVariants.{All}
use Rattle.mdmp_lister.specs.Check.{items_of}
use Rattle.mdmp_lister.specs.Format.Listing.{Numbered, chosen, entry_listing}
use Rattle.mdmp_lister.specs.Format.Refusal.{opening_fault}
use Rattle.mdmp_summary.specs.BadEntries.{all_items}
use Rattle.mdmp_summary.specs.CheckRows.{are_some, check_rows, entry_parts, entry_rows, result_row}
use Rattle.mdmp_summary.specs.Part.{parts_outside}
use Rattle.mdmp_summary.specs.Summary.{outside}
use Rattle.mdmp_summary.specs.declared.check_row.CheckRow.{CheckRow}
use Rattle.mdmp_summary.specs.declared.check_row.CheckRow.TheVariants.{Part}
use Rattle.mdmp_summary.specs.declared.part.PartOutside.{PartOutside}
use Rattle.mdmp_engines.specs.CheckParts.{row_count}
use Rattle.mdmp_c.specs.declared.fault.PlainFault.{PlainFault}
use Rattle.mdmp_c.specs.GivenRows.{AreChecked}
use Rattle.mdmp_c.specs.PartsOutside.{ArePartsOutside, outside_given, outside_part, outside_parts}
use Rattle.mdmp_c.specs.SummaryRows.{outside_fault}
use Rattle.mdmp_c.specs.Table.{rows_unless}

-- ---- the parts of all rows are those of all items

module _ (F : List ℕ) (limit : ℕ) where
  parts_mapped : (parts : List PartOutside) → outside_parts (map Part parts) ≡ parts
  parts_mapped [] = refl
  parts_mapped (part ∷ parts) = ap (λ (ps : List PartOutside). part ∷ ps) (parts_mapped parts)

  parts_entry : (x : Numbered) → outside_parts (entry_rows F limit x) ≡ entry_parts F limit x
  parts_entry x =
      let parts = entry_parts F limit x in
      let row : CheckRow = result_row x.number (entry_listing F limit x).fault (are_some parts) in
      flat_map-append outside_part (map Part parts) (row ∷ []) ∙ ap (λ (ps : List PartOutside). ps ++ []) (parts_mapped parts) ∙ append-nil parts

  parts_entries : (xs : List Numbered) → outside_parts (flat_map (entry_rows F limit) xs) ≡ outside (items_of F limit xs)
  parts_entries [] = refl
  parts_entries (x ∷ xs) =
      flat_map-append outside_part (entry_rows F limit x) (flat_map (entry_rows F limit) xs)
      ∙ ap (λ (ps : List PartOutside). ps ++ outside_parts (flat_map (entry_rows F limit) xs)) (parts_entry x)
      ∙ ap (λ (ps : List PartOutside). entry_parts F limit x ++ ps) (parts_entries xs)
      ∙ sym (flat_map-append parts_outside (entry_listing F limit x).items (items_of F limit xs))

  pub parts_all : outside_parts (check_rows F limit) ≡ outside (all_items F limit)
  parts_all = parts_entries (chosen F All)

-- ---- what is given of all rows are those parts

parts_given : (rows : List CheckRow) → flat_map outside_given rows ≡ map outside_fault (outside_parts rows)
parts_given [] = refl
parts_given (row ∷ rows) =
    ap (λ (xs : List PlainFault). outside_given row ++ xs) (parts_given rows)
    ∙ sym (map-append outside_fault (outside_part row) (outside_parts rows))

pub are_parts : (F : List ℕ) (limit : ℕ) (told : PlainFault) (rows : List PlainFault) → AreChecked check_rows outside_given row_count F limit told rows → ArePartsOutside F limit told rows
are_parts F limit told rows are = record {
  told_is = are.told_is;
  rows_are = are.rows_are ∙ ap (rows_unless (opening_fault F All)) (parts_given (check_rows F limit) ∙ ap (map outside_fault) (parts_all F limit));
}
