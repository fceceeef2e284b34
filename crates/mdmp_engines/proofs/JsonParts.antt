-- Each object of a check that looks at parts may stand on a line of JSON Lines.
use Rattle.std.proofs.Common.{◌≡◌, ℕ, true, List, [], ◌∷◌, ◌++◌, map, refl, ap}
use Rattle.std.specs.List.{All, flat_map}
use Rattle.std.proofs.lemmas.List.Elements.{All-append, All-cons, All-head, All-map, All-nil, All-tail, All-weaker}
use Rattle.mdmp_source.specs.Store.{AreBytes}
use Rattle.mdmp_lister.specs.declared.choice.Choice.TheVariants.{All as EveryType}
use Rattle.mdmp_lister.specs.declared.item.Item.{Item}
use Rattle.mdmp_lister.specs.Format.Listing.{Numbered, chosen, entry_listing}
use Rattle.mdmp_summary.specs.CheckRows.{are_some, check_rows, entry_parts, entry_rows, result_row}
use Rattle.mdmp_summary.specs.Part.{parts_outside}
use Rattle.mdmp_summary.specs.declared.check_row.CheckRow.{CheckRow}
use Rattle.mdmp_summary.specs.declared.check_row.CheckRow.TheVariants.{Part, Entry}
use Rattle.mdmp_wire.specs.declared.slot.PartName.{PartName}
use Rattle.mdmp_wire.specs.declared.slot.PartName.TheVariants as kinds
use Rattle.mdmp_summary.specs.declared.part.PartOutside.{PartOutside}
use Rattle.mdmp_print.specs.Json.{object_line}
use Rattle.mdmp_print.specs.JsonLines.{verdict_object}
use Rattle.mdmp_print.specs.PartLines.{lost_part_members, part_object, part_words}
use Rattle.mdmp_print.specs.declared.form.LineForm.TheVariants.{Json}
use Rattle.mdmp_engines.specs.CheckParts.{row_lines}
use Rattle.mdmp_engines.specs.JsonLaws.{IsJsonLine, row_object}
use Rattle.mdmp_engines.proofs.JsonListings.{IsPrinted, IsSmallEntry, IsSmallPart, chosen-small, entry_listing-printed}
use Rattle.mdmp_engines.proofs.JsonObjects.{verdict-line}
use Rattle.mdmp_engines.proofs.JsonPlain.{are_plain}
use Rattle.mdmp_engines.proofs.JsonReads.{◌&◌, is_line, number, wide, words}

part-plain : (part : PartName) → are_plain (part_words part) ≡ true
part-plain kinds.Stack = refl
part-plain kinds.Context = refl
part-plain kinds.CodeView = refl
part-plain kinds.Misc = refl
part-plain kinds.Memory = refl

part-line : (part : PartOutside) → IsSmallPart part → IsJsonLine (part_object part)
part-line part small = is_line (lost_part_members part) (
    words 1 _ _ refl refl & number 1 _ _ refl small & wide 1 _ _ refl & words 1 _ _ refl (part-plain part.part)
    & wide 1 _ _ refl & wide 1 _ _ refl & tt)

abbrev IsRowLine : CheckRow → Type 0
IsRowLine row = IsJsonLine (row_object row)

parts-lines : (parts : List PartOutside) → All IsSmallPart parts → All IsRowLine (map Part parts)
parts-lines parts small = All-map IsRowLine Part parts (All-weaker IsSmallPart (λ part. IsRowLine (Part part)) (λ part few. part-line part few) parts small)

items-parts : (xs : List Item) → All IsPrinted xs → All IsSmallPart (flat_map parts_outside xs)
items-parts [] h = All-nil IsSmallPart
items-parts (x ∷ xs) h =
    All-append IsSmallPart (parts_outside x) (flat_map parts_outside xs) (All-head IsPrinted x xs h).1.1 (items-parts xs (All-tail IsPrinted x xs h))

module _ (F : List ℕ) (bytes : AreBytes F) (limit : ℕ) where
  entry-lines : (x : Numbered) → IsSmallEntry x → All IsRowLine (entry_rows F limit x)
  entry-lines x small =
      let parts : List PartOutside = entry_parts F limit x in
      let run = entry_listing F limit x in
      let row : CheckRow = result_row x.number run.fault (are_some parts) in
      All-append IsRowLine (map Part parts) (row ∷ [])
      (parts-lines parts (items-parts run.items (entry_listing-printed F bytes limit x small)))
      (All-cons IsRowLine row [] (verdict-line (record { entry = x.number; fault = run.fault }) small.0) (All-nil IsRowLine))

  entries-lines : (xs : List Numbered) → All IsSmallEntry xs → All IsRowLine (flat_map (entry_rows F limit) xs)
  entries-lines [] h = All-nil IsRowLine
  entries-lines (x ∷ xs) h =
      All-append IsRowLine (entry_rows F limit x) (flat_map (entry_rows F limit) xs)
      (entry-lines x (All-head IsSmallEntry x xs h)) (entries-lines xs (All-tail IsSmallEntry x xs h))

  pub check_rows-lines : All IsJsonLine (map row_object (check_rows F limit))
  check_rows-lines = All-map IsJsonLine row_object (check_rows F limit) (entries-lines (chosen F EveryType) (chosen-small F bytes limit EveryType))

-- the lines of rows are those of their objects
pub rows-objects : (rows : List CheckRow) → row_lines Json rows ≡ flat_map object_line (map row_object rows)
rows-objects [] = refl
rows-objects (Part part ∷ rows) = ap (λ (s : List ℕ). object_line (part_object part) ++ s) (rows-objects rows)
rows-objects (Entry row ∷ rows) = ap (λ (s : List ℕ). object_line (verdict_object row.verdict) ++ s) (rows-objects rows)
