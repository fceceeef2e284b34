-- The item and the range of a step that is held.
use Rattle.std.proofs.Common.{◌≡◌, ◌≤◌, ◌^◌, ◌-◌, ◌∷◌, ◌∙◌, [], ℕ, List, Option, length, ap, sym}
use Rattle.std.specs.Prelude.{IfSome}
use Rattle.mdmp_lister.specs.declared.item.Item.{Item}
use Rattle.mdmp_lister.specs.declared.item.RangeItem.{RangeItem}
use Rattle.mdmp_lister.specs.declared.step.Step.{Step}
use Rattle.mdmp_lister.specs.Format.Item.{plain}
use Rattle.mdmp_lister.specs.Format.Ranges.{IsRangeIn, ranges_of}
use Rattle.mdmp_lister.specs.Format.Summary.{Summary, summary_of}
use Rattle.mdmp_lister.specs.HeldStep.{TellsRange, ranges_told}
use Rattle.mdmp_lister.specs.Step.{IsItemOf, step_item}
use Rattle.mdmp_lister.specs.Walk.Owing.{count_told}
use Rattle.mdmp_lister.proofs.Classes.{plain-step}
use Rattle.mdmp_lister.proofs.Mapping.{fits_by, ranges_of-step}
use Rattle.mdmp_lister.proofs.Summary.{summary_of-plain}

module _ (z : ℕ) (s : Step) (given : Option RangeItem) (tells : TellsRange z s given) where
  -- what is told of a step without its item
  pub item_told : (buffer : List ℕ) → IsItemOf z buffer s (step_item z buffer s)
  item_told buffer = record { item = plain-step z buffer s; placed = rw (tells.told buffer) tells.placed }

  -- what the map is given is the range of the item
  pub ranges_told-of : (buffer : List ℕ) (x : Item) → plain x ≡ step_item z buffer s → ranges_told given ≡ ranges_of (x ∷ [])
  ranges_told-of buffer x same =
      ap ranges_told (sym (tells.told buffer) ∙ ap (λ (y : Item). (summary_of y).range) (sym same) ∙ ap (λ (y : Summary). y.range) (summary_of-plain x))

  pub ranges_told-few : length (ranges_told given) ≤ count_told s
  ranges_told-few = rw (ap ranges_told (tells.told [])) at (ranges_of-step z [] s)

  pub told-fits : IfSome given (IsRangeIn (2 ^ 64 - 1))
  told-fits = fits_by z given tells.placed
