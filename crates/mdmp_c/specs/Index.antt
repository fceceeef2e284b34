-- An index of rows that a caller keeps.
use Rattle.std.specs.Prelude.{◌≡◌, ◌≤◌, ◌<◌, ◌*◌, ◌^◌, ◌-◌, ℕ, Bool, List, Some, length, map, take, unwrap_or}
use Rattle.mdmp_map.specs.declared.range.Range.{Range}
use Rattle.mdmp_index.specs.declared.slot.IndexSlot.{IndexSlot}
use Rattle.mdmp_index.specs.Index.{IsFirstToHold, IsHeldByNone, IsIndexOf}
use Rattle.mdmp_index.specs.Reading.{AreSomeBytesOf}
use Rattle.mdmp_index.specs.Slots.{no_range}
use Rattle.mdmp_lister.specs.Addressing.{ReadsCells}
use Rattle.mdmp_c.specs.declared.fault.PlainFault.{PlainFault}
use Rattle.mdmp_c.specs.declared.rows.ModuleRow.{ModuleRow}
use Rattle.mdmp_c.specs.declared.rows.RangeRow.{RangeRow}
use Rattle.mdmp_c.specs.Fault.{no_fault}
use Rattle.mdmp_c.specs.Giving.{told_count}
use Rattle.mdmp_c.specs.Memory.{GivesNoBytes, kept_range, kept_ranges, lengths_differ}

-- the range of a row whose bytes lie inside a file of z bytes, or one of no bytes
abbrev pub row_range : ℕ → RangeRow → Range
row_range z r = unwrap_or (kept_range z r) no_range

abbrev pub row_ranges : ℕ → List RangeRow → List Range
row_ranges z rs = map (row_range z) rs

-- the addresses of a module's image
abbrev pub image_range : ModuleRow → Range
image_range m = record { start = m.base_of_image; length = m.size_of_image; offset = 0 }

abbrev pub image_ranges : List ModuleRow → List Range
image_ranges ms = map image_range ms

-- an index of the ranges was given
pub record MakesIndex (ranges : List Range) (status count : ℕ) (fault : PlainFault) (before after : List IndexSlot) : Type 0 where
  pub room : 2 * length ranges ≤ length before
  pub status_is : status ≡ 0
  pub fault_is : fault ≡ no_fault
  pub count_is : count ≤ 2 * length ranges
  pub index : IsIndexOf ranges (take count after)

-- nothing was, since the room is too small, and the count is how many slots it takes
pub record WantsRoom (ranges : List Range) (status count : ℕ) (fault : PlainFault) (before after : List IndexSlot) : Type 0 where
  pub room : length before < 2 * length ranges
  pub status_is : status ≡ 4
  pub fault_is : fault ≡ no_fault
  pub count_is : count ≡ told_count (2 * length ranges)
  pub same : after ≡ before

pub data GivesIndex (ranges : List Range) (status count : ℕ) (fault : PlainFault) (before after : List IndexSlot) : Type 0 where
  makes : MakesIndex ranges status count fault before after → GivesIndex ranges status count fault before after
  wants : WantsRoom ranges status count fault before after → GivesIndex ranges status count fault before after

-- memory of F was given by slots: by an index of rows what those rows tell, and by any slots bytes of F, or none
pub record GivesIndexed (F : List ℕ) (slots : List IndexSlot) (address status : ℕ) (fault : PlainFault) (out : List ℕ) (known : List Bool) : Type 0 where
  pub status_is : status ≡ 0
  pub fault_is : fault ≡ no_fault
  pub cells : (rows : List RangeRow) → IsIndexOf (row_ranges (length F) rows) slots → ReadsCells (Some F) (kept_ranges (length F) rows) address out known
  pub of_file : AreSomeBytesOf F out known

pub data ReadsIndexed (F : List ℕ) (slots : List IndexSlot) (address status : ℕ) (fault : PlainFault) (out_before out_after : List ℕ) (known_before known_after : List Bool) : Type 0 where
  reads : length out_before ≡ length known_before → GivesIndexed F slots address status fault out_after known_after
      → ReadsIndexed F slots address status fault out_before out_after known_before known_after
  differ : (length out_before ≡ length known_before → ⊥) → GivesNoBytes status 2 lengths_differ fault out_before out_after known_before known_after
      → ReadsIndexed F slots address status fault out_before out_after known_before known_after

-- the number of the first range that holds an address, or 2^64 - 1 where none does
pub data IsOwner (ranges : List Range) (address owner : ℕ) : Type 0 where
  held : IsFirstToHold ranges address owner → IsOwner ranges address owner
  none : owner ≡ 2 ^ 64 - 1 → IsHeldByNone ranges address → IsOwner ranges address owner
