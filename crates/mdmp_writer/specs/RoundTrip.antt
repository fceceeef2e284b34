-- A dump that is written into memory, and read back.
use Rattle.std.specs.Prelude.{◌≡◌, ℕ, Some, None, Result, Ok, Err}
use Rattle.mdmp_lister.specs.declared.choice.Choice.TheVariants.{All}
use Rattle.mdmp_lister.specs.declared.fault.OpenFault.TheVariants as opening
use Rattle.mdmp_lister.specs.declared.limits.Limits.{Limits}
use Rattle.mdmp_dump.specs.declared.dump.Dump.{Dump}
use Rattle.mdmp_dump.specs.declared.fault.ReadFault.{ReadFault}
use Rattle.mdmp_dump.specs.declared.fault.ReadFault.TheVariants as reads
use Rattle.mdmp_dump.specs.Reading.{IsWithoutBudget}
use Rattle.mdmp_dump.specs.Refusal.{read_refusal}
use Rattle.mdmp_dump.specs.Within.{IsWithinLimits}
use Rattle.mdmp_writer.specs.declared.round_trip.RoundTripFault.{RoundTripFault}
use Rattle.mdmp_writer.specs.declared.round_trip.RoundTripFault.TheVariants as backs
use Rattle.mdmp_writer.specs.declared.round_trip.ToMemoryFault.{ToMemoryFault}
use Rattle.mdmp_writer.specs.declared.round_trip.ToMemoryFault.TheVariants as faults
use Rattle.mdmp_writer.specs.Layout.{layout_fault}
use Rattle.mdmp_writer.specs.Written.{written}

-- want of memory is told as such, and so is the limit of memory
abbrev pub not_read : ReadFault → RoundTripFault
not_read reads.Memory = backs.Memory
not_read (reads.Opening (opening.MemoryLimit held)) = backs.Memory
not_read fault = backs.Read fault

module _ {Z : Type 0} where
  -- why a dump has no bytes in memory: it can't be written, or memory is wanting
  abbrev pub IsNotInMemory : Dump Z → ToMemoryFault → Type 0
  IsNotInMemory d (faults.Layout fault) = layout_fault d ≡ Some fault
  IsNotInMemory d faults.Memory = layout_fault d ≡ None

  -- what is written of a dump is read within these limits: nothing in it is refused, no name and no parts
  pub record IsReadBack (limits : Limits) (part_limit : ℕ) (d : Dump Z) : Type 0 where
    pub unrefused : read_refusal (written d) All limits.name part_limit ≡ None

  -- what comes back of a dump that is read with these limits is the dump, and was read within them. Else it can't be written,
  -- or it is past the limits and refused for what the definition says of its bytes, or the budget was reached, where there is
  -- one, or memory is wanting.
  abbrev pub ComesBack : Dump Z → Limits → ℕ → Result (Dump Z) RoundTripFault → Type 0
  ComesBack d limits part_limit (Ok back) = (layout_fault d ≡ None) × ((back ≡ d) × IsReadBack limits part_limit d)
  ComesBack d limits part_limit (Err (backs.Layout fault)) = layout_fault d ≡ Some fault
  ComesBack d limits part_limit (Err (backs.Read fault)) =
      (layout_fault d ≡ None) × ((limits.budget ≡ None → IsWithoutBudget fault)
      × (IsWithoutBudget fault → (read_refusal (written d) All limits.name part_limit ≡ Some fault) × (IsWithinLimits limits.name part_limit d → ⊥)))
  ComesBack d limits part_limit (Err backs.Memory) = layout_fault d ≡ None
