-- The items of all entries, each entry up to its own error, and the entries that have an error.
use Rattle.std.specs.Prelude.{ℕ, List, [], ◌∷◌, Option, Some, None, flat_map, length}
use Rattle.mdmp_lister.specs.declared.choice.Choice.TheVariants.{All}
use Rattle.mdmp_lister.specs.declared.fault.ListFault.{ListFault}
use Rattle.mdmp_lister.specs.declared.item.Item.{Item}
use Rattle.mdmp_lister.specs.Check.{items_of}
use Rattle.mdmp_lister.specs.Format.Listing.{chosen, verdicts}
use Rattle.mdmp_summary.specs.Keeping.{first}
use Rattle.mdmp_summary.specs.declared.bad_entries.BadEntries.{BadEntries}

-- the items of all entries of F, each entry up to its own error
abbrev pub all_items : List ℕ → ℕ → List Item
all_items F limit = items_of F limit (chosen F All)

-- the error of an entry, if it has one
abbrev pub entry_fault : Option ListFault → List ListFault
entry_fault None = []
entry_fault (Some f) = f ∷ []

-- the errors of the entries of F, which are those that `check` tells, in the order of the directory
abbrev pub entry_faults : List ℕ → ℕ → List ListFault
entry_faults F limit = flat_map (λ v. entry_fault v.fault) (verdicts F All limit)

-- how many entries are bad, and the first error
abbrev pub told_bad : List ListFault → BadEntries
told_bad faults = record { count = length faults; first = first faults }
