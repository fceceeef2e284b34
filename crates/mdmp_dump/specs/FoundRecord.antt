-- A record of a file, by the places of its name and parts.
use Rattle.std.specs.Prelude.{◌≡◌, ◌≤◌, ◌<◌, ◌+◌, ℕ, List, length, map, get_or}
use Rattle.mdmp_dump.specs.declared.found_record.FoundRecord.{FoundRecord}
use Rattle.mdmp_dump.specs.declared.found_record.PartAt.{PartAt}
use Rattle.mdmp_dump.specs.declared.view.Fields.{Fields}
use Rattle.mdmp_dump.specs.declared.view.PartSize.{PartSize}
use Rattle.mdmp_dump.specs.declared.view.PartSize.TheVariants.{NoPart}
use Rattle.mdmp_dump.specs.Placed.{size_in}

-- what a view gives of it
abbrev pub fields_of : FoundRecord → Fields
fields_of f = record { wire = f.wire; parts = map (λ p. p.size) f.parts }

abbrev pub no_part : PartAt
no_part = record { size = NoPart; at = 0 }

-- a part that has bytes has them inside a file of `size` bytes
abbrev pub IsPartIn : ℕ → PartSize → ℕ → Type 0
IsPartIn size p at = 0 < size_in p → at + size_in p ≤ size

abbrev pub AreIn : ℕ → List PartAt → Type 0
AreIn size parts = (length parts ≡ 3) × ((k : ℕ) → IsPartIn size (get_or parts k no_part).size (get_or parts k no_part).at)
