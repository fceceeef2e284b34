-- What the names of items cost.
use Rattle.std.specs.Prelude.{◌≤◌, ◌*◌, ℕ, List, sum_by}
use Rattle.mdmp_source.specs.Count.{raised}
use Rattle.mdmp_lister.specs.declared.item.Item.{Item}
use Rattle.mdmp_lister.specs.Costs.{item_cost}

-- the bytes of the names of some items
abbrev pub names_bytes : List Item → ℕ
names_bytes items = sum_by item_cost items

-- since a count of fetched bytes was this, the names of some items were fetched, so many times, or more
abbrev pub FetchesNames : (times : ℕ) → List Item → (old new : ℕ) → Type 0
FetchesNames times items old new = raised old (times * names_bytes items) ≤ new
