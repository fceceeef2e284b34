-- The bytes of a directory's streams that are listed.
use Rattle.std.specs.Prelude.{◌≡◌, ◌≤◌, ◌+◌, ◌*◌, ◌^◌, ◌&&◌, ℕ, List, map, filter, sum_by, Option, Some, None, drop, get_or, length, if◌then◌else◌}
use Rattle.mdmp_wire.specs.declared.entry.Entry.{Entry}
use Rattle.mdmp_lister.specs.declared.choice.Choice.{Choice}
use Rattle.mdmp_lister.specs.Format.Listing.{is_chosen}
use Rattle.mdmp_lister.specs.Format.Numbers.{is_listed}

-- what an entry costs, where a stream of so many bytes costs what `f` tells: nothing where it is not listed of a file of
-- `size` bytes
unfoldable pub entry_cost_by : (ℕ → ℕ) → ℕ → Entry → ℕ
entry_cost_by f size e = if is_listed size e then f e.location.size else 0

-- the sizes of the streams that are listed of such a file, of the chosen ones of some entries
unfoldable pub sizes_in : Choice → ℕ → List Entry → List ℕ
sizes_in choice size entries = map (λ e. e.location.size) (filter (λ e. is_chosen choice e.stream_type && is_listed size e) entries)

-- what they cost together
unfoldable pub cost_by : (ℕ → ℕ) → Choice → ℕ → List Entry → ℕ
cost_by f choice size entries = sum_by f (sizes_in choice size entries)

-- what the first chosen entry from number `from` on costs, and those behind it
abbrev pub CostsFrom : (ℕ → ℕ) → Choice → ℕ → ℕ → Option ℕ → List Entry → Type 0
CostsFrom f choice size from None entries = Unit {0}
CostsFrom f choice size from (Some at) entries =
    (d : Entry) → entry_cost_by f size (get_or entries at d) + cost_by f choice size (drop (at + 1) entries) ≤ cost_by f choice size (drop from entries)

-- the bytes that the listing of an entry may fetch, those of names left out: all of its stream
abbrev pub entry_cost : ℕ → Entry → ℕ
entry_cost size e = entry_cost_by (λ d. d) size e

-- the same of the chosen ones of some entries
abbrev pub cost_of : Choice → ℕ → List Entry → ℕ
cost_of choice size entries = cost_by (λ d. d) choice size entries

-- so many bytes are listed of a directory, of a file of `size` bytes
pub record AreListed (bytes : ℕ) (choice : Choice) (size : ℕ) (entries : List Entry) : Type 0 where
  pub value : bytes ≡ cost_of choice size entries
  pub small : bytes ≤ 2 ^ 32 * length entries
