-- The directory of a file, kept as a list of entries.
use Rattle.std.specs.Prelude.{◌≡◌, ◌<◌, ◌+◌, ℕ, List, [], ◌∷◌, length, get_or, Option, Some, None}
use Rattle.mdmp_wire.specs.declared.entry.Entry.{Entry}
use Rattle.mdmp_lister.specs.declared.choice.Choice.{Choice}
use Rattle.mdmp_lister.specs.Format.Listing.{chosen_from, entry_count, entry_of}

-- these are the first entries of the directory of F, in order
abbrev pub AreFirst : List ℕ → List Entry → Type 0
AreFirst F entries = (i : ℕ) (d : Entry) → i < length entries → get_or entries i d ≡ entry_of F i

-- and these all of them
pub record IsDirectory (F : List ℕ) (entries : List Entry) : Type 0 where
  pub count : length entries ≡ entry_count F
  pub each : (i : ℕ) (d : Entry) → i < length entries → get_or entries i d ≡ entry_of F i

-- the first chosen entry of F from number `from` on is this one, or there is none
abbrev pub IsFirstChosen : List ℕ → Choice → ℕ → Option ℕ → Type 0
IsFirstChosen F choice from None = chosen_from F choice from ≡ []
IsFirstChosen F choice from (Some i) = chosen_from F choice from ≡ record { number = i; entry = entry_of F i } ∷ chosen_from F choice (i + 1)
