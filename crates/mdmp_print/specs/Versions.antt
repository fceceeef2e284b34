-- Versions.
use Rattle.std.specs.Prelude.{ℕ, ◌/◌, ◌%◌, List, [], ◌∷◌, codes}
use Rattle.std.specs.List.{concat}
use Rattle.std.specs.Fmt.{decimal}

-- `<a>.<b>.<c>.<d>`, the halves of two numbers
abbrev pub file_version_text : ℕ → ℕ → List ℕ
file_version_text ms ls = concat (decimal (ms / 65536) ∷ codes "." ∷ decimal (ms % 65536) ∷ codes "." ∷ decimal (ls / 65536) ∷ codes "." ∷ decimal (ls % 65536) ∷ [])

-- `<major>.<minor>.<build>`
abbrev pub build_text : ℕ → ℕ → ℕ → List ℕ
build_text major minor build = concat (decimal major ∷ codes "." ∷ decimal minor ∷ codes "." ∷ decimal build ∷ [])
