-- Ranges of bytes in a file, over whole numbers without a limit.
use Rattle.std.specs.Prelude.{◌≡◌, ◌≤◌, ◌+◌, ◌-◌, ◌⊎◌, ◌||◌, ◌==◌, ℕ, Bool, List, Option, IfSome, nat_le, take, drop}

-- `len` bytes at `at` lie inside a file of `size` bytes, where no bytes lie inside any file
abbrev pub IsInside : ℕ → ℕ → ℕ → Type 0
IsInside at len size = (len ≡ 0) ⊎ (at + len ≤ size)

-- the same, as a test
abbrev pub is_inside : ℕ → ℕ → ℕ → Bool
is_inside at len size = len == 0 || nat_le (at + len) size

-- the `len` bytes of a file at `at`, or those up to its end
abbrev pub bytes_at : List ℕ → ℕ → ℕ → List ℕ
bytes_at file at len = take len (drop at file)

-- of a file of known content the bytes from `at` up to `stop` stand at the front of `out`
abbrev pub IsObtained : Option (List ℕ) → ℕ → ℕ → List ℕ → Type 0
IsObtained content at stop out = IfSome content (λ file. take (stop - at) out ≡ bytes_at file at (stop - at))
