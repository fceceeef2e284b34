-- Memory that is read by an index.
use Rattle.std.specs.Prelude.{◌≡◌, ◌<◌, ◌+◌, ℕ, Bool, true, false, List, Some, get_or, is_some, length, slice_index}
use Rattle.mdmp_map.specs.declared.range.Range.{Range}
use Rattle.mdmp_map.specs.Ranges.{byte_at, first_range}

-- a byte is known exactly if a range holds its address, and then it is the byte of F that the first such range has; else
-- it is 0
pub record IsByte (F : List ℕ) (ranges : List Range) (address byte : ℕ) (is_known : Bool) : Type 0 where
  pub held : is_known ≡ is_some (first_range ranges address)
  pub zero : is_known ≡ false → byte ≡ 0
  pub of_file : is_known ≡ true → Some byte ≡ byte_at F ranges address

-- that of one place of a buffer
abbrev pub IsByteAt : List ℕ → List Range → ℕ → List ℕ → List Bool → ℕ → Type 0
IsByteAt F ranges address bytes known k = IsByte F ranges (address + k) (slice_index bytes k) (get_or known k false)

-- a buffer has the bytes of the addresses from this one on, as the ranges of F tell
abbrev pub ReadsBytes : List ℕ → List Range → ℕ → List ℕ → List Bool → Type 0
ReadsBytes F ranges address bytes known = (k : ℕ) → k < length bytes → IsByteAt F ranges address bytes known k

-- a byte that is known is one of F, and one that is not is 0
pub record IsSomeByteOf (F : List ℕ) (byte : ℕ) (is_known : Bool) : Type 0 where
  pub of_file : is_known ≡ true → (at : ℕ) × (at < length F) × (byte ≡ slice_index F at)
  pub zero : is_known ≡ false → byte ≡ 0

-- so is each byte of a buffer
abbrev pub AreSomeBytesOf : List ℕ → List ℕ → List Bool → Type 0
AreSomeBytesOf F bytes known = (k : ℕ) → k < length bytes → IsSomeByteOf F (slice_index bytes k) (get_or known k false)

-- a place of a buffer stays
pub record IsSameAt (bytes_old bytes_new : List ℕ) (known_old known_new : List Bool) (k : ℕ) : Type 0 where
  pub byte : slice_index bytes_new k ≡ slice_index bytes_old k
  pub known : get_or known_new k false ≡ get_or known_old k false
