-- The cells of a block of addresses, which are read range after range.
use Rattle.std.specs.Prelude.{◌≡◌, ◌≤◌, ◌<◌, ◌+◌, ◌∷◌, ◌++◌, ◌&&◌, [], ℕ, zero, suc, Bool, false, if◌then◌else◌, List, Option, Some, get_or, length, slice_index}
use Rattle.mdmp_map.specs.declared.range.Range.{Range}
use Rattle.mdmp_map.specs.Painting.{PaintState, is_painted}
use Rattle.mdmp_map.specs.Ranges.{byte_at}
use Rattle.mdmp_lister.specs.Addressing.{FetchesAside, begins_stretch, cell, is_held}
use Rattle.mdmp_lister.specs.Meter.{BooksAside, MeterState, counts_of}

-- the byte of an address, beside which stands whether it is known, is as these ranges tell
pub record IsCell (content : Option (List ℕ)) (ranges : List Range) (address byte : ℕ) (is_known : Bool) : Type 0 where
  pub held : is_known ≡ is_held ranges address
  pub zero : is_known ≡ false → byte ≡ 0
  pub of_file : (F : List ℕ) → content ≡ Some F → cell byte is_known ≡ byte_at F ranges address

-- that of one place of a block
abbrev pub IsCellAt : Option (List ℕ) → List Range → ℕ → List ℕ → List Bool → ℕ → Type 0
IsCellAt content ranges address bytes known k = IsCell content ranges (address + k) (slice_index bytes k) (get_or known k false)

-- the bytes of a block are as these ranges tell
abbrev pub AreCells : Option (List ℕ) → List Range → ℕ → List ℕ → List Bool → Type 0
AreCells content ranges address bytes known = (k : ℕ) → k < length bytes → IsCellAt content ranges address bytes known k

-- those up to a place are as these ranges and one more tell, and the others as they alone
pub record AreCellsTo (from : ℕ) (content : Option (List ℕ)) (seen : List Range) (r : Range) (address : ℕ) (bytes : List ℕ) (known : List Bool) : Type 0 where
  pub before : (k : ℕ) → k < from → k < length bytes → IsCellAt content (seen ++ r ∷ []) address bytes known k
  pub behind : (k : ℕ) → from ≤ k → k < length bytes → IsCellAt content seen address bytes known k

-- what is painted is known
pub record ArePainted (s : PaintState) (known : List Bool) : Type 0 where
  pub count : s.count ≡ length known
  pub same : (k : ℕ) → k < s.count → is_painted s k ≡ get_or known k false

-- how many bytes are known
abbrev pub count_known : List Bool → ℕ
count_known [] = 0
count_known (b ∷ known) = (if b then 1 else 0) + count_known known

-- as many bytes were fetched aside as are newly known, at least one in each call
pub record BooksNewly (old new : List Bool) (before after : MeterState) : Type 0 where
  pub count : ℕ
  pub newly : count_known new ≡ count_known old + count
  pub books : BooksAside count count before after

-- at how many of the first n places a stretch begins whose byte is known
unfoldable pub count_begun : List Range → ℕ → List Bool → ℕ → ℕ
count_begun ranges address known zero = 0
count_begun ranges address known (suc n) = count_begun ranges address known n + (if get_or known n false && begins_stretch ranges address n then 1 else 0)

-- at most one call of `fetch` was made aside for each place at which a stretch begins whose byte is newly known
pub record FetchesBegun (ranges : List Range) (address : ℕ) (old new : List Bool) (before after : MeterState) : Type 0 where
  pub count : ℕ
  pub newly : count_begun ranges address old (length old) + count ≤ count_begun ranges address new (length new)
  pub fetches : FetchesAside count before.source after.source (counts_of before) (counts_of after)
