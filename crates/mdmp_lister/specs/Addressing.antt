-- What is read of the dumped process's memory. A cell is the byte of an address, or none where no range holds the
-- address.
use Rattle.std.specs.Prelude.{◌≡◌, ◌≤◌, ◌<◌, ◌+◌, ◌-◌, ◌*◌, ◌/◌, ◌^◌, ℕ, Bool, if◌then◌else◌, ◌==◌, ◌&&◌, not, false, zero, suc, List, Option, Some, None, is_some, length, map, option_map, slice_index, unwrap_or, Result, OnOk}
use Rattle.std.specs.List.{range_with_len, zip}
use Rattle.mdmp_map.specs.declared.range.Range.{Range}
use Rattle.mdmp_map.specs.Ranges.{AreSorted, byte_at, first_range}
use Rattle.mdmp_source.specs.Count.{raised}
use Rattle.mdmp_source.specs.Source.{SourceState, fault_of}
use Rattle.mdmp_source.specs.declared.fault.SourceFault.{SourceFault}
use Rattle.mdmp_lister.specs.Fault.{IsCaused}
use Rattle.mdmp_lister.specs.Meter.{BooksAside, MeterState}
use Rattle.mdmp_lister.specs.declared.meter.MeterCounts.{MeterCounts}

-- whether a range holds the address
abbrev pub is_held : List Range → ℕ → Bool
is_held ranges address = is_some (first_range ranges address)

-- the same of so many addresses, from this one on
abbrev pub held_at : List Range → ℕ → ℕ → List Bool
held_at ranges address count = map (λ i. is_held ranges (address + i)) (range_with_len 0 count)

-- the cells of so many addresses, from this one on, where the file is F
abbrev pub cells_at : List ℕ → List Range → ℕ → ℕ → List (Option ℕ)
cells_at F ranges address count = map (λ i. byte_at F ranges (address + i)) (range_with_len 0 count)

-- a byte, where it is known
abbrev pub cell : ℕ → Bool → Option ℕ
cell byte is_known = if is_known then Some byte else None

-- some bytes, beside each of which stands whether it is known
abbrev pub cells : List ℕ → List Bool → List (Option ℕ)
cells bytes known = map (λ (byte, is_known). cell byte is_known) (zip bytes known)

-- so many addresses from this one on, whose bytes follow each other in the file from an offset on, or which no range holds
pub record IsStretch (ranges : List Range) (address : ℕ) (offset : Option ℕ) (count : ℕ) : Type 0 where
  pub held : (k : ℕ) → k < count → is_held ranges (address + k) ≡ is_some offset
  pub bytes : (F : List ℕ) (k : ℕ) → k < count → byte_at F ranges (address + k) ≡ option_map (λ at. slice_index F (at + k)) offset

-- whether two addresses have the same range, which is the first to hold them
abbrev pub is_same_range : Option Range → Option Range → Bool
is_same_range (Some q) (Some r) = q.start == r.start && (q.length == r.length && q.offset == r.offset)
is_same_range q r = false

-- whether a stretch begins at place k behind an address: a range holds it that is not the first to hold the place before
abbrev pub begins_stretch : List Range → ℕ → ℕ → Bool
begins_stretch ranges address zero = is_held ranges (address + 0)
begins_stretch ranges address (suc k) = is_held ranges (address + suc k) && not (is_same_range (first_range ranges (address + k)) (first_range ranges (address + suc k)))

-- how many stretches so many addresses have from this one on, each of them of one range
unfoldable pub stretches_at : List Range → ℕ → ℕ → ℕ
stretches_at ranges address zero = 0
stretches_at ranges address (suc n) = stretches_at ranges address n + (if begins_stretch ranges address n then 1 else 0)

-- beside the listing at most so many calls of `fetch` were made
pub record FetchesAside (calls : ℕ) (before after : SourceState) (old new : MeterCounts) : Type 0 where
  pub calls_are : after.calls ≤ raised before.calls calls
  pub aside : new.aside.calls ≤ old.aside.calls + calls

-- some addresses were read beside the listing, by at most one call of `fetch` for each of their stretches
pub record FetchesStretches (ranges : List Range) (address count : ℕ) (before after : SourceState) (old new : MeterCounts) : Type 0 where
  pub sorted : AreSorted ranges → FetchesAside (stretches_at ranges address count) before after old new
  -- while the ranges are not sorted, a stretch is cut where a block of 32768 addresses ends: one more for each block behind the first
  pub by_blocks : FetchesAside (stretches_at ranges address count + (count - 1) / 32768) before after old new

-- these are the bytes of the addresses from this one on, and whether each is known
pub record ReadsCells (content : Option (List ℕ)) (ranges : List Range) (address : ℕ) (bytes : List ℕ) (known : List Bool) : Type 0 where
  -- a byte is known exactly where a range holds its address
  pub held : known ≡ held_at ranges address (length bytes)
  -- one that is not known is 0
  pub zeros : bytes ≡ map (λ c. unwrap_or c 0) (cells bytes known)
  -- one that is known is the file's, where its content is known
  pub of_file : (F : List ℕ) → content ≡ Some F → cells bytes known ≡ cells_at F ranges address (length bytes)

-- the memory from this address on was read with this answer, aside from the listing, by fetches of at least one byte and of at most so many together
pub record ReadsAddresses (ranges : List Range) (address : ℕ) (result : Result (Unit {0}) SourceFault) (bytes : List ℕ) (known : List Bool) (old new : MeterState) : Type 0 where
  pub cells : OnOk result (ReadsCells old.source.store.content ranges address bytes known)
  pub books : BooksAside (length bytes) (length bytes) old new
  pub caused : IsCaused (fault_of result) old.source new.source

-- among n ranges so many addresses, or fewer, were looked up by halves, and of the looks that it took each was counted
pub record HalvesAtMost (n count old new : ℕ) : Type 0 where
  -- where they are fewer than 2^k, at most k looks for each address
  pub most : (k : ℕ) → n < 2 ^ k → new ≤ old + k * count

-- among these ranges so many addresses, or fewer, were looked up, and of the looks that it took each was counted
pub record LooksUpAtMost (ranges : List Range) (count old new : ℕ) : Type 0 where
  -- while the ranges are sorted and fewer than 2^k, at most k looks for each address
  pub by_halves : AreSorted ranges → (k : ℕ) → length ranges < 2 ^ k → new ≤ old + k * count
  -- else at most one look at each range for each block of 32768 addresses
  pub by_blocks : (AreSorted ranges → ⊥) → new ≤ old + length ranges * (count / 32768 + 1)
